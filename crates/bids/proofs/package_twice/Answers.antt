use Rattle.bids.proofs.Records.{package_told, package_hit, no_package}
use Rattle.bids.proofs.Places.{package_next, package_inside}
use Rattle.bids.proofs.Laws.{first-zero, first_more}
use Rattle.bids.specs.Format.{packages_in}
use Rattle.bids.specs.Contents.{package_in, package_twice}
use borrow.Author.Tests.{lt-ltb, le-ltb}
use native.Mathlib.Omega.{arith}
use Rattle.bids.proofs.package_twice.Goals as goal

pub loop-k-init : goal.loop-k-init
loop-k-init c = (c.first_package-cursor.ensures, first-zero _)

pub package_record-bid-requires-clause-site_in_bounds : goal.package_record-bid-requires-clause-site_in_bounds
package_record-bid-requires-clause-site_in_bounds c =
    omega (arith, package_inside c.args.layout c.args.s c.loop-k-test.true, c.loop-k.invariant.0, c.requires.n_in_bounds)

pub package_index-before-requires-clause-n_in_bounds : goal.package_index-before-requires-clause-n_in_bounds
package_index-before-requires-clause-n_in_bounds c =
    (omega (arith, package_inside c.args.layout c.args.s c.loop-k-test.true, c.requires.n_in_bounds), omega arith)

pub returns-then-before-k : goal.returns-then-before-k
unfolding package_twice
returns-then-before-k c =
    let k = c.loop-k.k in
    let found = package_told c.args.layout c.args.file.now (package_in (packages_in c.args.layout c.args.file.now) k) k c.requires.s_value.0
    c.loop-k.invariant.0 (omega arith) c.package_record-bid.ensures c.package_index-before.ensures in
    package_hit c.args.layout c.args.file.now _ k c.loop-k.invariant.1 (omega arith) (rw found (lt-ltb _ _ c.if-before-k.true))

pub loop-k-preserved : goal.loop-k-preserved
loop-k-preserved c =
    let k = c.loop-k.k in
    let found = package_told c.args.layout c.args.file.now (package_in (packages_in c.args.layout c.args.file.now) k) k c.requires.s_value.0
    c.loop-k.invariant.0 (omega arith) c.package_record-bid.ensures c.package_index-before.ensures in (
      omega (arith, package_next c.args.layout c.args.s k, c.package_record-bid.ensures.next),
      first_more _ k c.loop-k.invariant.1 (rw found (le-ltb _ _ c.if-before-k.false)),
    )

pub returns : goal.returns
unfolding package_twice
returns c = no_package c.args.layout c.args.file.now _ c.loop-k.k c.loop-k.invariant.1 (omega arith)
