use Rattle.bids.proofs.Records.{package_told}
use Rattle.bids.proofs.Places.{package_next, package_inside}
use Rattle.bids.proofs.Laws.{first-zero, first_hit, first_more}
use Rattle.bids.specs.Contents.{same_package, package_in}
use mathlib.Core.Path.{sym, ◌∙◌}
use native.Mathlib.Omega.{arith}
use Rattle.bids.proofs.package_index.Goals as goal

pub loop-k-init : goal.loop-k-init
unfolding package_in
loop-k-init c = (c.first_package-cursor.ensures, first-zero _)

pub package_record-bid-requires-clause-site_in_bounds : goal.package_record-bid-requires-clause-site_in_bounds
package_record-bid-requires-clause-site_in_bounds c =
    omega (arith, package_inside c.args.layout c.args.s c.loop-k-test.true, c.loop-k.invariant.0, c.requires.n_in_bounds.0)

pub returns-then-same_package : goal.returns-then-same_package
unfolding package_in
returns-then-same_package c =
    let k = c.loop-k.k in
    let same = package_told c.args.layout c.args.file.now (λ q. same_package q c.args.wanted) k c.requires.s_value.0 c.loop-k.invariant.0 (omega arith)
    c.package_record-bid.ensures c.same_package.ensures in
    sym (first_hit _ c.args.n k c.loop-k-test.true c.loop-k.invariant.1 (same ∙ c.if-same_package.true))

pub loop-k-preserved : goal.loop-k-preserved
unfolding package_in
loop-k-preserved c =
    let k = c.loop-k.k in
    let same = package_told c.args.layout c.args.file.now (λ q. same_package q c.args.wanted) k c.requires.s_value.0 c.loop-k.invariant.0 (omega arith)
    c.package_record-bid.ensures c.same_package.ensures in
    (omega (arith, package_next c.args.layout c.args.s k, c.package_record-bid.ensures.next), first_more _ k c.loop-k.invariant.1 (same ∙ c.if-same_package.false))
