use Rattle.bids.proofs.Records.{package_hit, no_package, stray_school, stray_slots}
use Rattle.bids.proofs.Places.{package_next, package_inside, school_before}
use Rattle.bids.proofs.Laws.{first-zero, first_more}
use Rattle.bids.specs.Contents as C
use mathlib.Core.Path.{ap, ◌∙◌}
use mathlib.Core.Bool.{not}
use native.Mathlib.Omega.{arith}
use Rattle.bids.proofs.stray.Goals as goal

pub loop-init : goal.loop-init
loop-init c = (c.first_package-cursor.ensures, first-zero _)

pub package_record-bid-requires-clause-site_in_bounds : goal.package_record-bid-requires-clause-site_in_bounds
package_record-bid-requires-clause-site_in_bounds c =
    omega (arith, package_inside c.args.layout c.args.s c.loop-test.true, c.loop.invariant.0, c.requires.long)

pub school_index-j-requires-clause-n_in_bounds : goal.school_index-j-requires-clause-n_in_bounds
school_index-j-requires-clause-n_in_bounds c =
    (omega (arith, school_before c.args.layout c.args.s c.args.n, c.requires.long), omega (arith, c.requires.counts.0))

pub returns-then-j-s : goal.returns-then-j-s
unfolding C.stray
returns-then-j-s c =
    let k = c.loop.counter in
    let strays = stray_school c.requires k c.loop.invariant.0 c.loop-test.true c.package_record-bid.ensures c.school_index-j.ensures c.if-j-s.true in
    package_hit c.args.layout c.args.file.now _ k c.loop.invariant.1 (omega (arith, c.requires.counts.1.1)) strays

pub returns-then-not-below_word : goal.returns-then-not-below_word
unfolding C.stray
returns-then-not-below_word c =
    let k = c.loop.counter in
    let strays = stray_slots c.requires k c.loop.invariant.0 c.loop-test.true c.package_record-bid.ensures c.school_index-j.ensures c.if-j-s.false
    c.below_word.ensures in
    package_hit c.args.layout c.args.file.now _ k c.loop.invariant.1 (omega (arith, c.requires.counts.1.1)) (strays ∙ ap not c.if-not-below_word.true)

pub loop-preserved : goal.loop-preserved
loop-preserved c =
    let k = c.loop.counter in
    let strays = stray_slots c.requires k c.loop.invariant.0 c.loop-test.true c.package_record-bid.ensures c.school_index-j.ensures c.if-j-s.false
    c.below_word.ensures in (
      omega (arith, package_next c.args.layout c.args.s k, c.package_record-bid.ensures.next),
      first_more _ k c.loop.invariant.1 (strays ∙ ap not c.if-not-below_word.false),
    )

pub returns : goal.returns
unfolding C.stray
returns c = no_package c.args.layout c.args.file.now _ c.loop.counter c.loop.invariant.1 (omega (arith, c.requires.counts.1.1))
