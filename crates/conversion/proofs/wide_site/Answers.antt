use Prim.Native.Nat.{◌*◌}
use mathlib.Core.Bool.{not}
use mathlib.Core.Path.{sym, ap, ◌∙◌}
use native.Mathlib.Omega.{arith}
use Rattle.itemset.specs.Items.{belowb}
use Rattle.bids.specs.declared.School.{School}
use Rattle.bids.proofs.Records.{school_told, school_hit, no_school}
use Rattle.bids.proofs.Places.{school_first, school_next, school_inside}
use Rattle.bids.proofs.Laws.{first-zero, first_more}
use Rattle.conversion.specs.Contract.{wide_site}
use Rattle.conversion.proofs.wide_site.Goals as goal

pub loop-init : goal.loop-init
loop-init c = (sym (school_first c.args.from), first-zero _)

pub school_record-school-requires-clause-site_in_bounds : goal.school_record-school-requires-clause-site_in_bounds
school_record-school-requires-clause-site_in_bounds c =
    let inside = school_inside c.args.from (rw c.requires.file_in_bounds.1 at c.loop-test.true) in
    omega (arith, inside, c.loop.invariant.0, c.requires.file_in_bounds)

pub returns-then-not-below_word : goal.returns-then-not-below_word
unfolding wide_site
returns-then-not-below_word c =
    let j = c.loop.counter in
    let fits = school_told c.args.from c.args.file.now (λ (v : School). belowb v.site (8 * c.args.to.site)) j c.loop.invariant.0
    (omega (arith, c.requires.file_in_bounds)) c.school_record-school.ensures c.below_word.ensures in
    school_hit c.args.from c.args.file.now _ j c.loop.invariant.1 (omega (arith, c.requires.file_in_bounds)) (ap not (fits ∙ c.if-not-below_word.true))

pub loop-preserved : goal.loop-preserved
loop-preserved c =
    let j = c.loop.counter in
    let fits = school_told c.args.from c.args.file.now (λ (v : School). belowb v.site (8 * c.args.to.site)) j c.loop.invariant.0
    (omega (arith, c.requires.file_in_bounds)) c.school_record-school.ensures c.below_word.ensures in (
      omega (arith, school_next c.args.from j, c.school_record-school.ensures.next),
      first_more _ j c.loop.invariant.1 (ap not (fits ∙ c.if-not-below_word.false)),
    )

pub returns : goal.returns
unfolding wide_site
returns c = no_school c.args.from c.args.file.now _ c.loop.counter c.loop.invariant.1 (omega (arith, c.requires.file_in_bounds))
