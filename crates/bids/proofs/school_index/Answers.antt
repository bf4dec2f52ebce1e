use Rattle.bids.proofs.Records.{school_told}
use Rattle.bids.proofs.Places.{school_first, school_next, school_inside}
use Rattle.bids.proofs.Laws.{first-zero, first_hit, first_more}
use Rattle.bids.specs.Contents.{same_school, school_in}
use mathlib.Core.Path.{sym, ◌∙◌}
use native.Mathlib.Omega.{arith}
use Rattle.bids.proofs.school_index.Goals as goal

pub loop-j-init : goal.loop-j-init
unfolding school_in
loop-j-init c = (sym (school_first c.args.layout), first-zero _)

pub school_record-school-requires-clause-site_in_bounds : goal.school_record-school-requires-clause-site_in_bounds
school_record-school-requires-clause-site_in_bounds c =
    omega (arith, school_inside c.args.layout c.loop-j-test.true, c.loop-j.invariant.0, c.requires.n_in_bounds.0)

pub returns-then-eq : goal.returns-then-eq
unfolding school_in same_school
returns-then-eq c =
    let j = c.loop-j.j in
    let same = school_told c.args.layout c.args.file.now (λ v. same_school v c.args.wanted) j c.loop-j.invariant.0 (omega arith)
    c.school_record-school.ensures c.eq.ensures in
    sym (first_hit _ c.args.n j c.loop-j-test.true c.loop-j.invariant.1 (same ∙ c.if-eq.true))

pub loop-j-preserved : goal.loop-j-preserved
unfolding school_in same_school
loop-j-preserved c =
    let j = c.loop-j.j in
    let same = school_told c.args.layout c.args.file.now (λ v. same_school v c.args.wanted) j c.loop-j.invariant.0 (omega arith)
    c.school_record-school.ensures c.eq.ensures in
    (omega (arith, school_next c.args.layout j, c.school_record-school.ensures.next), first_more _ j c.loop-j.invariant.1 (same ∙ c.if-eq.false))
