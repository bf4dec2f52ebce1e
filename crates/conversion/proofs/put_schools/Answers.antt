use mathlib.Core.Path.{◌≡◌, sym, ap, ◌∙◌}
use native.Mathlib.Omega.{arith}
use Rattle.bids.specs.Format.{schools, school_at, schools_in}
use Rattle.bids.proofs.Places.{school_first, school_next, school_inside}
use Rattle.conversion.proofs.Written.{length_school}
use Rattle.conversion.proofs.Putting.{none-put, more-put, room-left}
use Rattle.conversion.proofs.put_schools.Goals as goal

pub loop-init : goal.loop-init
loop-init c = (sym (school_first c.args.from), none-put _ _ _ _)

pub school_record-school-requires-clause-site_in_bounds : goal.school_record-school-requires-clause-site_in_bounds
school_record-school-requires-clause-site_in_bounds c =
    let inside = school_inside c.args.from (rw c.requires.file_in_bounds.1 at c.loop-test.true) in
    omega (arith, inside, c.loop.invariant.0, c.requires.file_in_bounds)

pub put_school-next-requires : goal.put_school-next-requires
put_school-next-requires c = room-left _ (length_school c.args.to) _ c.loop.counter c.loop.invariant.1 c.loop-test.true c.requires.s_in_bounds

pub loop-preserved : goal.loop-preserved
loop-preserved c = let school = c.school_record-school.ensures.school ∙ ap (school_at c.args.from c.args.file.now) c.loop.invariant.0 in (
  omega (arith, school_next c.args.from c.loop.counter, c.school_record-school.ensures.next),
  more-put _ _ c.loop.counter c.loop.invariant.1 school c.put_school-next.ensures,
)

pub returns : goal.returns
unfolding schools_in
returns c = let e : c.loop.counter ≡ schools c.args.file.now = omega (arith, c.requires.file_in_bounds) in rw e at c.loop.invariant.1
