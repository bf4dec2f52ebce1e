use Rattle.printout.proofs.Sheets.{lines_none, lines_more}
use Rattle.printout.proofs.Putting.{adds_none, adds_then, adds_same}
use Rattle.printout.specs.Program.{timetable_lines}
use Rattle.query.specs.Questions.{family_at}
use native.Mathlib.Omega.{arith}
use Rattle.printout.proofs.put_timetables.Goals as goal

pub loop-k-init : goal.loop-k-init
loop-k-init c = (omega arith, adds_same (lines_none c.args.week.now.costs.now (family_at c.args.t.now c.args.a)) (adds_none c.args.out.now))

pub loop-k-preserved : goal.loop-k-preserved
loop-k-preserved c = let F = family_at c.args.t.now c.args.a in (
  omega (arith, c.work-1.given, c.loop-k.invariant.0),
  adds_same (lines_more c.args.week.now.costs.now F c.loop-k.k)
      (adds_then (timetable_lines c.args.week.now.costs.now F c.loop-k.k) c.loop-k.invariant.1 c.put_nth.ensures),
)
