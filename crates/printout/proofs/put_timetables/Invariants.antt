use Rattle.printout.specs.Program.{timetable_lines}
use Rattle.printout.specs.Written.{Adds}
use Rattle.query.specs.Questions.{family_at}
use lib.ListN.{length}
use mathlib.Core.Path.{◌≡◌}
use Rattle.printout.proofs.put_timetables.Given as goal

abbrev pub invariant-loop-k : goal.invariant-loop-k
invariant-loop-k l = (length l.work ≡ length l.initial.work) × Adds l.initial.out l.out (timetable_lines l.week.costs.now (family_at l.t l.a) l.k)
