use Rattle.withdraw.proofs.MarkLaws.{Marking}
use Rattle.withdraw.proofs.mark.Given as goal

abbrev pub invariant-loop-i : goal.invariant-loop-i
invariant-loop-i l = Marking l.gone l.t l.answers l.initial.work l.i l.work
