use Rattle.table.proofs.CheckLaws.{NodesPassed}
use Rattle.table.proofs.check.Given as goal

abbrev pub invariant-loop-i : goal.invariant-loop-i
invariant-loop-i l = NodesPassed l.keys l.t l.i l.index
