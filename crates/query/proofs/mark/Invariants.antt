use Rattle.query.proofs.Differences.{Marking}
use Rattle.query.proofs.mark.Given as goal

abbrev pub invariant-loop-p : goal.invariant-loop-p
invariant-loop-p l = Marking l.s l.initial.weights l.p-index l.weights
