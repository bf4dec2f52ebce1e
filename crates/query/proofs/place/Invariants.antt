use Rattle.query.proofs.Seeks.{Seek}
use Rattle.query.proofs.place.Given as goal

abbrev pub invariant-loop-node : goal.invariant-loop-node
invariant-loop-node l = Seek l.t l.a l.s l.node l.i l.k

abbrev pub decreases-loop-node : goal.decreases-loop-node
decreases-loop-node l = l.node
