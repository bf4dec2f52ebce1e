use Rattle.table.proofs.Walk.{FindWalk}
use Rattle.zdd.specs.Table.{nodes_of, node}
use Rattle.table.proofs.find.Given as goal

abbrev pub invariant-loop-k : goal.invariant-loop-k
invariant-loop-k l = FindWalk (nodes_of l.t) l.m (node l.label l.lo l.hi) l.k

abbrev pub decreases-loop-k : goal.decreases-loop-k
decreases-loop-k l = l.k
