use Rattle.itemset.specs.Words.{value, sets_of}
use Rattle.zdd.specs.Table.{nodes_of}
use Rattle.support.proofs.Marking.{Marked}
use Rattle.support.proofs.gather.Given as goal

abbrev pub invariant-loop-k : goal.invariant-loop-k
invariant-loop-k l = Marked (sets_of l.packages) (nodes_of l.t) l.a l.k l.marks (value l.items)
