use borrow.Author.Rules.{rules}
use Rattle.itemset.specs.Words.{width}
use Rattle.join_demo.proofs.domino.Goals as goal

pub single-requires : goal.single-requires
unfolding width
single-requires c = search rules

pub single-requires-2 : goal.single-requires-2
unfolding width
single-requires-2 c = search rules
