use Rattle.exact_cover.proofs.KeyLaws.{KeyedTo}
use Rattle.exact_cover.specs.Problem.{problem_of}
use Rattle.itemset.specs.Words.{value}
use Rattle.exact_cover.proofs.keys.Given as goal

abbrev pub invariant-loop-k : goal.invariant-loop-k
invariant-loop-k l = KeyedTo (problem_of l.packages (value l.optional) l.order) l.k l.keys
