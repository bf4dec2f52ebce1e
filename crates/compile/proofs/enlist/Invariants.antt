use Rattle.compile.proofs.TopLaws.{Built}
use Rattle.exact_cover.specs.Positions.{in_plain_order}
use Rattle.itemset.specs.Words.{value_of, sets_of}
use Rattle.compile.proofs.enlist.Given as goal

abbrev pub invariant-loop-k : goal.invariant-loop-k
invariant-loop-k l = Built (in_plain_order (sets_of l.packs) (value_of l.optional)) (sets_of l.packages) l.places l.k l.leads l.homes
