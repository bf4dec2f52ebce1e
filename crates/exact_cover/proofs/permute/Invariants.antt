use Rattle.exact_cover.proofs.LocateLaws.{Moved}
use Rattle.itemset.specs.Words.{value}
use Rattle.exact_cover.proofs.permute.Given as goal

abbrev pub invariant-loop-rest : goal.invariant-loop-rest
invariant-loop-rest l = Moved l.order (value l.initial.rest) (value l.rest) (value l.r)

abbrev pub decreases-loop-rest : goal.decreases-loop-rest
decreases-loop-rest l = value l.rest
