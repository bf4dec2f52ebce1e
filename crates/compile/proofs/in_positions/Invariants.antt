use Rattle.compile.proofs.PackLaws.{Written}
use Rattle.itemset.specs.Words.{sets_of}
use Rattle.compile.proofs.in_positions.Given as goal

abbrev pub invariant-loop-k : goal.invariant-loop-k
invariant-loop-k l = Written (sets_of l.packages) l.order l.packs l.k
