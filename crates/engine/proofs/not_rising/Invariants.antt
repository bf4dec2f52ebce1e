use Rattle.engine.proofs.Withdrawing.{Rising}
use Rattle.itemset.specs.Words.{sets_of}
use Rattle.engine.proofs.not_rising.Given as goal

abbrev pub invariant-loop-package : goal.invariant-loop-package
invariant-loop-package l = Rising (sets_of l.packages) l.gone l.package-index l.least
