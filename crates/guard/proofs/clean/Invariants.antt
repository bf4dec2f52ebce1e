use Rattle.guard.proofs.GuardLaws.{Passed}
use Rattle.statement.specs.Refusals.{stray_package}
use Rattle.itemset.specs.Words.{sets_of}
use Rattle.guard.proofs.clean.Given as goal

abbrev pub invariant-loop-k : goal.invariant-loop-k
invariant-loop-k l = Passed (stray_package l.m) (sets_of l.packages) l.k
