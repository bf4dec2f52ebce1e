use Rattle.guard.proofs.GuardLaws.{Passed}
use Rattle.exact_cover.specs.Problem.{problem_of, done}
use Rattle.itemset.specs.Words.{value, sets_of}
use mathlib.Core.List.{[]}
use Rattle.guard.proofs.all_due.Given as goal

abbrev pub invariant-loop-p : goal.invariant-loop-p
invariant-loop-p l = Passed (done (problem_of l.packages (value l.optional) [])) (sets_of l.packages) l.p
