use Rattle.guard.proofs.GuardLaws.{Passed}
use Rattle.statement.specs.Refusals.{unknown_answer}
use Rattle.engine.proofs.any_unknown.Given as goal

abbrev pub invariant-loop-answer : goal.invariant-loop-answer
invariant-loop-answer l = Passed (unknown_answer l.t) l.answers l.answer-index
