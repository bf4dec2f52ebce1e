use Rattle.guard.proofs.GuardLaws.{passed_found, passed_more, passed_all}
use Rattle.statement.proofs.TestLaws.{answer-known, answer-unknown}
use mathlib.Core.Path.{refl, sym}
use native.Mathlib.Omega.{arith}
use Rattle.engine.proofs.any_unknown.Goals as goal

pub returns-then-n-answer : goal.returns-then-n-answer
returns-then-n-answer c = sym (passed_found c.loop-answer.answer-index c.loop-answer.invariant c.loop-answer-test.true refl (answer-unknown _ _ (omega (arith, c.if-n-answer.true))))

pub loop-answer-preserved : goal.loop-answer-preserved
loop-answer-preserved c = passed_more c.loop-answer.answer-index c.loop-answer.invariant c.loop-answer-test.true refl (answer-known _ _ (omega (arith, c.if-n-answer.false)))

pub returns : goal.returns
returns c = sym (passed_all c.loop-answer.answer-index c.loop-answer.invariant c.loop-answer-test.false)
