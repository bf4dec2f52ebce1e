use Rattle.compile.proofs.TopLaws.{covered-full, covered-answer}
use Rattle.table.proofs.GrownLaws.{grown_more}
use mathlib.Core.Path.{refl}
use Rattle.compile.proofs.cover.Goals as goal

pub returns-then-r : goal.returns-then-r
returns-then-r c = covered-full c.in-Some.ensures _ _ _ refl c.if-r.true (c.rollback-then-r.ensures _ _ c.requires.sound c.in-Some.ensures.grown refl)

pub overflow_sub-result : goal.overflow_sub-result
overflow_sub-result c = grown_more c.in-Some.ensures.grown

pub returns : goal.returns
returns c = covered-answer c.in-Some.ensures _ refl c.if-r.false refl
