use Rattle.statement.proofs.TestLaws.{enough, too_few}
use Rattle.statement.proofs.FirstOf.{pass, hit, none}
use mathlib.Core.Path.{sym, ◌∙◌}
use Rattle.engine.proofs.admit_join.Goals as goal

pub returns-then-overlap : goal.returns-then-overlap
returns-then-overlap c optional order = sym (hit 35 _ (sym (c.overlap.ensures optional order) ∙ c.if-overlap.true))

pub returns-then-words-max : goal.returns-then-words-max
returns-then-words-max c optional order = sym (pass 35 _ (sym (c.overlap.ensures optional order) ∙ c.if-overlap.false)
    ∙ hit 8 _ (too_few _ _ (rw (c.max.ensures, c.max-larger.ensures) at c.if-words-max.true)))

pub returns : goal.returns
returns c optional order = sym (pass 35 _ (sym (c.overlap.ensures optional order) ∙ c.if-overlap.false)
    ∙ pass 8 _ (enough _ _ (rw (c.max.ensures, c.max-larger.ensures) at c.if-words-max.false)) ∙ none)
