use Rattle.engine.proofs.Combining.{first-unknown, second_unknown, pair-unknown, pair-join, pair_other}
use Rattle.statement.proofs.TestLaws.{enough, too_few}
use Rattle.statement.proofs.FirstOf.{pass, hit, none}
use native.Mathlib.Omega.{arith}
use mathlib.Core.Path.{sym, ◌∙◌}
use Rattle.engine.proofs.admit_pair.Goals as goal

pub returns-then-n-a : goal.returns-then-n-a
returns-then-n-a c optional order = pair-unknown _ _ _ _ _ _ (first-unknown _ _ _ c.if-n-a.true)

pub returns-then-n-b : goal.returns-then-n-b
returns-then-n-b c optional order = pair-unknown _ _ _ _ _ _ (second_unknown _ _ _ c.if-n-b.true)

pub returns-in-Join : goal.returns-in-Join
returns-in-Join c optional order = pair-join _ _ _ _ _ _ (omega (arith, c.if-n-a.false)) (omega (arith, c.if-n-b.false)) c.in-Join.is _ (c.admit_join.ensures optional order)

pub returns-in_default : goal.returns-in_default
returns-in_default c optional order =
    pair_other _ _ _ _ _ _ (omega (arith, c.if-n-a.false)) (omega (arith, c.if-n-b.false)) c.in_default.not-Join _ (sym (hit 8 _ (too_few _ _ c.if-words-lt2.true)))

pub returns-in_default-2 : goal.returns-in_default-2
returns-in_default-2 c optional order = pair_other _ _ _ _ _ _ (omega (arith, c.if-n-a.false)) (omega (arith, c.if-n-b.false)) c.in_default-2.not-Join _
    (sym (pass 8 _ (enough _ _ (omega (arith, c.if-words-lt2.false))) ∙ none))
