use Rattle.statement.proofs.TestLaws.{enough, too_few}
use Rattle.statement.proofs.FirstOf.{pass, hit, none}
use mathlib.Core.Path.{sym, ◌∙◌}
use native.Mathlib.Omega.{arith}
use Rattle.engine.proofs.admit_withdrawal.Goals as goal

pub returns-then-any_unknown : goal.returns-then-any_unknown
returns-then-any_unknown c optional order = record { says = sym (hit 5 _ (sym c.any_unknown.ensures ∙ c.if-any_unknown.true)) }

pub returns-then-not_rising : goal.returns-then-not_rising
returns-then-not_rising c optional order = record {
  says = sym (pass 5 _ (sym c.any_unknown.ensures ∙ c.if-any_unknown.false) ∙ hit 36 _ (sym (c.not_rising.ensures optional order) ∙ c.if-not_rising.true));
}

pub returns-then-words-t : goal.returns-then-words-t
returns-then-words-t c optional order = record {
  says = sym (pass 5 _ (sym c.any_unknown.ensures ∙ c.if-any_unknown.false) ∙ pass 36 _ (sym (c.not_rising.ensures optional order) ∙ c.if-not_rising.false)
      ∙ hit 8 _ (too_few _ _ (omega (arith, c.if-words-t.true))));
}

pub returns : goal.returns
returns c optional order = record {
  says = sym (pass 5 _ (sym c.any_unknown.ensures ∙ c.if-any_unknown.false) ∙ pass 36 _ (sym (c.not_rising.ensures optional order) ∙ c.if-not_rising.false)
      ∙ pass 8 _ (enough _ _ (omega (arith, c.if-words-t.false))) ∙ none);
}
