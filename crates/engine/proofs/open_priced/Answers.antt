use Rattle.engine.proofs.Delivery.{opened-packages, opened_rest, opened_again, priced_3, priced_rest}
use Rattle.statement.proofs.Results.{none_said, passed_up, not_none}
use mathlib.Core.Path.{sym, ◌∙◌}
use Rattle.engine.proofs.open_priced.Goals as goal

pub returns-in_err-admit_packages : goal.returns-in_err-admit_packages
returns-in_err-admit_packages c = let s = c.from_residual.result in let p = c.from_residual.ensures.1 in let w = c.in_err-admit_packages.was in
    opened-packages _ (passed_up s p w ∙ c.admit_packages.ensures) (not_none s p w)

pub returns-then-costs-number : goal.returns-then-costs-number
returns-then-costs-number c = opened_rest _ (sym c.admit_packages.ensures ∙ none_said c.in_ok-admit_packages.was) (priced_3 _ (λ e. c.if-costs-number.true (e ∙ sym c.number.ensures)))

pub returns : goal.returns
returns c = let e = sym c.admit_packages.ensures ∙ none_said c.in_ok-admit_packages.was in
    opened_rest _ e (priced_rest _ (c.if-costs-number.false ∙ c.number.ensures) (opened_again _ e c.open.ensures))
