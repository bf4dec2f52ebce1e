use Rattle.guard.proofs.GuardLaws.{admitted_packages, admitted_spoilt, admitted_sound}
use Rattle.statement.proofs.Results.{none_said, passed_up, not_none}
use Rattle.statement.proofs.Admission.{fit_of, rows}
use mathlib.Core.Path.{sym, ◌∙◌}
use Rattle.guard.proofs.admit.Goals as goal

pub returns-in_err-admit_packages : goal.returns-in_err-admit_packages
returns-in_err-admit_packages c = let s = c.from_residual.result in let p = c.from_residual.ensures.1 in let w = c.in_err-admit_packages.was in
    admitted_packages _ (passed_up s p w ∙ c.admit_packages.ensures) (not_none s p w)

pub usable-requires-clause-rows : goal.usable-requires-clause-rows
usable-requires-clause-rows c = rows (fit_of _ (sym c.admit_packages.ensures ∙ none_said c.in_ok-admit_packages.was)).0

pub returns-then-not-usable : goal.returns-then-not-usable
returns-then-not-usable c = admitted_spoilt (sym c.admit_packages.ensures ∙ none_said c.in_ok-admit_packages.was) c.usable.ensures (c.if-not-usable.true)

pub returns : goal.returns
returns c = admitted_sound (sym c.admit_packages.ensures ∙ none_said c.in_ok-admit_packages.was) c.usable.ensures (c.if-not-usable.false)
