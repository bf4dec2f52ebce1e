use Rattle.statement.specs.Refusals.{stray_optional}
use Rattle.statement.proofs.FirstOf.{pass, hit, none}
use Rattle.statement.proofs.NoneOptional.{none-stray, none_due}
use Rattle.exact_cover.specs.Problem.{problem_of}
use Rattle.itemset.specs.Words.{value}
use borrow.Author.Tests.{not-true, not-false, eqb-true}
use mathlib.Core.Path.{sym, ap, ◌∙◌}
use mathlib.Core.Bool.{not}
use Rattle.guard.proofs.admit_optional.Goals as goal

pub returns-then-is_empty : goal.returns-then-is_empty
returns-then-is_empty c order = let Q = problem_of c.args.packages.now (value c.args.optional) order in
    let e = eqb-true _ _ (sym c.is_empty.ensures ∙ c.if-is_empty.true) in
    sym (pass 29 _ (none-stray Q c.args.m e) ∙ pass 30 _ (none_due Q c.args.m e c.requires) ∙ none)

pub returns-then-not-below : goal.returns-then-not-below
unfolding stray_optional
returns-then-not-below c order = sym (hit 29 _ (ap not (sym c.below.ensures ∙ c.if-not-below.true)))

pub returns-then-not-all_due : goal.returns-then-not-all_due
unfolding stray_optional
returns-then-not-all_due c order = sym (pass 29 _ (ap not (sym c.below.ensures ∙ c.if-not-below.false))
    ∙ hit 30 _ (not-false _ (sym (c.all_due.ensures order) ∙ c.if-not-all_due.true)))

pub returns : goal.returns
unfolding stray_optional
returns c order = sym (pass 29 _ (ap not (sym c.below.ensures ∙ c.if-not-below.false))
    ∙ pass 30 _ (not-true _ (sym (c.all_due.ensures order) ∙ c.if-not-all_due.false)) ∙ none)
