use Rattle.guard.proofs.GuardLaws.{optional-refused, order_decides}
use Rattle.exact_cover.specs.Problem.{problem_of}
use Rattle.itemset.specs.Words.{width, value}
use Rattle.statement.proofs.FirstOf.{pass, hit, none}
use Rattle.statement.proofs.Results.{none_said, passed_up, not_none}
use Rattle.statement.proofs.TestLaws.{within_limits}
use borrow.Author.Tests.{not-true, not-false}
use mathlib.Core.Path.{sym, ◌∙◌}
use Rattle.guard.proofs.admit_packages.Goals as goal

pub returns-then-too_large : goal.returns-then-too_large
returns-then-too_large c = sym (hit 1 _ (sym c.too_large.ensures ∙ c.if-too_large.true))

pub returns-then-not-clean : goal.returns-then-not-clean
returns-then-not-clean c = sym (pass 1 _ (sym c.too_large.ensures ∙ c.if-too_large.false)
    ∙ hit 2 _ (not-false _ (sym c.clean.ensures ∙ c.if-not-clean.true)))

pub returns-in_err-admit_optional : goal.returns-in_err-admit_optional
returns-in_err-admit_optional c = let Q = problem_of c.args.packages.now (value c.args.optional) c.args.order.now in
    let s = c.from_residual.result in let p = c.from_residual.ensures.1 in let w = c.in_err-admit_optional.was in
    sym (optional-refused Q c.args.m (sym c.too_large.ensures ∙ c.if-too_large.false) (not-true _ (sym c.clean.ensures ∙ c.if-not-clean.false))
    (passed_up s p w ∙ c.admit_optional.ensures c.args.order.now) (not_none s p w))

pub orderly-requires : goal.orderly-requires
unfolding width
orderly-requires c = (within_limits _ _ (sym c.too_large.ensures ∙ c.if-too_large.false)).0

pub returns-then-not-orderly : goal.returns-then-not-orderly
returns-then-not-orderly c = let Q = problem_of c.args.packages.now (value c.args.optional) c.args.order.now in
    sym (order_decides Q c.args.m (sym c.too_large.ensures ∙ c.if-too_large.false) (not-true _ (sym c.clean.ensures ∙ c.if-not-clean.false))
    (c.admit_optional.ensures c.args.order.now) (none_said c.in_ok-admit_optional.was)
    ∙ hit 34 _ (not-false _ (sym c.orderly.ensures ∙ c.if-not-orderly.true)))

pub returns : goal.returns
returns c = let Q = problem_of c.args.packages.now (value c.args.optional) c.args.order.now in
    sym (order_decides Q c.args.m (sym c.too_large.ensures ∙ c.if-too_large.false) (not-true _ (sym c.clean.ensures ∙ c.if-not-clean.false))
    (c.admit_optional.ensures c.args.order.now) (none_said c.in_ok-admit_optional.was)
    ∙ pass 34 _ (not-true _ (sym c.orderly.ensures ∙ c.if-not-orderly.false)) ∙ none)
