use Rattle.bids.proofs.Accepted.{header_inside, schools_few}
use mathlib.Core.Path.{sym, ◌∙◌}
use native.Mathlib.Omega.{arith}
use lib.ListN.{length}
use Rattle.std.specs.Prelude.{Err}
use Rattle.statement.specs.declared.Refusal.TheVariants.{ShortPage}
use Rattle.statement.proofs.Results.{passed_up, not_none}
use Rattle.statement.proofs.TestLaws.{reply_gives}
use Rattle.bids.specs.Contract.{read_gives}
use Rattle.bids.proofs.Fit.{fillable}
use Rattle.bids.proofs.Answers.{by_file, few_words, few_costs, roomy, read-refused, optional-items, optional-small, one_word}
use Rattle.bids.proofs.read_as.Goals as goal

pub returns-in_err-h : goal.returns-in_err-h
returns-in_err-h c =
    let s = c.from_residual.result in let p = c.from_residual.ensures.1 in let w = c.in_err-h.was in
    read-refused s (by_file _ _ _ _ (passed_up s p w ∙ c.admit.ensures.refusal) (not_none s p w)) (not_none s p w)

pub returns-then-packages-n : goal.returns-then-packages-n
returns-then-packages-n c =
    read-refused (Err ShortPage) (few_words _ _ _ _ (sym c.in_ok-h.ensures.refusal) (omega (arith, c.in_ok-h.ensures.header.packages, c.if-packages-n.true))) (λ z. omega arith)

pub returns-then-costs-n : goal.returns-then-costs-n
returns-then-costs-n c =
    read-refused (Err ShortPage) (few_costs _ _ _ _ (sym c.in_ok-h.ensures.refusal) (omega (arith, c.in_ok-h.ensures.header.packages, c.if-costs-n.true))) (λ z. omega arith)

pub fill-requires-clause-fillable : goal.fill-requires-clause-fillable
fill-requires-clause-fillable c =
    let h = c.in_ok-h.ensures.header in
    fillable c.args.layout c.args.file.now c.requires (sym c.in_ok-h.ensures.refusal) h.schools h.slots h.packages

pub optional_slots-slots-requires-clause-header_in_bounds : goal.optional_slots-slots-requires-clause-header_in_bounds
optional_slots-slots-requires-clause-header_in_bounds c = header_inside c.args.layout c.args.file.now (sym c.in_ok-h.ensures.refusal) c.requires

pub shifted-requires-clause-s_bound : goal.shifted-requires-clause-s_bound
shifted-requires-clause-s_bound c = schools_few c.args.layout c.args.file.now (sym c.in_ok-h.ensures.refusal) c.in_ok-h.ensures.header.schools

pub shifted-requires-clause-s_bound_2 : goal.shifted-requires-clause-s_bound_2
shifted-requires-clause-s_bound_2 c =
    optional-small c.args.layout c.args.file.now (sym c.in_ok-h.ensures.refusal) c.in_ok-h.ensures.header.schools c.optional_slots-slots.ensures

pub returns : goal.returns
returns c =
    let b = c.args.file.now in
    let h = c.in_ok-h.ensures.header in
    let z = sym c.in_ok-h.ensures.refusal in
    let e = roomy c.args.layout b (length c.args.packages.now) (length c.args.costs.now) z (omega (arith, h.packages, c.if-packages-n.false))
    (omega (arith, h.packages, c.if-costs-n.false)) in
    let o = one_word c.shifted.result ∙ c.shifted.ensures ∙ optional-items c.args.layout b z h.schools c.optional_slots-slots.ensures in
    record {
      answer = (rw (h.schools, h.slots, h.packages, o) (reply_gives (read_gives c.args.layout b) e));
      items = rw e c.fill.ensures.packages_after;
      costs = rw e c.fill.ensures.costs_after;
    }
