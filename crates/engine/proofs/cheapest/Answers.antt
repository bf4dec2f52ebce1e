use Rattle.statement.specs.Replies.{refused, number_of, cheapest_reply}
use mathlib.Core.Path.{◌≡◌, refl, ap, ◌∙◌}
use native.Mathlib.Omega.{arith}
use Rattle.statement.proofs.Results.{none_said, said, some_said, was_none, was_some, reply_up}
use Rattle.engine.proofs.Delivery.{cheapest-refused, cheapest_words, cheapest-nothing, cheapest_short, cheapest_delivers, priceable}
use Rattle.engine.proofs.cheapest.Goals as goal

pub returns-in_err-open_priced : goal.returns-in_err-open_priced
returns-in_err-open_priced c = let s = c.from_residual.result in let p = c.from_residual.ensures.1 in let w = c.in_err-open_priced.was in
    rw (reply_up s p w cheapest_reply (λ y. refl)) (cheapest-refused c.open_priced.ensures (some_said w))

pub returns-then-work-a : goal.returns-then-work-a
returns-then-work-a c = cheapest_words c.open_priced.ensures (none_said c.in_ok-open_priced.was) c.if-work-a.true

pub returns-then-a-eq0 : goal.returns-then-a-eq0
returns-then-a-eq0 c = cheapest-nothing c.open_priced.ensures (none_said c.in_ok-open_priced.was) (omega (arith, c.if-work-a.false)) c.if-a-eq0.true

pub cheapest-requires-clause-priceable : goal.cheapest-requires-clause-priceable
cheapest-requires-clause-priceable c = priceable _ _ c.open_priced.ensures (none_said c.in_ok-open_priced.was)

pub returns-in_err-chosen : goal.returns-in_err-chosen
returns-in_err-chosen c = let s = c.from_residual-in_err-chosen.result in let p = c.from_residual-in_err-chosen.ensures.1 in let w = c.in_err-chosen.was in
    let e = was_none c.cheapest.result _ c.ok_or.ensures.value w in
    let said_15 : cheapest_reply s ≡ refused 15 = reply_up s p w cheapest_reply (λ y. refl) ∙ ap refused (said w ∙ ap number_of e.1) in
    rw said_15 (cheapest_short c.open_priced.ensures (none_said c.in_ok-open_priced.was) (omega (arith, c.if-work-a.false)) c.if-a-eq0.false (rw e.0 at c.cheapest.ensures))

pub returns : goal.returns
returns c = cheapest_delivers c.open_priced.ensures (none_said c.in_ok-open_priced.was) (omega (arith, c.if-work-a.false)) c.if-a-eq0.false
    (rw (was_some c.cheapest.result _ c.ok_or.ensures.value c.in_ok-chosen.was) at c.cheapest.ensures)
