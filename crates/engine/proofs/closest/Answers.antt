use Rattle.statement.specs.Replies.{refused, number_of, closest_reply}
use mathlib.Core.Path.{◌≡◌, refl, ap, ◌∙◌}
use Rattle.statement.proofs.Results.{none_said, said, some_said, was_none, was_some, reply_up}
use Rattle.engine.proofs.Delivery.{closest-refused, closest-nothing, closest_short, closest_delivers}
use Rattle.engine.proofs.closest.Goals as goal

pub returns-in_err-open_list : goal.returns-in_err-open_list
returns-in_err-open_list c = let s = c.from_residual.result in let p = c.from_residual.ensures.1 in let w = c.in_err-open_list.was in
    rw (reply_up s p w closest_reply (λ y. refl)) (closest-refused c.open_list.ensures (some_said w))

pub returns-then-a-eq0 : goal.returns-then-a-eq0
returns-then-a-eq0 c = closest-nothing c.open_list.ensures (none_said c.in_ok-open_list.was) c.if-a-eq0.true

pub closest-requires-clause-comparable : goal.closest-requires-clause-comparable
closest-requires-clause-comparable c = (c.open_list.ensures.ready (none_said c.in_ok-open_list.was)).comparable

pub returns-in_err-chosen : goal.returns-in_err-chosen
returns-in_err-chosen c = let s = c.from_residual-in_err-chosen.result in let p = c.from_residual-in_err-chosen.ensures.1 in let w = c.in_err-chosen.was in
    let e = was_none c.closest.result _ c.ok_or.ensures.value w in
    let said_15 : closest_reply s ≡ refused 15 = reply_up s p w closest_reply (λ y. refl) ∙ ap refused (said w ∙ ap number_of e.1) in
    rw said_15 (closest_short c.open_list.ensures (none_said c.in_ok-open_list.was) c.if-a-eq0.false (rw e.0 at c.closest.ensures))

pub returns : goal.returns
returns c = closest_delivers c.open_list.ensures (none_said c.in_ok-open_list.was) c.if-a-eq0.false
    (rw (was_some c.closest.result _ c.ok_or.ensures.value c.in_ok-chosen.was) at c.closest.ensures)
