use Rattle.statement.specs.Replies.{refused, number_of, reply_of}
use mathlib.Core.Path.{◌≡◌, refl, ap, ◌∙◌}
use Rattle.statement.proofs.Results.{none_said, said, some_said, was_none, was_some, reply_up}
use Rattle.engine.proofs.Delivery.{place-refused, place_uncountable, place_delivers}
use Rattle.engine.proofs.place.Goals as goal

pub returns-in_err-open_list : goal.returns-in_err-open_list
returns-in_err-open_list c = let s = c.from_residual.result in let p = c.from_residual.ensures.1 in let w = c.in_err-open_list.was in
    rw (reply_up s p w reply_of (λ y. refl)) (place-refused c.open_list.ensures (some_said w))

pub returns-in_err-ok_or : goal.returns-in_err-ok_or
returns-in_err-ok_or c = let s = c.from_residual-in_err-ok_or.result in let p = c.from_residual-in_err-ok_or.ensures.1 in let w = c.in_err-ok_or.was in
    let e = was_none c.count.result _ c.ok_or.ensures.value w in
    let said_11 : reply_of s ≡ refused 11 = reply_up s p w reply_of (λ y. refl) ∙ ap refused (said w ∙ ap number_of e.1) in
    rw said_11 (place_uncountable c.open_list.ensures (none_said c.in_ok-open_list.was) (rw e.0 at c.count.ensures.told))

pub returns : goal.returns
returns c = place_delivers c.open_list.ensures (none_said c.in_ok-open_list.was)
    (rw (was_some c.count.result _ c.ok_or.ensures.value c.in_ok-ok_or.was) at c.count.ensures.told) c.place.result c.ok_or-2.ensures.value c.place.ensures
