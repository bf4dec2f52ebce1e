use Rattle.statement.specs.Replies.{reply_of}
use mathlib.Core.Path.{refl}
use Rattle.statement.proofs.Results.{none_said, some_said, reply_up}
use Rattle.engine.proofs.Delivery.{pick-refused, pick_delivers}
use Rattle.engine.proofs.pick.Goals as goal

pub returns-in_err-open_at : goal.returns-in_err-open_at
returns-in_err-open_at c = let s = c.from_residual.result in let p = c.from_residual.ensures.1 in let w = c.in_err-open_at.was in
    rw (reply_up s p w reply_of (λ y. refl)) (pick-refused c.open_at.ensures (some_said w))

pub returns : goal.returns
returns c = pick_delivers c.open_at.ensures (none_said c.in_ok-open_at.was) c.pick.result c.ok_or.ensures.value c.pick.ensures
