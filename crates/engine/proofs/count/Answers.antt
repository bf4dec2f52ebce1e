use Rattle.statement.specs.Replies.{reply_of}
use mathlib.Core.Path.{refl}
use native.Mathlib.Omega.{arith}
use Rattle.statement.proofs.Results.{none_said, some_said, reply_up}
use Rattle.engine.proofs.Delivery.{count-refused, count_words, count_delivers}
use Rattle.engine.proofs.count.Goals as goal

pub returns-in_err-open : goal.returns-in_err-open
returns-in_err-open c = let s = c.from_residual.result in let p = c.from_residual.ensures.1 in let w = c.in_err-open.was in
    rw (reply_up s p w reply_of (λ y. refl)) (count-refused c.open.ensures (some_said w))

pub returns-then-work-a : goal.returns-then-work-a
returns-then-work-a c = count_words c.open.ensures (none_said c.in_ok-open.was) (omega (arith, c.if-work-a.true))

pub returns : goal.returns
returns c = count_delivers c.open.ensures (none_said c.in_ok-open.was) (omega (arith, c.if-work-a.false)) c.count.result c.ok_or.ensures.value c.count.ensures.told
