use Rattle.statement.specs.Replies.{number_of}
use mathlib.Core.Path.{ap, ◌∙◌}
use native.Mathlib.Omega.{arith}
use Rattle.statement.proofs.Results.{none_said, said, some_said, was_none, was_some, passed_up}
use Rattle.engine.proofs.Delivery.{at-refused, at_words, at_uncountable, at_end, at-counted}
use Rattle.engine.proofs.open_at.Goals as goal

pub returns-in_err-open : goal.returns-in_err-open
returns-in_err-open c = let s = c.from_residual.result in let p = c.from_residual.ensures.1 in let w = c.in_err-open.was in
    rw (passed_up s p w) (at-refused c.open.ensures (some_said w))

pub returns-then-work-a : goal.returns-then-work-a
returns-then-work-a c = at_words c.open.ensures (none_said c.in_ok-open.was) (omega (arith, c.if-work-a.true))

pub returns-in_err-n : goal.returns-in_err-n
returns-in_err-n c = let s = c.from_residual-in_err-n.result in let p = c.from_residual-in_err-n.ensures.1 in let w = c.in_err-n.was in
    let e = was_none c.count.result _ c.ok_or.ensures.value w in
    rw (passed_up s p w ∙ said w ∙ ap number_of e.1)
    (at_uncountable c.open.ensures (none_said c.in_ok-open.was) (omega (arith, c.if-work-a.false)) (rw e.0 at c.count.ensures.told))

pub returns-then-n-k : goal.returns-then-n-k
returns-then-n-k c = at_end c.open.ensures (none_said c.in_ok-open.was) (omega (arith, c.if-work-a.false))
    (rw (was_some c.count.result _ c.ok_or.ensures.value c.in_ok-n.was) at c.count.ensures.told) c.if-n-k.true

pub returns : goal.returns
returns c = at-counted c.open.ensures (none_said c.in_ok-open.was) (omega (arith, c.if-work-a.false))
    (rw (was_some c.count.result _ c.ok_or.ensures.value c.in_ok-n.was) at c.count.ensures.told) c.if-n-k.false c.count.ensures.filled
