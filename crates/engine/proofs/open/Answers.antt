use mathlib.Core.Path.{refl}
use Rattle.table.proofs.IndexLaws.{fresh}
use Rattle.statement.proofs.Results.{none_said, some_said, passed_up}
use Rattle.engine.proofs.Delivery.{opened-refused, opened-unknown, opened-known}
use Rattle.engine.proofs.open.Goals as goal

pub admit-requires : goal.admit-requires
admit-requires c = record { keys-long = c.requires; fresh = fresh 131072 refl }

pub returns-in_err-admit : goal.returns-in_err-admit
returns-in_err-admit c = let s = c.from_residual.result in let p = c.from_residual.ensures.1 in let w = c.in_err-admit.was in
    rw (passed_up s p w) (opened-refused _ c.admit.ensures (some_said w))

pub returns-then-t-answer : goal.returns-then-t-answer
returns-then-t-answer c = opened-unknown _ c.admit.ensures (none_said c.in_ok-admit.was) c.if-t-answer.true

pub returns : goal.returns
returns c = opened-known _ c.admit.ensures (none_said c.in_ok-admit.was) c.if-t-answer.false
