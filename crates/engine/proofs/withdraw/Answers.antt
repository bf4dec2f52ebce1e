use Rattle.statement.specs.Replies.{reply_of}
use Rattle.statement.proofs.Results.{none_said, some_said, reply_up}
use Rattle.engine.proofs.Withdrawing.{withdraw_not_admitted, withdraw-declined, withdraw_asks, withdraw-done}
use Rattle.guard.proofs.GuardLaws.{blank}
use mathlib.Core.Path.{refl}
use Rattle.engine.proofs.withdraw.Goals as goal

pub admit-requires : goal.admit-requires
admit-requires c = blank 512 131072 refl refl

pub returns-in_err-admit : goal.returns-in_err-admit
returns-in_err-admit c = let s = c.from_residual.result in let p = c.from_residual.ensures.1 in let w = c.in_err-admit.was in
    rw (reply_up s p w reply_of (λ y. refl)) (withdraw_not_admitted c.admit.ensures (some_said w))

pub returns-in_err-admit_withdrawal : goal.returns-in_err-admit_withdrawal
returns-in_err-admit_withdrawal c = let s = c.from_residual-in_err-admit_withdrawal.result in let p = c.from_residual-in_err-admit_withdrawal.ensures.1 in
    let w = c.in_err-admit_withdrawal.was in
    rw (reply_up s p w reply_of (λ y. refl)) (withdraw-declined c.admit.ensures (none_said c.in_ok-admit.was) (c.admit_withdrawal.ensures _ _) (some_said w))

pub withdraw-requires-clause-within : goal.withdraw-requires-clause-within
withdraw-requires-clause-within c = rw c.number-n.ensures ((withdraw_asks c.admit.ensures (none_said c.in_ok-admit.was)
    (c.admit_withdrawal.ensures _ _) (none_said c.in_ok-admit_withdrawal.was)).gone_known)

pub withdraw-requires-clause-within_2 : goal.withdraw-requires-clause-within_2
withdraw-requires-clause-within_2 c = (withdraw_asks c.admit.ensures (none_said c.in_ok-admit.was)
    (c.admit_withdrawal.ensures _ _) (none_said c.in_ok-admit_withdrawal.was)).answers_known

pub withdraw-requires-clause-t_in_bounds : goal.withdraw-requires-clause-t_in_bounds
withdraw-requires-clause-t_in_bounds c = (withdraw_asks c.admit.ensures (none_said c.in_ok-admit.was)
    (c.admit_withdrawal.ensures _ _) (none_said c.in_ok-admit_withdrawal.was)).enough

pub returns : goal.returns
returns c = withdraw-done c.admit.ensures (none_said c.in_ok-admit.was) (c.admit_withdrawal.ensures _ _) (none_said c.in_ok-admit_withdrawal.was)
    (rw (c.admit.ensures.usable (none_said c.in_ok-admit.was)).keyed.are at (rw c.number-n.ensures at c.withdraw.ensures))
