use Rattle.statement.proofs.Results.{none_said, said, some_said}
use mathlib.Core.Path.{refl}
use mathlib.Core.List.{[]}
use Rattle.guard.proofs.GuardLaws.{blank}
use Rattle.statement.proofs.Kept.{refused-makes}
use Rattle.engine.proofs.Combining.{combinable, call-refused, pair-makes, pair-refused, pair_passed, reported_makes}
use Rattle.engine.proofs.answer_pair.Goals as goal

pub admit-requires : goal.admit-requires
admit-requires c = blank 512 131072 refl refl

pub returns-in-Err : goal.returns-in-Err
returns-in-Err c = call-refused _ _ c.admit.ensures (some_said c.in-Err.is) (rw (said c.in-Err.is) (c.declined.ensures _))

pub returns-in-Err-admit_pair : goal.returns-in-Err-admit_pair
returns-in-Err-admit_pair c = pair-makes (c.admit.ensures.fit (none_said c.in_default.is)) (c.admit.ensures.usable (none_said c.in_default.is)) _ _ _ c.args.op
    (refused-makes _ (pair-refused _ _ _ _ _ _ (c.admit_pair.ensures _ _) _ (some_said c.in-Err-admit_pair.is)) (some_said c.in-Err-admit_pair.is)
    (rw (said c.in-Err-admit_pair.is) (c.declined-in-Err-admit_pair.ensures _)))

pub apply-k-requires-clause-f_bound : goal.apply-k-requires-clause-f_bound
apply-k-requires-clause-f_bound c = (c.admit_pair.ensures 0 []).known (none_said c.in_default-admit_pair.is)

pub apply-k-requires-clause-combinable : goal.apply-k-requires-clause-combinable
apply-k-requires-clause-combinable c = let u = c.admit.ensures.usable (none_said c.in_default.is) in let p = c.admit_pair.ensures _ _ in (combinable u p (none_said c.in_default-admit_pair.is))

pub returns : goal.returns
returns c = let u = c.admit.ensures.usable (none_said c.in_default.is) in
    pair-makes (c.admit.ensures.fit (none_said c.in_default.is)) u _ _ _ c.args.op
    (reported_makes _ _ _ _ _ _ _ (rw u.keyed.are at (rw c.number-last.ensures at c.apply-k.ensures)) c.report.ensures
    (pair_passed _ _ _ _ _ _ (c.admit_pair.ensures _ _) _ (none_said c.in_default-admit_pair.is)))
