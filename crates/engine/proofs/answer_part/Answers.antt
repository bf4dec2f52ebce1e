use Rattle.statement.proofs.Results.{none_said, said, some_said}
use Rattle.engine.proofs.Combining.{call-refused, part-makes, reported_makes}
use Rattle.statement.proofs.Kept.{refused-makes}
use Rattle.statement.proofs.TestLaws.{answer-known, answer-unknown, package_known, package_unknown, enough, too_few}
use Rattle.statement.proofs.FirstOf.{pass, hit}
use Rattle.guard.proofs.GuardLaws.{blank}
use native.Mathlib.Omega.{arith}
use mathlib.Core.Path.{refl, ◌∙◌}
use Rattle.engine.proofs.answer_part.Goals as goal

pub admit-requires : goal.admit-requires
admit-requires c = blank 512 131072 refl refl

pub returns-in-Err : goal.returns-in-Err
returns-in-Err c = call-refused _ _ c.admit.ensures (some_said c.in-Err.is) (rw (said c.in-Err.is) (c.declined.ensures _))

pub returns-then-n-a : goal.returns-then-n-a
returns-then-n-a c = part-makes (c.admit.ensures.fit (none_said c.in_default.is)) (c.admit.ensures.usable (none_said c.in_default.is)) _ _ _ c.args.holding
    (refused-makes 5 (hit 5 _ (answer-unknown _ _ c.if-n-a.true)) (λ z. omega arith) (c.declined-then-n-a.ensures _))

pub returns-then-number-p : goal.returns-then-number-p
returns-then-number-p c = part-makes (c.admit.ensures.fit (none_said c.in_default.is)) (c.admit.ensures.usable (none_said c.in_default.is)) _ _ _ c.args.holding
    (refused-makes 6 (pass 5 _ (answer-known _ _ (omega (arith, c.if-n-a.false))) ∙ hit 6 _
    (package_unknown _ _ (omega (arith, c.number.ensures, c.if-number-p.true)))) (λ z. omega arith) (c.declined-then-number-p.ensures _))

pub returns-then-work-lt2 : goal.returns-then-work-lt2
returns-then-work-lt2 c = part-makes (c.admit.ensures.fit (none_said c.in_default.is)) (c.admit.ensures.usable (none_said c.in_default.is)) _ _ _ c.args.holding
    (refused-makes 8 (pass 5 _ (answer-known _ _ (omega (arith, c.if-n-a.false))) ∙ pass 6 _
    (package_known _ _ (omega (arith, c.number.ensures, c.if-number-p.false))) ∙ hit 8 _ (too_few _ _ c.if-work-lt2.true)) (λ z. omega arith) (c.declined-then-work-lt2.ensures _))

pub returns : goal.returns
returns c = let u = c.admit.ensures.usable (none_said c.in_default.is) in
    part-makes (c.admit.ensures.fit (none_said c.in_default.is)) u _ _ _ c.args.holding
    (reported_makes _ _ _ _ _ _ _ (rw u.keyed.are at (rw c.number-last.ensures at c.restriction-k.ensures)) c.report.ensures
    (pass 5 _ (answer-known _ _ (omega (arith, c.if-n-a.false))) ∙ pass 6 _ (package_known _ _ (omega (arith, c.number.ensures, c.if-number-p.false)))
    ∙ pass 8 _ (enough _ _ (omega (arith, c.if-work-lt2.false)))))
