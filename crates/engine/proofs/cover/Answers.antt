use Rattle.statement.proofs.Results.{none_said, said, some_said}
use Rattle.engine.proofs.Covering.{refuses, search_failed, cover-refused, cover-makes, item-unknown, words_short, cover_answers}
use Rattle.guard.proofs.GuardLaws.{blank}
use Rattle.itemset.proofs.Laws.{below_lt}
use Rattle.statement.proofs.Admission.{span_fit}
use Rattle.itemset.specs.Words.{value}
use lib.ListN.{length}
use native.Mathlib.Omega.{arith}
use Prim.Native.Nat.{◌^◌, ◌<◌}
use mathlib.Core.Path.{refl, sym, ◌∙◌}
use Rattle.engine.proofs.cover.Goals as goal

pub admit-requires : goal.admit-requires
admit-requires c = blank 512 131072 refl refl

pub returns-in-Err : goal.returns-in-Err
returns-in-Err c = cover-refused _ _ _ c.admit.ensures (some_said c.in-Err.is) (rw (said c.in-Err.is) (c.declined.ensures _))

pub returns-then-not-below : goal.returns-then-not-below
returns-then-not-below c = cover-makes _ _ _ (c.admit.ensures.fit (none_said c.in_default.is)) (c.admit.ensures.usable (none_said c.in_default.is))
    (refuses 7 (item-unknown _ _ _ _ _ _ (sym c.below.ensures ∙ c.if-not-below.true)) (λ z. omega arith) refl c.declined-then-not-below.ensures)

pub returns-then-work-lt4 : goal.returns-then-work-lt4
returns-then-work-lt4 c = cover-makes _ _ _ (c.admit.ensures.fit (none_said c.in_default.is)) (c.admit.ensures.usable (none_said c.in_default.is))
    (refuses 8 (words_short _ _ _ _ _ _ (sym c.below.ensures ∙ c.if-not-below.false) c.if-work-lt4.true) (λ z. omega arith) refl c.declined-then-work-lt4.ensures)

pub cover-found-requires-clause-bound : goal.cover-found-requires-clause-bound
cover-found-requires-clause-bound c = let small : value c.args.d < 2 ^ length c.args.order.now =
    rw (span_fit (c.admit.ensures.fit (none_said c.in_default.is))) (below_lt _ _ (sym c.below.ensures ∙ c.if-not-below.false)) in small

pub returns-in-Ok : goal.returns-in-Ok
returns-in-Ok c = let e = sym c.below.ensures ∙ c.if-not-below.false in
    cover-makes _ _ _ (c.admit.ensures.fit (none_said c.in_default.is)) (c.admit.ensures.usable (none_said c.in_default.is))
    (cover_answers _ _ e (omega (arith, c.if-work-lt4.false)) c.in-Ok.ensures refl refl _ refl refl refl)

pub returns-in-Err-found : goal.returns-in-Err-found
returns-in-Err-found c = let e = sym c.below.ensures ∙ c.if-not-below.false in
    cover-makes _ _ _ (c.admit.ensures.fit (none_said c.in_default.is)) (c.admit.ensures.usable (none_said c.in_default.is))
    (search_failed _ _ _ _ _ _ _ _ e (omega (arith, c.if-work-lt4.false)) _ c.in-Err-found.ensures _ c.unanswered.ensures _ c.declined-in-Err-found.ensures)
