-- The new numbers of the labels that remain: they rise with the old ones. THEOREM `sets-withdrawn`: what is left of all sets is all sets of the labels that
-- remain, in their order. Assumes nothing.
use mathlib.Core.Path.{◌≡◌, refl, sym, ap, ap₂, ◌∙◌, subst}
use mathlib.Core.Bool.{Bool, true, false, cond}
use mathlib.Core.List.{List, [], ◌∷◌, map}
use mathlib.Core.Logic.{◌⊎◌, inl, inr}
use Prim.Native.Nat.{ℕ, zero, suc, ◌≤◌, ◌<◌}
use native.Mathlib.Nat.{le_refl, not-suc-le-zero, le_of_suc-le-suc, eq-or-lt_of_le}
use native.Mathlib.Omega.{arith}
use lib.Dec.{eqb, ltb}
use lib.ListN.{length}
use borrow.Author.Tests.{eqb-true, ltb-true, ltb-false, lt-ltb, le-ltb}
use Rattle.base.proofs.Bools.{by_test, or_cases, or_right}
use Rattle.zdd.specs.Table.{Family, fork, key, has, filter, all_sets, insert_by, order_to, order, sets, Keys}
use Rattle.zdd.specs.Withdrawal.{free, rank, withdrawn, Shorter}
use Rattle.zdd.proofs.Listing.{has_first}
use Rattle.zdd.proofs.Sorting.{Sorted, sorted_to, order_below}

pub rank_gone : (gone : List ℕ) (p : ℕ) → has p gone ≡ true → rank gone (suc p) ≡ rank gone p
unfolding rank
rank_gone gone p e = ap (λ (b : Bool). cond b (rank gone p) (suc (rank gone p))) e

pub rank_stays : (gone : List ℕ) (p : ℕ) → has p gone ≡ false → rank gone (suc p) ≡ suc (rank gone p)
unfolding rank
rank_stays gone p e = ap (λ (b : Bool). cond b (rank gone p) (suc (rank gone p))) e

pub rank_step : (gone : List ℕ) (p : ℕ) → (rank gone p ≤ rank gone (suc p)) × (rank gone (suc p) ≤ suc (rank gone p))
unfolding rank
rank_step gone p = go (has p gone)
  where
    go : (b : Bool) → (rank gone p ≤ cond b (rank gone p) (suc (rank gone p))) × (cond b (rank gone p) (suc (rank gone p)) ≤ suc (rank gone p))
    go true = (omega arith, omega arith)
    go false = (omega arith, omega arith)

pub rank_most : (gone : List ℕ) (p : ℕ) → rank gone p ≤ p
unfolding rank
rank_most gone zero = omega arith
rank_most gone (suc p) = omega (arith, rank_most gone p, (rank_step gone p).1)

-- a label that remains has a smaller new number than what comes after it
pub rank_less : (gone : List ℕ) (p q : ℕ) → has p gone ≡ false → p < q → rank gone p < rank gone q
rank_less gone p zero e h = absurd (not-suc-le-zero h)
rank_less gone p (suc q) e h = go (eq-or-lt_of_le (le_of_suc-le-suc h)) (rank_less gone p q e)
  where
    go : (p ≡ q) ⊎ (p < q) → (p < q → rank gone p < rank gone q) → rank gone p < rank gone (suc q)
    go (inl z) ih = subst (λ (r : ℕ). rank gone p < rank gone (suc r)) z (omega (arith, rank_stays gone p e))
    go (inr l) ih = omega (arith, ih l, (rank_step gone q).0)

-- ---- what is left of a family, by its first label

pub withdrawn-nil : (gone : List ℕ) → withdrawn gone [] ≡ []
unfolding withdrawn filter
withdrawn-nil gone = refl

pub withdrawn_one : (gone : List ℕ) → withdrawn gone ([] ∷ []) ≡ [] ∷ []
unfolding withdrawn filter
withdrawn_one gone = refl

-- a withdrawn label leaves what is left of lo
pub withdrawn_gone : (gone : List ℕ) (p : ℕ) (F1 F0 : Family) → has p gone ≡ true → withdrawn gone (fork p F1 F0) ≡ withdrawn gone F0
unfolding withdrawn filter
withdrawn_gone gone p [] F0 e = refl
withdrawn_gone gone p (t ∷ F1) F0 e = rw e (withdrawn_gone gone p F1 F0 e)

-- a label that remains leaves a fork of what is left of hi and lo
pub withdrawn_stays : (gone : List ℕ) (p : ℕ) (F1 F0 : Family) → has p gone ≡ false
    → withdrawn gone (fork p F1 F0) ≡ fork (rank gone p) (withdrawn gone F1) (withdrawn gone F0)
unfolding withdrawn filter
withdrawn_stays gone p [] F0 e = refl
withdrawn_stays gone p (t ∷ F1) F0 e =
    by_test (free gone t)
    (λ f. rw (e, f) (ap (λ (F : Family). (rank gone p ∷ map (rank gone) t) ∷ F) (withdrawn_stays gone p F1 F0 e)))
    (λ f. rw (e, f) (withdrawn_stays gone p F1 F0 e))

-- ---- the labels that remain, in the new numbers

unfoldable left : List ℕ → List ℕ → List ℕ
left gone [] = []
left gone (p ∷ ps) = cond (has p gone) (left gone ps) (rank gone p ∷ left gone ps)

withdrawn-all : (gone ps : List ℕ) → withdrawn gone (all_sets ps) ≡ all_sets (left gone ps)
unfolding all_sets left
withdrawn-all gone [] = withdrawn_one gone
withdrawn-all gone (p ∷ ps) =
    by_test (has p gone)
    (λ e. rw e (withdrawn_gone gone p (all_sets ps) (all_sets ps) e ∙ withdrawn-all gone ps))
    (λ e. rw e (withdrawn_stays gone p (all_sets ps) (all_sets ps) e ∙ ap (λ (F : Family). fork (rank gone p) F F) (withdrawn-all gone ps)))

-- a withdrawn label put in its place among others
insert_gone : (gone K : List ℕ) (p : ℕ) (qs : List ℕ) → has p gone ≡ true → left gone (insert_by K p qs) ≡ left gone qs
unfolding left insert_by
insert_gone gone K p [] e = rw e
insert_gone gone K p (q ∷ qs) e =
    by_test (ltb (key K p) (key K q))
    (λ l. rw (l, e))
    (λ l. rw l (ap (λ (rs : List ℕ). cond (has q gone) rs (rank gone q ∷ rs)) (insert_gone gone K p qs e)))

module _ {gone K K' : List ℕ} (s : Shorter gone K K') where
  module _ (p : ℕ) (h : p < length K) (e : has p gone ≡ false) where
    -- a label that remains goes to the front of those that come later
    insert_front : (qs : List ℕ) → ((r : ℕ) → has r qs ≡ true → (r < length K) × (key K p < key K r))
        → insert_by K' (rank gone p) (left gone qs) ≡ rank gone p ∷ left gone qs
    unfolding left insert_by has
    insert_front [] f = refl
    insert_front (q ∷ qs) f =
        let b = f q (has_first q qs) in
        by_test (has q gone)
        (λ g. rw g (insert_front qs (λ r m. f r (or_right (eqb r q) (has r qs) m))))
        (λ g. rw (g, lt-ltb (key K' (rank gone p)) (key K' (rank gone q)) (s.order p q h b.0 e g b.1)))

    -- and to its place among those that are sorted
    insert-left : (qs : List ℕ) → Sorted K qs → ((r : ℕ) → has r qs ≡ true → (r < length K) × (key K r ≡ key K p → ⊥))
        → left gone (insert_by K p qs) ≡ insert_by K' (rank gone p) (left gone qs)
    unfolding left insert_by has
    insert-left [] o f = rw e
    insert-left (q ∷ qs) o f =
        let b = f q (has_first q qs) in
        by_test (ltb (key K p) (key K q))
        (λ l. rw (l, e) (sym (insert_front (q ∷ qs) (λ r m. ((f r m).0, later r (ltb-true (key K p) (key K q) l) (or_cases (eqb r q) (has r qs) m))))))
        (λ l.
        let less : key K q < key K p = omega (arith, ltb-false (key K p) (key K q) l, b.1) in
        let ih = insert-left qs o.1 (λ r m. f r (or_right (eqb r q) (has r qs) m)) in
        by_test (has q gone)
        (λ g. rw (l, g) ih)
        (λ g. rw (l, g, le-ltb (key K' (rank gone p)) (key K' (rank gone q)) (let z = s.order q p b.0 h g e less in omega arith)) (ap (λ (rs : List ℕ). rank gone q ∷ rs) ih)))
      where
        later : (r : ℕ) → key K p < key K q → (eqb r q ≡ true) ⊎ (has r qs ≡ true) → key K p < key K r
        later r l (inl a) = omega (arith, l, ap (key K) (eqb-true r q a))
        later r l (inr a) = omega (arith, l, o.0 r a)

  -- the labels below n, sorted, are the new numbers below that of n, sorted
  left-order : Keys K → (n : ℕ) → n ≤ length K → left gone (order_to K n) ≡ order_to K' (rank gone n)
  unfolding left order_to rank
  left-order k zero h = refl
  left-order k (suc n) h =
      let ih = left-order k n (omega arith) in
      by_test (has n gone)
      (λ e. rw e (insert_gone gone K n (order_to K n) e ∙ ih))
      (λ e. rw e (insert-left n h e (order_to K n) (sorted_to K k n (omega arith)) (λ r m. let b = order_below K n r m in (omega arith, λ q. let z = k.apart r n (omega arith) h q in omega arith))
      ∙ ap (insert_by K' (rank gone n)) ih))

  -- THEOREM: what is left of all sets is all sets of the labels that remain
  pub sets-withdrawn : Keys K → withdrawn gone (sets K) ≡ sets K'
  unfolding sets
  sets-withdrawn k = withdrawn-all gone (order K) ∙ ap all_sets (left-order k (length K) (le_refl (length K)) ∙ ap (order_to K') (sym s.long))

-- ---- nothing is withdrawn

pub rank-none : (p : ℕ) → rank [] p ≡ p
unfolding rank has
rank-none zero = refl
rank-none (suc p) = ap suc (rank-none p)

set-none : (t : List ℕ) → (map (rank []) t ≡ t) × (free [] t ≡ true)
unfolding free has
set-none [] = (refl, refl)
set-none (p ∷ t) = let r = set-none t in (ap₂ (λ (q : ℕ) (u : List ℕ). q ∷ u) (rank-none p) r.0, r.1)

-- THEOREM: then every family is left as it is
pub withdrawn-none : (F : Family) → withdrawn [] F ≡ F
unfolding withdrawn filter
withdrawn-none [] = refl
withdrawn-none (t ∷ F) = let r = set-none t in rw r.1 (ap₂ (λ (u : List ℕ) (G : Family). u ∷ G) r.0 (withdrawn-none F))
