-- THEOREMS: `least` is what the documents say, by any measure of a timetable: every other timetable of the family measures as much or more, and those that
-- measure the same are listed later. By cost that is `cheapest`, by the difference from a given timetable `closest`. Assumes nothing.
use mathlib.Core.Path.{◌≡◌, refl, sym, ap, ◌∙◌, subst}
use mathlib.Core.Logic.{◌⊎◌, inl, inr, ⊎_elim}
use mathlib.Core.Bool.{Bool, true, false, cond, ◌||◌}
use mathlib.Core.List.{List, [], ◌∷◌}
use Prim.Native.Nat.{ℕ, ◌≤◌, ◌<◌}
use native.Mathlib.Nat.{le_refl, not-suc-le-zero}
use native.Mathlib.Omega.{arith}
use native.Mathlib.Decide.{dec_lt}
use lib.Dec.{leb}
use lib.ListN.{length, get_or}
use borrow.Author.Tests.{leb-true, le-leb}
use Rattle.base.proofs.Bools.{never, is_false, and_left, and_right, and_both, or_cases, or_left, or_right}
use Rattle.zdd.specs.Table.{Family, eq_set, elem, filter}
use Rattle.zdd.proofs.Member.{eq_set-same, eq_set_eq}
use Rattle.query.specs.Questions.{nth, position, none_below, least, cost, cheapest, difference, closest}
use Rattle.query.proofs.Seeks.{position_here, position_later}
use Rattle.statement.proofs.Undo.{nth-position}

-- s is of F, none of F measures less, and each other that measures the same is listed later
pub record Least (v : List ℕ → ℕ) (F : Family) (s : List ℕ) : Type 0 where
  pub member : elem s F ≡ true
  pub least : (t : List ℕ) → elem t F ≡ true → v s ≤ v t
  pub first : (t : List ℕ) → elem t F ≡ true → v t ≡ v s → (t ≡ s) ⊎ (position s F < position t F)

none-at : (v : List ℕ → ℕ) (x : ℕ) (F : Family) → none_below v x F ≡ true → (t : List ℕ) → elem t F ≡ true → x ≤ v t
unfolding none_below elem
none-at v x [] h t e = absurd (never e refl)
none-at v x (u ∷ F) h t e = go (or_cases (eq_set t u) (elem t F) e) (none-at v x F (and_right (leb x (v u)) (none_below v x F) h) t)
  where
    go : (eq_set t u ≡ true) ⊎ (elem t F ≡ true) → (elem t F ≡ true → x ≤ v t) → x ≤ v t
    go (inl q) ih = subst (λ (w : List ℕ). x ≤ v w) (sym (eq_set_eq t u q)) (leb-true x (v u) (and_left (leb x (v u)) (none_below v x F) h))
    go (inr q) ih = ih q

at_none : (v : List ℕ → ℕ) (x : ℕ) (F : Family) → ((t : List ℕ) → elem t F ≡ true → x ≤ v t) → none_below v x F ≡ true
unfolding none_below elem
at_none v x [] h = refl
at_none v x (u ∷ F) h =
    and_both (leb x (v u)) (none_below v x F) (le-leb x (v u) (h u (or_left (eq_set u u) (elem u F) (eq_set-same u))))
    (at_none v x F (λ t e. h t (or_right (eq_set t u) (elem t F) e)))

-- a family that is not empty has one that measures least
some-least : (v : List ℕ → ℕ) (u : List ℕ) (F : Family) → (s : List ℕ) × (elem s (u ∷ F) ≡ true) × ((t : List ℕ) → elem t (u ∷ F) ≡ true → v s ≤ v t)
unfolding elem
some-least v u [] = (u, or_left (eq_set u u) false (eq_set-same u), λ t e. only t (or_cases (eq_set t u) false e))
  where
    only : (t : List ℕ) → (eq_set t u ≡ true) ⊎ (false ≡ true) → v u ≤ v t
    only t (inl q) = subst (λ (x : List ℕ). v u ≤ v x) (sym (eq_set_eq t u q)) (le_refl (v u))
    only t (inr q) = absurd (never q refl)
some-least v u (w ∷ F) = go (some-least v w F)
  where
    go : (s : List ℕ) × (elem s (w ∷ F) ≡ true) × ((t : List ℕ) → elem t (w ∷ F) ≡ true → v s ≤ v t)
        → (s : List ℕ) × (elem s (u ∷ w ∷ F) ≡ true) × ((t : List ℕ) → elem t (u ∷ w ∷ F) ≡ true → v s ≤ v t)
    go r = pick (dec_lt (v r.0) (v u))
      where
        pick : Dec (v r.0 < v u)
            → (s : List ℕ) × (elem s (u ∷ w ∷ F) ≡ true) × ((t : List ℕ) → elem t (u ∷ w ∷ F) ≡ true → v s ≤ v t)
        pick (yes l) = (
          r.0,
          or_right (eq_set r.0 u) (elem r.0 (w ∷ F)) r.1,
          λ t e. ⊎_elim
              (λ (q : eq_set t u ≡ true). subst (λ (x : List ℕ). v r.0 ≤ v x) (sym (eq_set_eq t u q)) (omega arith))
              (λ (q : elem t (w ∷ F) ≡ true). r.2 t q)
              (or_cases (eq_set t u) (elem t (w ∷ F)) e),
        )
        pick (no n) = (
          u,
          or_left (eq_set u u) (elem u (w ∷ F)) (eq_set-same u),
          λ t e. ⊎_elim
              (λ (q : eq_set t u ≡ true). subst (λ (x : List ℕ). v u ≤ v x) (sym (eq_set_eq t u q)) (le_refl (v u)))
              (λ (q : elem t (w ∷ F) ≡ true). omega (arith, r.2 t q))
              (or_cases (eq_set t u) (elem t (w ∷ F)) e),
        )

-- the first of those that pass a test
module _ (P : List ℕ → Bool) where
  first_passes : (F : Family) (s : List ℕ) → elem s F ≡ true → P s ≡ true
      → (elem (get_or (filter P F) 0 []) F ≡ true) × (P (get_or (filter P F) 0 []) ≡ true)
      × ((t : List ℕ) → elem t F ≡ true → P t ≡ true → position (get_or (filter P F) 0 []) F ≤ position t F)
  unfolding elem filter
  first_passes [] s e p = absurd (never e refl)
  first_passes (u ∷ F) s e p = go (P u) refl (first_passes F)
    where
      apart : P u ≡ false → (t : List ℕ) → P t ≡ true → eq_set t u ≡ false
      apart n t q = is_false (eq_set t u) (λ z. never (sym (ap P (eq_set_eq t u z)) ∙ q) n)

      rest : P u ≡ false → (t : List ℕ) → (eq_set t u || elem t F) ≡ true → P t ≡ true → elem t F ≡ true
      rest n t m q = ap (λ (b : Bool). b || elem t F) (sym (apart n t q)) ∙ m

      go : (b : Bool) → P u ≡ b
          → ((s : List ℕ) → elem s F ≡ true → P s ≡ true
          → (elem (get_or (filter P F) 0 []) F ≡ true) × (P (get_or (filter P F) 0 []) ≡ true)
          × ((t : List ℕ) → elem t F ≡ true → P t ≡ true → position (get_or (filter P F) 0 []) F ≤ position t F))
          → (elem (get_or (cond b (u ∷ filter P F) (filter P F)) 0 []) (u ∷ F) ≡ true) × (P (get_or (cond b (u ∷ filter P F) (filter P F)) 0 []) ≡ true)
          × ((t : List ℕ) → elem t (u ∷ F) ≡ true → P t ≡ true → position (get_or (cond b (u ∷ filter P F) (filter P F)) 0 []) (u ∷ F) ≤ position t (u ∷ F))
      go true q ih = (
        or_left (eq_set u u) (elem u F) (eq_set-same u),
        q,
        λ t m z. let k = position_here u u F (eq_set-same u) in omega arith,
      )
      go false q ih =
          let r = ih s (rest q s e p) p in
          let h : List ℕ = get_or (filter P F) 0 [] in (
            or_right (eq_set h u) (elem h F) r.0,
            r.1,
            λ t m z.
                let a = position_later h u F (apart q h r.1) in
                let b = position_later t u F (apart q t z) in
                omega (arith, r.2 t (rest q t m z) z),
          )

-- in a family, what stands no later is the same or stands before
same_or_later : (F : Family) (s t : List ℕ) → elem s F ≡ true → elem t F ≡ true → position s F ≤ position t F → (t ≡ s) ⊎ (position s F < position t F)
same_or_later F s t e f l = go (dec_lt (position s F) (position t F))
  where
    go : Dec (position s F < position t F) → (t ≡ s) ⊎ (position s F < position t F)
    go (yes h) = inr h
    go (no h) =
        let q : position t F ≡ position s F = omega arith in
        inl (sym (nth-position t F f).1 ∙ ap (nth F) q ∙ (nth-position s F e).1)

-- THEOREM
pub least_is : (v : List ℕ → ℕ) (F : Family) → 0 < length F → Least v F (least v F)
unfolding least
least_is v [] l = absurd (not-suc-le-zero l)
least_is v (u ∷ F) l =
    let G : Family = u ∷ F in
    let h : List ℕ = get_or (filter (λ t. none_below v (v t) G) G) 0 [] in
    let s = some-least v u F in
    let r = first_passes (λ t. none_below v (v t) G) G s.0 s.1 (at_none v (v s.0) G s.2) in
    record {
      member = r.0;
      least = none-at v (v h) G r.1;
      first = λ t e q. same_or_later G h t r.0 e (r.2 t e (ap (λ (x : ℕ). none_below v x G) q ∙ r.1));
    }

-- THEOREM: document 01's cheapest
pub cheapest-least : (C : List ℕ) (F : Family) → 0 < length F → Least (cost C) F (cheapest C F)
cheapest-least C = least_is (cost C)

-- THEOREM: document 02's closest, No. 9
pub closest-least : (s : List ℕ) (F : Family) → 0 < length F → Least (difference s) F (closest s F)
closest-least s = least_is (difference s)
