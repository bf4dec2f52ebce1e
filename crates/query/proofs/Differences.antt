-- Costs and differences as weights: what makes `lightest` find the cheapest set and the closest one. Assumes nothing.
use mathlib.Core.Path.{◌≡◌, refl, sym, ap, ap₂, ◌∙◌, subst}
use mathlib.Core.Bool.{Bool, true, false, cond, not, ◌||◌}
use mathlib.Core.Logic.{◌⊎◌, inl, inr}
use mathlib.Core.List.{List, [], ◌∷◌}
use Prim.Native.Nat.{ℕ, zero, suc, ◌+◌, ◌≤◌, ◌<◌}
use native.Mathlib.Nat.{not-suc-le-zero}
use native.Mathlib.Omega.{arith}
use lib.Dec.{eqb}
use native.Mathlib.Numerals.{add-one}
use lib.ListN.{length, get_or, set, drop, replicate, length-set, length-replicate, get_or-replicate, drop_of_length-le}
use lib.Seq.{drop-cons, get_or-set_same, get_or-set_other}
use borrow.Author.Tests.{eqb-true, eqb-false, ne_eqb, lt-leb}
use Rattle.base.proofs.Bools.{never, cases, or_left, or_cases, eqb_same}
use Rattle.zdd.specs.Table.{Family, count, key, elem, has, filter, order}
use Rattle.zdd.proofs.Member.{from_at, fork-of, has_in, in_has}
use Rattle.zdd.proofs.Sorting.{order-all, length-order}
use Rattle.zdd.proofs.Counting.{Distinct, pigeonhole}
use Rattle.query.specs.declared.Scale.{Scale}
use Rattle.query.specs.Questions.{family_at, cost, cheapest, lacking, difference, closest, unknown_package, any_unknown, in_precedence}
use Rattle.query.specs.Reading.{label_of, lo_of, hi_of, Readable, Priceable, Comparable, weight, lightest, Weighable, Marked}
use Rattle.query.proofs.Parts.{parts, some, hi_from, label-known, at_zero, at_one}
use Rattle.query.proofs.Precede.{in_nil, in_one, in_step, After, after, not_again}
use Rattle.query.proofs.Least.{least-same, least-elem}
use Rattle.query.proofs.WeightWords.{weight-nil, weight-cons}

-- ---- the sets of a readable table are in precedence

module _ {t : List ℕ} (R : Readable t) where
  front_in : (p : ℕ) (s : List ℕ) → p < length R.keys → in_precedence R.keys s ≡ true
      → ((q : ℕ) (u : List ℕ) → s ≡ q ∷ u → key R.keys p < key R.keys q) → in_precedence R.keys (p ∷ s) ≡ true
  front_in p [] l e f = in_one R.keys p l
  front_in p (q ∷ u) l e f = in_step R.keys p q u l (f q u refl) ∙ e

  -- a set of hi's with the label in front
  label_in : (k : ℕ) → 1 < k → k < count t + 2 → (s : List ℕ) → elem s (family_at t (hi_of t k)) ≡ true → in_precedence R.keys s ≡ true
      → in_precedence R.keys (label_of t k ∷ s) ≡ true
  label_in k a b s e i =
      front_in (label_of t k) s (label-known R k a b) i (λ q u z. omega (
        arith,
        from_at R.keys (suc (key R.keys (label_of t k))) (family_at t (hi_of t k)) (hi_from R k a b) q u
            (subst (λ (v : List ℕ). elem v (family_at t (hi_of t k)) ≡ true) z e),
      ))

  pub set_in : (k : ℕ) → k < count t + 2 → (s : List ℕ) → elem s (family_at t k) ≡ true → in_precedence R.keys s ≡ true
  unfolding elem
  set_in k h s e = go (suc k) k (omega arith) h s e
    where
      go : (m k : ℕ) → k < m → k < count t + 2 → (s : List ℕ) → elem s (family_at t k) ≡ true → in_precedence R.keys s ≡ true
      go zero k l h s e = absurd (not-suc-le-zero l)
      go (suc m) zero l h s e = absurd (never (ap (elem s) (sym (at_zero t)) ∙ e) refl)
      go (suc m) (suc zero) l h [] e = in_nil R.keys
      go (suc m) (suc zero) l h (p ∷ s) e = absurd (never (ap (elem (p ∷ s)) (sym (at_one t)) ∙ e) refl)
      go (suc m) (suc (suc i)) l h s e =
          let k : ℕ = suc (suc i) in
          let P = parts R k (omega arith) h in
          sides (fork-of (label_of t k) s (family_at t (hi_of t k)) (family_at t (lo_of t k)) (ap (elem s) (sym P.split) ∙ e))
          (go m (hi_of t k) (omega (arith, P.hi-below)) (omega (arith, P.hi-below)))
          (go m (lo_of t k) (omega (arith, P.lo-below)) (omega (arith, P.lo-below)) s)
        where
          sides : ((u : List ℕ) × (s ≡ label_of t (suc (suc i)) ∷ u) × (elem u (family_at t (hi_of t (suc (suc i)))) ≡ true))
              ⊎ (elem s (family_at t (lo_of t (suc (suc i)))) ≡ true)
              → ((u : List ℕ) → elem u (family_at t (hi_of t (suc (suc i)))) ≡ true → in_precedence R.keys u ≡ true)
              → (elem s (family_at t (lo_of t (suc (suc i)))) ≡ true → in_precedence R.keys s ≡ true)
              → in_precedence R.keys s ≡ true
          sides (inl u) hi lo =
              ap (in_precedence R.keys) u.1 ∙ label_in (suc (suc i)) (omega arith) h u.0 u.2 (hi u.0 u.2)
          sides (inr u) hi lo = lo u

  pub hi_set_in : (k : ℕ) → 1 < k → k < count t + 2 → (s : List ℕ) → elem s (family_at t (hi_of t k)) ≡ true → in_precedence R.keys (label_of t k ∷ s) ≡ true
  hi_set_in k a b s e =
      let P = parts R k a b in
      label_in k a b s e (set_in (hi_of t k) (omega (arith, P.hi-below)) s e)

-- ---- costs

abbrev pub cost_scale : Scale
cost_scale = record { start = 0; bias = 0 }

module _ (C : List ℕ) where
  weight-cost : (s : List ℕ) → weight C cost_scale s ≡ cost C s
  unfolding weight cost
  weight-cost [] = refl
  weight-cost (p ∷ s) = omega (arith, weight-cost s)

  pub lightest-cheapest : (F : Family) → lightest C cost_scale F ≡ cheapest C F
  lightest-cheapest F = least-same (weight C cost_scale) (cost C) F (λ s e. weight-cost s)

  pub weight-cheapest : (F : Family) → weight C cost_scale (lightest C cost_scale F) ≡ cost C (cheapest C F)
  weight-cheapest F = weight-cost (lightest C cost_scale F) ∙ ap (cost C) (lightest-cheapest F)

pub cost_weighable : {t C : List ℕ} → Priceable t C → Weighable t C cost_scale
cost_weighable R = record {
  table = R.table;
  weighed = R.priced;
  start_small = omega arith;
  bias_small = omega arith;
  above = λ k a b s e. omega arith;
}

-- ---- differences

-- a package more on the right, and on the left
lacking_right : (s : List ℕ) (p : ℕ) (t : List ℕ) → lacking s (p ∷ t) ≡ cond (has p s) 0 1 + lacking s t
unfolding lacking filter
lacking_right s p t = go (has p s) (filter (λ q. not (has q s)) t)
  where
    go : (b : Bool) (r : List ℕ) → length (cond (not b) (p ∷ r) r) ≡ cond b 0 1 + length r
    go true r = omega arith
    go false r = omega arith

lacking-left : (K : List ℕ) (s : List ℕ) (p : ℕ) (t : List ℕ) → in_precedence K s ≡ true → has p t ≡ false
    → lacking (p ∷ t) s + cond (has p s) 1 0 ≡ lacking t s
unfolding has
lacking-left K [] p t e n = unfold lacking filter in refl
lacking-left K (q ∷ s) p t e n =
    let A = after K q s e in
    let x = lacking_right (p ∷ t) q s in
    let y = lacking_right t q s in
    go (cases (eqb q p)) A x y (lacking-left K s p t A.rest n)
  where
    go : (eqb q p ≡ true) ⊎ (eqb q p ≡ false) → After K q s
        → lacking (p ∷ t) (q ∷ s) ≡ cond (has q (p ∷ t)) 0 1 + lacking (p ∷ t) s
        → lacking t (q ∷ s) ≡ cond (has q t) 0 1 + lacking t s
        → lacking (p ∷ t) s + cond (has p s) 1 0 ≡ lacking t s
        → lacking (p ∷ t) (q ∷ s) + cond (has p (q ∷ s)) 1 0 ≡ lacking t (q ∷ s)
    go (inl h) A x y ih =
        let z : q ≡ p = eqb-true q p h in
        let a : has p s ≡ false = subst (λ (i : ℕ). has i s ≡ false) z (not_again A) in
        let b : has q t ≡ false = subst (λ (i : ℕ). has i t ≡ false) (sym z) n in
        let c : has q (p ∷ t) ≡ true = or_left (eqb q p) (has q t) h in
        let d : has p (q ∷ s) ≡ true = or_left (eqb p q) (has p s) (ap (eqb p) z ∙ eqb_same p) in
        omega (
          arith,
          x,
          y,
          ih,
          ap (λ (i : Bool). cond {A = ℕ} i 1 0) a,
          ap (λ (i : Bool). cond {A = ℕ} i 0 1) b,
          ap (λ (i : Bool). cond {A = ℕ} i 0 1) c,
          ap (λ (i : Bool). cond {A = ℕ} i 1 0) d,
        )
    go (inr h) A x y ih =
        let m : eqb p q ≡ false = ne_eqb p q (λ i. eqb-false q p h (sym i)) in
        let c : has q (p ∷ t) ≡ has q t = ap (λ (i : Bool). i || has q t) h in
        let d : has p (q ∷ s) ≡ has p s = ap (λ (i : Bool). i || has p s) m in
        omega (arith, x, y, ih, ap (λ (i : Bool). cond {A = ℕ} i 0 1) c, ap (λ (i : Bool). cond {A = ℕ} i 1 0) d)

-- a package more makes the difference one less where s has it, and else one more
pub difference-more : (K : List ℕ) (s : List ℕ) (p : ℕ) (t : List ℕ) → in_precedence K s ≡ true → has p t ≡ false
    → difference s (p ∷ t) + 1 ≡ cond (has p s) 0 2 + difference s t
unfolding difference
difference-more K s p t e n = go (has p s) (lacking-left K s p t e n) (lacking_right s p t)
  where
    go : (b : Bool) → lacking (p ∷ t) s + cond b 1 0 ≡ lacking t s → lacking s (p ∷ t) ≡ cond b 0 1 + lacking s t
        → lacking (p ∷ t) s + lacking s (p ∷ t) + 1 ≡ cond b 0 2 + (lacking t s + lacking s t)
    go true x y = omega (arith, x, y)
    go false x y = omega (arith, x, y)

-- from the empty set all of s differs
pub difference-none : (s : List ℕ) → difference s [] ≡ length s
unfolding difference has
difference-none s = omega (arith, all s, none)
  where
    all : (s : List ℕ) → lacking [] s ≡ length s
    all [] = unfold lacking filter in refl
    all (q ∷ s) = omega (arith, lacking_right [] q s, all s)

    none : lacking s [] ≡ 0
    none = unfold lacking filter in refl

-- ---- lists in precedence are short

listed_below : (K : List ℕ) (s : List ℕ) → in_precedence K s ≡ true → (q : ℕ) → has q s ≡ true → q < length K
unfolding has
listed_below K [] e q h = absurd (never h refl)
listed_below K (p ∷ s) e q h = go (or_cases (eqb q p) (has q s) h) (listed_below K s (after K p s e).rest q)
  where
    go : (eqb q p ≡ true) ⊎ (has q s ≡ true) → (has q s ≡ true → q < length K) → q < length K
    go (inl z) ih = omega (arith, eqb-true q p z, (after K p s e).known)
    go (inr z) ih = ih z

listed_distinct : (K : List ℕ) (s : List ℕ) → in_precedence K s ≡ true → Distinct s
listed_distinct K [] e = tt
listed_distinct K (p ∷ s) e =
    let A = after K p s e in
    (λ m. never (in_has p s m) (not_again A), listed_distinct K s A.rest)

pub listed-short : (K : List ℕ) (s : List ℕ) → in_precedence K s ≡ true → length s ≤ length K
listed-short K s e =
    subst (λ (n : ℕ). length s ≤ n) (length-order K)
    (pigeonhole s (order K) (listed_distinct K s e) (λ a m. has_in a (order K) (order-all K a (listed_below K s e a (in_has a s m)))))

pub listed-known : (K : List ℕ) (W s : List ℕ) → in_precedence K s ≡ true → length K ≤ length W → any_unknown W s ≡ false
unfolding any_unknown unknown_package
listed-known K W [] e l = refl
listed-known K W (p ∷ s) e l =
    let A = after K p s e in
    ap₂ (λ (a b : Bool). a || b) (lt-leb (length W) p (omega (arith, A.known))) (listed-known K W s A.rest l)

-- ---- the weights, marked from the start of s

-- the packages before i are marked: with those from i on marked too, the weights are what they shall be
pub record Marking (s before : List ℕ) (i : ℕ) (after : List ℕ) : Type 0 where
  pub within : i ≤ length s
  pub long : length after ≡ length before
  pub each : (p : ℕ) → p < length before → cond (has p (drop i s)) 0 (get_or after p 0) ≡ cond (has p s) 0 (get_or before p 0)

pub marking_start : (s before : List ℕ) → Marking s before 0 before
marking_start s before = record { within = omega arith; long = refl; each = λ p l. refl }

module _ {s before : List ℕ} {i : ℕ} {w : List ℕ} (M : Marking s before i w) where
  pub marking_end : length s ≤ i → Marked s before w
  unfolding has
  marking_end h = record {
    long = M.long;
    each = λ p l. ap (λ (r : List ℕ). cond (has p r) 0 (get_or w p 0)) (sym (drop_of_length-le s h)) ∙ M.each p l;
  }

  pub marking_more : (q : ℕ) → i < length s → q ≡ get_or s i 0 → q < length before → Marking s before (i + 1) (set w q 0)
  unfolding has
  marking_more q l e k = record {
    within = omega arith;
    long = length-set w q 0 ∙ M.long;
    each = λ p b. sym (now p) ∙ ap (λ (r : List ℕ). cond (has p r) 0 (get_or w p 0)) (sym rest) ∙ M.each p b;
  }
    where
      rest : drop i s ≡ q ∷ drop (i + 1) s
      rest = drop-cons s i 0 l ∙ ap₂ (λ (x : ℕ) (r : List ℕ). x ∷ r) (sym e) (ap (λ (j : ℕ). drop j s) (sym (add-one i)))

      now : (p : ℕ) → cond (has p (q ∷ drop (i + 1) s)) 0 (get_or w p 0) ≡ cond (has p (drop (i + 1) s)) 0 (get_or (set w q 0) p 0)
      now p = go (cases (eqb p q))
        where
          either : (b : Bool) → cond {A = ℕ} b 0 0 ≡ 0
          either true = refl
          either false = refl

          go : (eqb p q ≡ true) ⊎ (eqb p q ≡ false)
              → cond (eqb p q || has p (drop (i + 1) s)) 0 (get_or w p 0) ≡ cond (has p (drop (i + 1) s)) 0 (get_or (set w q 0) p 0)
          go (inl h) =
              let z : get_or (set w q 0) p 0 ≡ 0 =
              ap (λ (j : ℕ). get_or (set w q 0) j 0) (eqb-true p q h) ∙ get_or-set_same w q 0 0 (omega (arith, M.long)) in
              ap (λ (b : Bool). cond (b || has p (drop (i + 1) s)) 0 (get_or w p 0)) h ∙ sym (ap (cond (has p (drop (i + 1) s)) 0) z ∙ either (has p (drop (i + 1) s)))
          go (inr h) =
              ap₂ (λ (b : Bool) (x : ℕ). cond (b || has p (drop (i + 1) s)) 0 x) h (sym (get_or-set_other w q p 0 0 (eqb-false p q h)))

-- ---- the weights of closest

abbrev pub difference_scale : List ℕ → Scale
difference_scale s = record { start = length s; bias = 1 }

module _ {t s : List ℕ} (R : Comparable t s) (W : List ℕ) (M : Marked s (replicate 512 2) W) where
  abbrev z : Scale
  z = difference_scale s

  abbrev K : List ℕ
  K = R.table.keys

  marked : (p : ℕ) → p < 512 → get_or W p 0 ≡ cond (has p s) 0 2
  marked p l =
      M.each p (omega (arith, length-replicate {A = ℕ} 512 2)) ∙ ap (cond (has p s) 0) (get_or-replicate 512 p 2 0 l)

  weight-difference : (u : List ℕ) → in_precedence K u ≡ true → weight W z u ≡ difference s u
  weight-difference [] e = weight-nil W z ∙ sym (difference-none s)
  weight-difference (p ∷ u) e =
      let A = after K p u e in
      omega (
        arith,
        weight-cons W z p u,
        marked p (omega (arith, A.known, R.few)),
        weight-difference u A.rest,
        difference-more K s p u R.listed (not_again A),
      )

  pub difference_weighable : Weighable t W z
  difference_weighable = record {
    table = R.table;
    weighed = omega (arith, R.few, M.long, length-replicate {A = ℕ} 512 2);
    start_small = omega (arith, listed-short K s R.listed, R.few);
    bias_small = omega arith;
    above = λ k a b u e.
        let i = hi_set_in R.table k a b u e in
        let A = after K (label_of t k) u i in
        omega (
          arith,
          marked (label_of t k) (omega (arith, A.known, R.few)),
          weight-difference u A.rest,
          difference-more K s (label_of t k) u R.listed (not_again A),
        );
  }

  module _ (a : ℕ) (h : a < count t + 2) (l : 0 < a) where
    pub lightest-closest : lightest W z (family_at t a) ≡ closest s (family_at t a)
    lightest-closest = least-same (weight W z) (difference s) (family_at t a) (λ u e. weight-difference u (set_in R.table a h u e))

    pub weight-closest : weight W z (lightest W z (family_at t a)) ≡ difference s (closest s (family_at t a))
    weight-closest =
        weight-difference (lightest W z (family_at t a))
        (set_in R.table a h _ (least-elem (weight W z) (family_at t a) (some R.table a l h)))
        ∙ ap (difference s) lightest-closest
