-- The first listed of those that measure least in a node's family, from those of its children's. Assumes nothing.
use mathlib.Core.Path.{◌≡◌, refl, sym, ap, ap₂, ◌∙◌, subst}
use mathlib.Core.Bool.{Bool, true, false, cond, ◌&&◌, and-true}
use mathlib.Core.Logic.{◌⊎◌, inl, inr}
use mathlib.Core.List.{List, [], ◌∷◌, ◌++◌, map, append-nil}
use Prim.Native.Nat.{ℕ, ◌+◌, ◌≤◌, ◌<◌}
use native.Mathlib.Nat.{not-suc-le-zero}
use native.Mathlib.Omega.{arith}
use lib.Dec.{leb}
use lib.ListN.{length, get_or}
use borrow.Author.Tests.{leb-true, leb-false, le-leb, lt-leb}
use Rattle.base.proofs.Bools.{cases, same_test, and_left, and_right, and_both, or_right}
use Rattle.zdd.specs.Table.{Family, fork, eq_set, elem, filter}
use Rattle.zdd.proofs.Member.{elem-head}
use Rattle.zdd.proofs.Listing.{filter_same}
use Rattle.query.specs.Questions.{none_below, least}

module _ (v : List ℕ → ℕ) where
  -- the lesser of two, the first where they measure the same
  lesser : List ℕ → List ℕ → List ℕ
  lesser s t = cond (leb (v s) (v t)) s t

  lesser-first : (s t : List ℕ) → v s ≤ v t → lesser s t ≡ s
  unfolding lesser
  lesser-first s t h = ap (λ (b : Bool). cond b s t) (le-leb (v s) (v t) h)

  lesser_second : (s t : List ℕ) → v t < v s → lesser s t ≡ t
  unfolding lesser
  lesser_second s t h = ap (λ (b : Bool). cond b s t) (lt-leb (v s) (v t) h)

  -- the first that measures least of u ∷ F
  best : List ℕ → Family → List ℕ
  best u [] = u
  best u (w ∷ F) = lesser u (best w F)

  none_best : (x : ℕ) (u : List ℕ) (F : Family) → none_below v x (u ∷ F) ≡ leb x (v (best u F))
  unfolding none_below best
  none_best x u [] = and-true (leb x (v u))
  none_best x u (w ∷ F) = ap (λ (b : Bool). leb x (v u) && b) (none_best x w F) ∙ go (cases (leb (v u) (v (best w F))))
    where
      go : (leb (v u) (v (best w F)) ≡ true) ⊎ (leb (v u) (v (best w F)) ≡ false)
          → (leb x (v u) && leb x (v (best w F))) ≡ leb x (v (lesser u (best w F)))
      go (inl q) =
          let l : v u ≤ v (best w F) = leb-true (v u) (v (best w F)) q in
          same_test (leb x (v u) && leb x (v (best w F))) (leb x (v u)) (and_left (leb x (v u)) (leb x (v (best w F))))
          (λ e. and_both (leb x (v u)) (leb x (v (best w F))) e
          (let k : x ≤ v u = leb-true x (v u) e in le-leb x (v (best w F)) (omega arith)))
          ∙ ap (λ (s : List ℕ). leb x (v s)) (sym (lesser-first u (best w F) l))
      go (inr q) =
          let l : v (best w F) < v u = leb-false (v u) (v (best w F)) q in
          same_test (leb x (v u) && leb x (v (best w F))) (leb x (v (best w F))) (and_right (leb x (v u)) (leb x (v (best w F))))
          (λ e. and_both (leb x (v u)) (leb x (v (best w F)))
          (let k : x ≤ v (best w F) = leb-true x (v (best w F)) e in le-leb x (v u) (omega arith)) e)
          ∙ ap (λ (s : List ℕ). leb x (v s)) (sym (lesser_second u (best w F) l))

  first_best : (m : ℕ) (u : List ℕ) (F : Family) → m ≡ v (best u F) → get_or (filter (λ t. leb (v t) m) (u ∷ F)) 0 [] ≡ best u F
  unfolding filter best
  first_best m u [] e = ap (λ (b : Bool). get_or (cond b (u ∷ []) []) 0 []) (le-leb (v u) m (omega arith))
  first_best m u (w ∷ F) e = go (cases (leb (v u) (v (best w F)))) (first_best m w F)
    where
      go : (leb (v u) (v (best w F)) ≡ true) ⊎ (leb (v u) (v (best w F)) ≡ false)
          → (m ≡ v (best w F) → get_or (filter (λ t. leb (v t) m) (w ∷ F)) 0 [] ≡ best w F)
          → get_or (cond (leb (v u) m) (u ∷ filter (λ t. leb (v t) m) (w ∷ F)) (filter (λ t. leb (v t) m) (w ∷ F))) 0 [] ≡ lesser u (best w F)
      go (inl q) ih =
          let k : lesser u (best w F) ≡ u = lesser-first u (best w F) (leb-true (v u) (v (best w F)) q) in
          let z : m ≡ v u = e ∙ ap (v) k in
          ap (λ (b : Bool). get_or (cond b (u ∷ filter (λ t. leb (v t) m) (w ∷ F)) (filter (λ t. leb (v t) m) (w ∷ F))) 0 []) (le-leb (v u) m (omega arith))
          ∙ sym k
      go (inr q) ih =
          let l : v (best w F) < v u = leb-false (v u) (v (best w F)) q in
          let k : lesser u (best w F) ≡ best w F = lesser_second u (best w F) l in
          let z : m ≡ v (best w F) = e ∙ ap (v) k in
          ap (λ (b : Bool). get_or (cond b (u ∷ filter (λ t. leb (v t) m) (w ∷ F)) (filter (λ t. leb (v t) m) (w ∷ F))) 0 []) (lt-leb (v u) m (omega arith))
          ∙ ih z ∙ sym k

  least_best : (u : List ℕ) (F : Family) → least v (u ∷ F) ≡ best u F
  unfolding least
  least_best u F =
      ap (λ (G : Family). get_or G 0 [])
      (filter_same (λ t. none_below v (v t) (u ∷ F)) (λ t. leb (v t) (v (best u F))) (u ∷ F) (λ t m. none_best (v t) u F))
      ∙ first_best (v (best u F)) u F refl

  lesser_assoc : (x y z : List ℕ) → lesser x (lesser y z) ≡ lesser (lesser x y) z
  lesser_assoc x y z = go (cases (leb (v x) (v y))) (cases (leb (v y) (v z)))
    where
      go : (leb (v x) (v y) ≡ true) ⊎ (leb (v x) (v y) ≡ false)
          → (leb (v y) (v z) ≡ true) ⊎ (leb (v y) (v z) ≡ false) → lesser x (lesser y z) ≡ lesser (lesser x y) z
      go (inl p) (inl q) =
          let a = leb-true (v x) (v y) p in
          let b = leb-true (v y) (v z) q in
          ap (lesser x) (lesser-first y z b) ∙ lesser-first x y a
          ∙ sym (ap (λ (s : List ℕ). lesser s z) (lesser-first x y a) ∙ lesser-first x z (omega arith))
      go (inl p) (inr q) =
          let a = leb-true (v x) (v y) p in
          let b = leb-false (v y) (v z) q in
          ap (lesser x) (lesser_second y z b) ∙ sym (ap (λ (s : List ℕ). lesser s z) (lesser-first x y a))
      go (inr p) (inl q) =
          let a = leb-false (v x) (v y) p in
          let b = leb-true (v y) (v z) q in
          ap (lesser x) (lesser-first y z b) ∙ lesser_second x y a
          ∙ sym (ap (λ (s : List ℕ). lesser s z) (lesser_second x y a) ∙ lesser-first y z b)
      go (inr p) (inr q) =
          let a = leb-false (v x) (v y) p in
          let b = leb-false (v y) (v z) q in
          ap (lesser x) (lesser_second y z b) ∙ lesser_second x z (omega arith)
          ∙ sym (ap (λ (s : List ℕ). lesser s z) (lesser_second x y a) ∙ lesser_second y z b)

  best_append : (u : List ℕ) (F : Family) (w : List ℕ) (G : Family) → best u (F ++ (w ∷ G)) ≡ lesser (best u F) (best w G)
  unfolding best
  best_append u [] w G = refl
  best_append u (y ∷ F) w G = ap (lesser u) (best_append y F w G) ∙ lesser_assoc u (best y F) (best w G)

  lesser_one : (s t : List ℕ) → (lesser s t ≡ s) ⊎ (lesser s t ≡ t)
  lesser_one s t = go (cases (leb (v s) (v t)))
    where
      go : (leb (v s) (v t) ≡ true) ⊎ (leb (v s) (v t) ≡ false) → (lesser s t ≡ s) ⊎ (lesser s t ≡ t)
      go (inl q) = inl (lesser-first s t (leb-true (v s) (v t) q))
      go (inr q) = inr (lesser_second s t (leb-false (v s) (v t) q))

  best_elem : (u : List ℕ) (F : Family) → elem (best u F) (u ∷ F) ≡ true
  unfolding best elem
  best_elem u [] = elem-head u []
  best_elem u (w ∷ F) = go (lesser_one u (best w F)) (best_elem w F)
    where
      go : (lesser u (best w F) ≡ u) ⊎ (lesser u (best w F) ≡ best w F) → elem (best w F) (w ∷ F) ≡ true → elem (lesser u (best w F)) (u ∷ w ∷ F) ≡ true
      go (inl e) m = subst (λ (s : List ℕ). elem s (u ∷ w ∷ F) ≡ true) (sym e) (elem-head u (w ∷ F))
      go (inr e) m = subst (λ (s : List ℕ). elem s (u ∷ w ∷ F) ≡ true) (sym e) (or_right (eq_set (best w F) u) (elem (best w F) (w ∷ F)) m)

  pub least-elem : (F : Family) → 0 < length F → elem (least v F) F ≡ true
  least-elem [] h = absurd (not-suc-le-zero h)
  least-elem (u ∷ F) h = subst (λ (s : List ℕ). elem s (u ∷ F) ≡ true) (sym (least_best u F)) (best_elem u F)

  pub least_one : least v ([] ∷ []) ≡ []
  unfolding best
  least_one = least_best [] []

  -- ---- of a node's family

  -- the package p adds x, less y, to what each set of F measures
  abbrev pub Adds : (p x y : ℕ) → Family → Type 0
  Adds p x y F = (s : List ℕ) → elem s F ≡ true → v (p ∷ s) + y ≡ x + v s

  module _ (p x y : ℕ) where
    best_map : (u : List ℕ) (F : Family) → Adds p x y (u ∷ F) → best (p ∷ u) (map (λ (t : List ℕ). p ∷ t) F) ≡ p ∷ best u F
    unfolding best elem
    best_map u [] h = refl
    best_map u (w ∷ F) h = ap (lesser (p ∷ u)) (best_map w F (λ s e. h s (or_right (eq_set s u) (elem s (w ∷ F)) e))) ∙ go (cases (leb (v u) (v (best w F))))
      where
        first : v (p ∷ u) + y ≡ x + v u
        first = h u (elem-head u (w ∷ F))

        other : v (p ∷ best w F) + y ≡ x + v (best w F)
        other = h (best w F) (or_right (eq_set (best w F) u) (elem (best w F) (w ∷ F)) (best_elem w F))

        go : (leb (v u) (v (best w F)) ≡ true) ⊎ (leb (v u) (v (best w F)) ≡ false) → lesser (p ∷ u) (p ∷ best w F) ≡ p ∷ lesser u (best w F)
        go (inl q) =
            let l = leb-true (v u) (v (best w F)) q in
            lesser-first (p ∷ u) (p ∷ best w F) (omega (arith, first, other)) ∙ ap (λ (s : List ℕ). p ∷ s) (sym (lesser-first u (best w F) l))
        go (inr q) =
            let l = leb-false (v u) (v (best w F)) q in
            lesser_second (p ∷ u) (p ∷ best w F) (omega (arith, first, other)) ∙ ap (λ (s : List ℕ). p ∷ s) (sym (lesser_second u (best w F) l))

    pub least_alone : (F1 : Family) → 0 < length F1 → Adds p x y F1 → least v (fork p F1 []) ≡ p ∷ least v F1
    least_alone [] h a = absurd (not-suc-le-zero h)
    least_alone (u ∷ F1) h a =
        ap (least v) (append-nil (map (λ (t : List ℕ). p ∷ t) (u ∷ F1)))
        ∙ least_best (p ∷ u) (map (λ (t : List ℕ). p ∷ t) F1) ∙ best_map u F1 a ∙ ap (λ (s : List ℕ). p ∷ s) (sym (least_best u F1))

    module _ (F1 F0 : Family) (h : 0 < length F1) (k : 0 < length F0) (a : Adds p x y F1) where
      least-both : least v (fork p F1 F0) ≡ lesser (p ∷ least v F1) (least v F0)
      least-both = go F1 F0 h k a
        where
          go : (F1 F0 : Family) → 0 < length F1 → 0 < length F0 → Adds p x y F1 → least v (fork p F1 F0) ≡ lesser (p ∷ least v F1) (least v F0)
          go [] F0 h k a = absurd (not-suc-le-zero h)
          go (u ∷ F1) [] h k a = absurd (not-suc-le-zero k)
          go (u ∷ F1) (w ∷ F0) h k a =
              least_best (p ∷ u) (map (λ (t : List ℕ). p ∷ t) F1 ++ (w ∷ F0))
              ∙ best_append (p ∷ u) (map (λ (t : List ℕ). p ∷ t) F1) w F0
              ∙ ap₂ lesser (best_map u F1 a ∙ ap (λ (s : List ℕ). p ∷ s) (sym (least_best u F1))) (sym (least_best w F0))

      added : v (p ∷ least v F1) + y ≡ x + v (least v F1)
      added = a (least v F1) (least-elem F1 h)

      pub least-hi : x + v (least v F1) ≤ v (least v F0) + y → least v (fork p F1 F0) ≡ p ∷ least v F1
      least-hi l = least-both ∙ lesser-first (p ∷ least v F1) (least v F0) (omega (arith, added))

      pub least-lo : v (least v F0) + y < x + v (least v F1) → least v (fork p F1 F0) ≡ least v F0
      least-lo l = least-both ∙ lesser_second (p ∷ least v F1) (least v F0) (omega (arith, added))

-- ---- only what the sets of the family measure counts

module _ (v w : List ℕ → ℕ) where
  none-same : (x : ℕ) (F : Family) → ((s : List ℕ) → elem s F ≡ true → v s ≡ w s) → none_below v x F ≡ none_below w x F
  unfolding none_below elem
  none-same x [] h = refl
  none-same x (u ∷ F) h =
      ap₂ (λ (n : ℕ) (b : Bool). leb x n && b) (h u (elem-head u F)) (none-same x F (λ s e. h s (or_right (eq_set s u) (elem s F) e)))

  pub least-same : (F : Family) → ((s : List ℕ) → elem s F ≡ true → v s ≡ w s) → least v F ≡ least w F
  unfolding least
  least-same F h =
      ap (λ (G : Family). get_or G 0 [])
      (filter_same (λ t. none_below v (v t) F) (λ t. none_below w (w t) F) F
      (λ t m. none-same (v t) F h ∙ ap (λ (n : ℕ). none_below w n F) (h t m)))

pub least-none : (v : List ℕ → ℕ) → least v [] ≡ []
unfolding least filter
least-none v = refl
