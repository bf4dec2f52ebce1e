-- THEOREM: `sets` is in listing order: of two sets, the first label in the order of the keys that only one of them has is in the one listed first.
-- So are the families of a sound table, and what a test keeps. Assumes nothing.
use mathlib.Core.Path.{◌≡◌, refl, sym, ap, ap₂, ◌∙◌, subst}
use mathlib.Core.Bool.{Bool, true, false, ◌||◌}
use mathlib.Core.List.Memᴰ
use mathlib.Core.List.{List, [], ◌∷◌, ◌++◌, map, Sublistᴰ}
use mathlib.Core.Logic.{◌⊎◌, inl, inr}
use Prim.Native.Nat.{ℕ, zero, suc, ◌<◌}
use native.Mathlib.Nat.{not-suc-le-zero, le_of_suc-le-suc}
use native.Mathlib.Omega.{arith}
use lib.Dec.{eqb}
use lib.ListN.{length, get_or}
use borrow.Author.Tests.{ne_eqb}
use Rattle.base.proofs.Bools.{never, is_false, or_cases, or_left, or_right, eqb_same}
use Rattle.zdd.specs.Table.{Family, key, eq_set, elem, all_sets, sets, order, Keys, has, ◌∈◌}
use Rattle.zdd.proofs.Member.{eq_set-same, elem_in, in_elem, elem-append, front}
use Rattle.zdd.proofs.Sorting.{Sorted, order_sorted}
use Rattle.zdd.proofs.Listing.{all_labels, Listed, listed-part, part_elem}
use Rattle.zdd.specs.ListingOrder.{Earlier, Descends}

-- the k-th set of a family is in it
pub nth-elem : (F : Family) (k : ℕ) → k < length F → elem (get_or F k []) F ≡ true
unfolding elem
nth-elem [] k h = absurd (not-suc-le-zero h)
nth-elem (t ∷ F) zero h = or_left (eq_set t t) (elem t F) (eq_set-same t)
nth-elem (t ∷ F) (suc k) h = or_right (eq_set (get_or F k []) t) (elem (get_or F k []) F) (nth-elem F k (le_of_suc-le-suc h))

descends_at : (K : List ℕ) (F : Family) → Descends K F → (i j : ℕ) → i < j → j < length F → Earlier K (get_or F i []) (get_or F j [])
descends_at K [] d i j l h = absurd (not-suc-le-zero h)
descends_at K (s ∷ F) d i zero l h = absurd (not-suc-le-zero l)
descends_at K (s ∷ F) d zero (suc j) l h = d.0 (get_or F j []) (nth-elem F j (le_of_suc-le-suc h))
descends_at K (s ∷ F) d (suc i) (suc j) l h = descends_at K F d.1 i j (le_of_suc-le-suc l) (le_of_suc-le-suc h)

descends_part : (K : List ℕ) {F G : Family} → Sublistᴰ F G → Descends K G → Descends K F
descends_part K Sublistᴰ.slnil d = d
descends_part K (Sublistᴰ.cons s) d = descends_part K s d.1
descends_part K (Sublistᴰ.cons-cons q s) d =
    ((λ t e. subst (λ (u : List ℕ). Earlier K u t) (sym q) (d.0 t (part_elem t s e))), descends_part K s d.1)

descends_append : (K : List ℕ) (F G : Family) → Descends K F → Descends K G
    → ((s t : List ℕ) → elem s F ≡ true → elem t G ≡ true → Earlier K s t) → Descends K (F ++ G)
unfolding elem
descends_append K [] G d e h = e
descends_append K (s ∷ F) G d e h = (
  λ t m. go t (or_cases (elem t F) (elem t G) (sym (elem-append t F G) ∙ m)),
  descends_append K F G d.1 e (λ u t a b. h u t (or_right (eq_set u s) (elem u F) a) b),
)
  where
    go : (t : List ℕ) → (elem t F ≡ true) ⊎ (elem t G ≡ true) → Earlier K s t
    go t (inl a) = d.0 t a
    go t (inr b) = h s t (or_left (eq_set s s) (elem s F) (eq_set-same s)) b

module _ (K : List ℕ) (p : ℕ) (ps : List ℕ) (later : (r : ℕ) → has r ps ≡ true → key K p < key K r) where
  -- a label up to p is in no set of ps
  without : (s : List ℕ) → elem s (all_sets ps) ≡ true → (q : ℕ) → key K q < suc (key K p) → has q s ≡ false
  without s e q l = is_false (has q s) (λ h. let z : key K p < key K q = later q (all_labels ps s q e h) in omega arith)

  -- two sets with p in front
  both_have : (F : Family) → ((t : List ℕ) → elem t F ≡ true → elem t (all_sets ps) ≡ true) → Descends K F → Descends K (map (λ (t : List ℕ). p ∷ t) F)
  unfolding elem has
  both_have [] w d = tt
  both_have (s ∷ F) w d = (
    λ t m. let r = front p F t m in subst (Earlier K (p ∷ s)) (sym r.1) (step r.0 (d.0 r.0 r.2)),
    both_have F (λ t e. w t (or_right (eq_set t s) (elem t F) e)) d.1,
  )
    where
      step : (t : List ℕ) → Earlier K s t → Earlier K (p ∷ s) (p ∷ t)
      step t e =
          let z : key K p < key K e.first = later e.first (all_labels ps s e.first (w s (or_left (eq_set s s) (elem s F) (eq_set-same s))) e.here) in
          let n : eqb e.first p ≡ false = ne_eqb e.first p (λ q. let k = ap (key K) q in omega arith) in
          record {
            first = e.first;
            here = or_right (eqb e.first p) (has e.first s) e.here;
            not_there = ap₂ ◌||◌ n e.not_there;
            before = λ q l. ap (λ (b : Bool). eqb q p || b) (e.before q l);
          }

  -- a set with p in front, and one without p
  one_has : (s t : List ℕ) → elem s (map (λ (u : List ℕ). p ∷ u) (all_sets ps)) ≡ true → elem t (all_sets ps) ≡ true → Earlier K s t
  unfolding has
  one_has s t a b =
      let r = front p (all_sets ps) s a in
      subst (λ (u : List ℕ). Earlier K u t) (sym r.1) (step r.0 r.2)
    where
      step : (u : List ℕ) → elem u (all_sets ps) ≡ true → Earlier K (p ∷ u) t
      step u c = record {
        first = p;
        here = or_left (eqb p p) (has p u) (eqb_same p);
        not_there = without t b p (omega arith);
        before = λ q l.
            ap₂ ◌||◌ (ne_eqb q p (λ e. let k = ap (key K) e in omega arith)) (without u c q (omega arith)) ∙ sym (without t b q (omega arith));
      }

all_descend : (K ps : List ℕ) → Sorted K ps → Descends K (all_sets ps)
unfolding all_sets elem
all_descend K [] s = ((λ t e. absurd (never e refl)), tt)
all_descend K (p ∷ ps) s =
    descends_append K (map (λ (t : List ℕ). p ∷ t) (all_sets ps)) (all_sets ps)
    (both_have K p ps s.0 (all_sets ps) (λ t e. e) (all_descend K ps s.1))
    (all_descend K ps s.1)
    (one_has K p ps s.0)

sets_descend : (K : List ℕ) → Keys K → Descends K (sets K)
unfolding sets
sets_descend K k = all_descend K (order K) (order_sorted K k)

-- THEOREM: all sets are in listing order
pub sets-ordered : (K : List ℕ) → Keys K → (i j : ℕ) → i < j → j < length (sets K) → Earlier K (get_or (sets K) i []) (get_or (sets K) j [])
sets-ordered K k = descends_at K (sets K) (sets_descend K k)

-- THEOREM: a listed family is in listing order
pub listed-ordered : (K : List ℕ) → Keys K → (F : Family) → Listed K F → (i j : ℕ) → i < j → j < length F → Earlier K (get_or F i []) (get_or F j [])
listed-ordered K k F s = descends_at K F (descends_part K (listed-part K F s) (sets_descend K k))

-- ---- a set is told by its labels

-- of two sets with the same labels neither is listed before the other
not_earlier : (K s u : List ℕ) → ((p : ℕ) → has p s ≡ has p u) → Earlier K s u → ⊥
not_earlier K s u f e = never (sym (f e.first) ∙ e.here) e.not_there

descends_ext : (K : List ℕ) (F : Family) → Descends K F → (s u : List ℕ) → s ∈ F → u ∈ F → ((p : ℕ) → has p s ≡ has p u) → s ≡ u
descends_ext K [] d s u a b f = absurd (Memᴰ.not-nil a)
descends_ext K (t ∷ F) d s u a b f = go (Memᴰ.cases_cons a) (Memᴰ.cases_cons b) (λ i j. descends_ext K F d.1 s u i j f)
  where
    go : (s ≡ t) ⊎ (s ∈ F) → (u ≡ t) ⊎ (u ∈ F) → (s ∈ F → u ∈ F → s ≡ u) → s ≡ u
    go (inl x) (inl y) ih = x ∙ sym y
    go (inl x) (inr j) ih = absurd (not_earlier K s u f (subst (λ (w : List ℕ). Earlier K w u) (sym x) (d.0 u (in_elem u F j))))
    go (inr i) (inl y) ih = absurd (not_earlier K u s (λ p. sym (f p)) (subst (λ (w : List ℕ). Earlier K w s) (sym y) (d.0 s (in_elem s F i))))
    go (inr i) (inr j) ih = ih i j

-- THEOREM: two sets with the same labels are one
pub sets_ext : (K : List ℕ) → Keys K → (s u : List ℕ) → elem s (sets K) ≡ true → elem u (sets K) ≡ true → ((p : ℕ) → has p s ≡ has p u) → s ≡ u
sets_ext K k s u a b = descends_ext K (sets K) (sets_descend K k) s u (elem_in s (sets K) a) (elem_in u (sets K) b)
