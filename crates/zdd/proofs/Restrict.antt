-- The sets of a family that hold a label, and those that do not, by the first label. Assumes nothing.
use mathlib.Core.Path.{◌≡◌, refl, sym, ap, ap₂, ◌∙◌, subst}
use mathlib.Core.Bool.{Bool, true, false, not, ◌&&◌, ◌||◌, and-true, and-false, and-or_distrib_right}
use mathlib.Core.List.{List, [], ◌∷◌}
use mathlib.Core.Logic.{◌⊎◌, inl, inr}
use Prim.Native.Nat.{ℕ, suc, ◌≤◌, ◌<◌}
use native.Mathlib.Omega.{arith}
use lib.Dec.{eqb}
use lib.ListN.{length}
use borrow.Author.Tests.{eqb-true}
use Rattle.base.proofs.Bools.{never, is_false, and_left, or_cases, drop_test}
use Rattle.zdd.specs.Table.{Family, fork, key, Keys, elem, filter, all_sets, sets, order, has}
use Rattle.zdd.proofs.Sorting.{Sorted, order_sorted}
use Rattle.zdd.specs.Work.{From, Split}
use Rattle.zdd.proofs.Member.{from_at, from_of, from_nil, fork-cases, elem-fork-nil, elem-fork-cons}
use Rattle.zdd.proofs.Listing.{has_first, all_labels, Listed, listed-fork, listed-filter, listed-elem, listed_same, elem-filter, filter_same, filter_none}
use Rattle.zdd.specs.Operations.{including, excluding}

-- ---- the sets of F that pass a test

unfoldable pub keep : (List ℕ → Bool) → List ℕ → Family → Family
keep P K F = filter (λ t. elem t F && P t) (sets K)

pub listed-keep : (P : List ℕ → Bool) (K : List ℕ) (F : Family) → Listed K (keep P K F)
unfolding keep
listed-keep P K F = listed-filter K (λ t. elem t F && P t)

pub elem-keep : (P : List ℕ → Bool) (K : List ℕ) (F : Family) → Listed K F → (t : List ℕ) → elem t (keep P K F) ≡ (elem t F && P t)
unfolding keep
elem-keep P K F f t =
    elem-filter (λ t. elem t F && P t) t (sets K) ∙ drop_test (elem t F && P t) (elem t (sets K)) (λ e. listed-elem K F f t (and_left (elem t F) (P t) e))

pub from_keep : (P : List ℕ → Bool) (K : List ℕ) (b : ℕ) (F : Family) → Listed K F → From K b F → From K b (keep P K F)
from_keep P K b F l f =
    from_of K b (keep P K F) (λ q t e. from_at K b F f q t (and_left (elem (q ∷ t) F) (P (q ∷ t)) (sym (elem-keep P K F l (q ∷ t)) ∙ e)))

pub keep-fork : (P : List ℕ → Bool) (K : List ℕ) → Keys K → (q : ℕ) → q < length K → (F1 F0 : Family) → Listed K F1 → Listed K F0
    → From K (suc (key K q)) F1 → From K (suc (key K q)) F0 → keep P K (fork q F1 F0) ≡ fork q (keep (λ t. P (q ∷ t)) K F1) (keep P K F0)
keep-fork P K k q h F1 F0 l1 l0 f1 f0 =
    listed_same K k (keep P K (fork q F1 F0)) (fork q (keep P1 K F1) (keep P K F0))
    (listed-keep P K (fork q F1 F0))
    (listed-fork K k q h (keep P1 K F1) (keep P K F0) (from_keep P1 K (suc (key K q)) F1 l1 f1) (from_keep P K (suc (key K q)) F0 l0 f0)
    (listed-keep P1 K F1) (listed-keep P K F0))
    (λ t. elem-keep P K (fork q F1 F0) (listed-fork K k q h F1 F0 f1 f0 l1 l0) t ∙ same t)
  where
    P1 : List ℕ → Bool
    P1 t = P (q ∷ t)

    by_label : (c a b x y : Bool) → (c ≡ true → x ≡ y) → (((c && a) || b) && x) ≡ ((c && (a && y)) || (b && x))
    by_label false a b x y e = refl
    by_label true a b x y e = and-or_distrib_right a b x ∙ ap (λ (z : Bool). (a && z) || (b && x)) (e refl)

    same : (t : List ℕ) → (elem t (fork q F1 F0) && P t) ≡ elem t (fork q (keep P1 K F1) (keep P K F0))
    same [] =
        ap (λ (b : Bool). b && P []) (elem-fork-nil q F1 F0) ∙ sym (elem-keep P K F0 l0 []) ∙ sym (elem-fork-nil q (keep P1 K F1) (keep P K F0))
    same (r ∷ u) =
        ap (λ (b : Bool). b && P (r ∷ u)) (elem-fork-cons q r u F1 F0)
        ∙ by_label (eqb r q) (elem u F1) (elem (r ∷ u) F0) (P (r ∷ u)) (P (q ∷ u)) (λ e. ap (λ (s : ℕ). P (s ∷ u)) (eqb-true r q e))
        ∙ ap₂ (λ (x y : Bool). (eqb r q && x) || y) (sym (elem-keep P1 K F1 l1 u)) (sym (elem-keep P K F0 l0 (r ∷ u)))
        ∙ sym (elem-fork-cons q r u (keep P1 K F1) (keep P K F0))

both-same : (a b c : Bool) → (a ≡ true → b ≡ c) → (a && b) ≡ (a && c)
both-same true b c e = e refl
both-same false b c e = refl

pub keep_same : (P Q : List ℕ → Bool) (K : List ℕ) (F : Family) → ((t : List ℕ) → elem t F ≡ true → P t ≡ Q t) → keep P K F ≡ keep Q K F
unfolding keep
keep_same P Q K F h = filter_same (λ t. elem t F && P t) (λ t. elem t F && Q t) (sets K) (λ t m. both-same (elem t F) (P t) (Q t) (h t))

pub keep_all : (P : List ℕ → Bool) (K : List ℕ) → Keys K → (F : Family) → Listed K F → ((t : List ℕ) → elem t F ≡ true → P t ≡ true) → keep P K F ≡ F
keep_all P K k F f h =
    listed_same K k (keep P K F) F (listed-keep P K F) f
    (λ t. elem-keep P K F f t ∙ both-same (elem t F) (P t) true (h t) ∙ and-true (elem t F))

pub keep-none : (P : List ℕ → Bool) (K : List ℕ) (F : Family) → ((t : List ℕ) → elem t F ≡ true → P t ≡ false) → keep P K F ≡ []
unfolding keep
keep-none P K F h =
    filter_same (λ t. elem t F && P t) (λ t. false) (sets K) (λ t m. both-same (elem t F) (P t) false (h t) ∙ and-false (elem t F)) ∙ filter_none (sets K)

-- ---- the labels of sets that begin late

all_later : (K ps : List ℕ) → Sorted K ps → (q : ℕ) (u : List ℕ) (r : ℕ) → elem (q ∷ u) (all_sets ps) ≡ true → has r u ≡ true → key K q < key K r
unfolding all_sets elem
all_later K [] s q u r e h = absurd (never e refl)
all_later K (p ∷ ps) s q u r e h = go (fork-cases p q u (all_sets ps) (all_sets ps) e) (all_later K ps s.1 q u r)
  where
    go : ((q ≡ p) × (elem u (all_sets ps) ≡ true)) ⊎ (elem (q ∷ u) (all_sets ps) ≡ true)
        → (elem (q ∷ u) (all_sets ps) ≡ true → has r u ≡ true → key K q < key K r) → key K q < key K r
    go (inl a) f = let l : key K p < key K r = s.0 r (all_labels ps u r a.1 h) in subst (λ (x : ℕ). key K x < key K r) (sym a.0) l
    go (inr a) f = f a h

-- in a set each label comes after the first
sets_later : (K : List ℕ) → Keys K → (q : ℕ) (u : List ℕ) (r : ℕ) → elem (q ∷ u) (sets K) ≡ true → has r u ≡ true → key K q < key K r
unfolding sets
sets_later K k = all_later K (order K) (order_sorted K k)

-- where the sets of a listed family begin at b or later, so do all their labels
pub labels_from : (K : List ℕ) → Keys K → (b : ℕ) (F : Family) → Listed K F → From K b F → (t : List ℕ) → elem t F ≡ true → (r : ℕ) → has r t ≡ true → b ≤ key K r
unfolding has
labels_from K k b F l f [] e r h = absurd (never h refl)
labels_from K k b F l f (q ∷ u) e r h = go (or_cases (eqb r q) (has r u) h)
  where
    first : b ≤ key K q
    first = from_at K b F f q u e

    go : (eqb r q ≡ true) ⊎ (has r u ≡ true) → b ≤ key K r
    go (inl x) = let z : key K r ≡ key K q = ap (key K) (eqb-true r q x) in omega (arith, first)
    go (inr x) = omega (arith, first, sets_later K k q u r (listed-elem K F l (q ∷ u) e) x)

-- so none that begins after p holds p
pub late : (K : List ℕ) → Keys K → (p : ℕ) (F : Family) → Listed K F → From K (suc (key K p)) F → (t : List ℕ) → elem t F ≡ true → has p t ≡ false
late K k p F l f t e = is_false (has p t) (λ h. let z : suc (key K p) ≤ key K p = labels_from K k (suc (key K p)) F l f t e p h in omega arith)

-- ---- the two restrictions

has_other : (p q : ℕ) (t : List ℕ) → eqb p q ≡ false → has p (q ∷ t) ≡ has p t
unfolding has
has_other p q t e = ap (λ (b : Bool). b || has p t) e

lacks : ℕ → List ℕ → Bool
lacks p t = not (has p t)

is_including : (K : List ℕ) (p : ℕ) (F : Family) → including K p F ≡ keep (has p) K F
unfolding including keep
is_including K p F = refl

is_excluding : (K : List ℕ) (p : ℕ) (F : Family) → excluding K p F ≡ keep (lacks p) K F
unfolding excluding keep lacks
is_excluding K p F = refl

module _ (K : List ℕ) (k : Keys K) (p : ℕ) where
  -- a family that begins after p
  pub including_after : (F : Family) → Listed K F → From K (suc (key K p)) F → including K p F ≡ []
  including_after F l f = is_including K p F ∙ keep-none (has p) K F (late K k p F l f)

  pub excluding_after : (F : Family) → Listed K F → From K (suc (key K p)) F → excluding K p F ≡ F
  unfolding lacks
  excluding_after F l f = is_excluding K p F ∙ keep_all (lacks p) K k F l (λ t e. ap not (late K k p F l f t e))

  module _ (q : ℕ) (h : q < length K) (F1 F0 : Family) (l1 : Listed K F1) (l0 : Listed K F0) (f1 : From K (suc (key K q)) F1) (f0 : From K (suc (key K q)) F0) where
    -- the first label is another one
    pub including_other : eqb p q ≡ false → Split K (including K p (fork q F1 F0)) q (including K p F1) (including K p F0)
    including_other e = record {
      is =
          is_including K p (fork q F1 F0) ∙ keep-fork (has p) K k q h F1 F0 l1 l0 f1 f0
          ∙ ap₂ (fork q) (keep_same (λ t. has p (q ∷ t)) (has p) K F1 (λ t m. has_other p q t e) ∙ sym (is_including K p F1)) (sym (is_including K p F0));
      hi_from = subst (From K (suc (key K q))) (sym (is_including K p F1)) (from_keep (has p) K (suc (key K q)) F1 l1 f1);
      lo_from = subst (From K (suc (key K q))) (sym (is_including K p F0)) (from_keep (has p) K (suc (key K q)) F0 l0 f0);
    }

    pub excluding_other : eqb p q ≡ false → Split K (excluding K p (fork q F1 F0)) q (excluding K p F1) (excluding K p F0)
    unfolding lacks
    excluding_other e = record {
      is =
          is_excluding K p (fork q F1 F0) ∙ keep-fork (lacks p) K k q h F1 F0 l1 l0 f1 f0
          ∙ ap₂ (fork q) (keep_same (λ t. lacks p (q ∷ t)) (lacks p) K F1 (λ t m. ap not (has_other p q t e)) ∙ sym (is_excluding K p F1)) (sym (is_excluding K p F0));
      hi_from = subst (From K (suc (key K q))) (sym (is_excluding K p F1)) (from_keep (lacks p) K (suc (key K q)) F1 l1 f1);
      lo_from = subst (From K (suc (key K q))) (sym (is_excluding K p F0)) (from_keep (lacks p) K (suc (key K q)) F0 l0 f0);
    }

    -- the first label is p
    pub including-same : q ≡ p → Split K (including K p (fork q F1 F0)) q F1 []
    including-same e = record {
      is =
          is_including K p (fork q F1 F0) ∙ keep-fork (has p) K k q h F1 F0 l1 l0 f1 f0
          ∙ ap₂ (fork q)
          (keep_all (λ t. has p (q ∷ t)) K k F1 l1 (λ t m. ap (λ (r : ℕ). has p (r ∷ t)) e ∙ has_first p t))
          (keep-none (has p) K F0 (late K k p F0 l0 (subst (λ (r : ℕ). From K (suc (key K r)) F0) e f0)));
      hi_from = f1;
      lo_from = from_nil K (suc (key K q));
    }

    pub excluding-same : q ≡ p → excluding K p (fork q F1 F0) ≡ F0
    unfolding lacks
    excluding-same e =
        is_excluding K p (fork q F1 F0) ∙ keep-fork (lacks p) K k q h F1 F0 l1 l0 f1 f0
        ∙ ap₂ (fork q)
        (keep-none (λ t. lacks p (q ∷ t)) K F1 (λ t m. ap not (ap (λ (r : ℕ). has p (r ∷ t)) e ∙ has_first p t)))
        (keep_all (lacks p) K k F0 l0 (λ t m. ap not (late K k p F0 l0 (subst (λ (r : ℕ). From K (suc (key K r)) F0) e f0) t m)))
