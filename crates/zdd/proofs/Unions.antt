-- Unions of sets. THEOREM `union_labels`, `labels_union`: s is the union of u and v exactly where its labels are those of u and those of v. Two sets have
-- just one union among all sets, `merge`. Assumes nothing.
use mathlib.Core.Path.{◌≡◌, refl, sym, ap, ◌∙◌}
use mathlib.Core.Logic.{⊎_elim}
use mathlib.Core.Bool.{Bool, true, false, cond, ◌&&◌, ◌||◌, or_assoc}
use mathlib.Core.List.{List, [], ◌∷◌, ◌++◌}
use Prim.Native.Nat.{ℕ}
use lib.Dec.{eqb}
use borrow.Author.Tests.{eqb-true}
use Rattle.base.proofs.Bools.{never, same_test, drop_test, and_left, and_right, and_both, or_cases, or_left, or_right}
use Rattle.zdd.specs.Table.{sets, all_sets, order, elem, filter, has, Keys}
use Rattle.zdd.specs.Operations.{within, is_union}
use Rattle.zdd.proofs.Member.{has_in, in_has, fork-hi, fork-lo}
use Rattle.zdd.proofs.Listing.{has_first, all_labels}
use Rattle.zdd.proofs.Ordered.{sets_ext}
use Rattle.zdd.proofs.Below.{in_filter, filter_in}

-- ---- the labels of a union

has-append : (p : ℕ) (u v : List ℕ) → has p (u ++ v) ≡ (has p u || has p v)
unfolding has
has-append p [] v = refl
has-append p (q ∷ u) v = ap (λ (b : Bool). eqb p q || b) (has-append p u v) ∙ sym (or_assoc (eqb p q) (has p u) (has p v))

within_of : (s t : List ℕ) → within s t ≡ true → (p : ℕ) → has p s ≡ true → has p t ≡ true
unfolding within has
within_of [] t w p e = absurd (never e refl)
within_of (q ∷ s) t w p e =
    ⊎_elim (λ a. ap (λ (x : ℕ). has x t) (eqb-true p q a) ∙ and_left (has q t) (within s t) w) (within_of s t (and_right (has q t) (within s t) w) p)
    (or_cases (eqb p q) (has p s) e)

within_test : (s t : List ℕ) → ((p : ℕ) → has p s ≡ true → has p t ≡ true) → within s t ≡ true
unfolding within has
within_test [] t f = refl
within_test (q ∷ s) t f =
    and_both (has q t) (within s t) (f q (has_first q s)) (within_test s t (λ p e. f p (or_right (eqb p q) (has p s) e)))

pub union_labels : (u v s : List ℕ) → is_union u v s ≡ true → (p : ℕ) → has p s ≡ (has p u || has p v)
unfolding is_union
union_labels u v s e p =
    let in-u : within u s ≡ true = and_left (within u s) _ e in
    let in-v : within v s ≡ true = and_left (within v s) _ (and_right (within u s) _ e) in
    let no_other : within s (u ++ v) ≡ true = and_right (within v s) _ (and_right (within u s) _ e) in
    same_test (has p s) (has p u || has p v)
    (λ h. sym (has-append p u v) ∙ within_of s (u ++ v) no_other p h)
    (λ h. ⊎_elim (within_of u s in-u p) (within_of v s in-v p) (or_cases (has p u) (has p v) h))

pub labels_union : (u v s : List ℕ) → ((p : ℕ) → has p s ≡ (has p u || has p v)) → is_union u v s ≡ true
unfolding is_union
labels_union u v s f =
    and_both (within u s) _ (within_test u s (λ p h. f p ∙ or_left (has p u) (has p v) h))
    (and_both (within v s) _ (within_test v s (λ p h. f p ∙ or_right (has p u) (has p v) h))
    (within_test s (u ++ v) (λ p h. has-append p u v ∙ sym (f p) ∙ h)))

-- ---- the union of two sets

-- the labels that pass a test are a set
all_filter : (P : ℕ → Bool) (ps : List ℕ) → elem (filter P ps) (all_sets ps) ≡ true
unfolding filter all_sets elem
all_filter P [] = refl
all_filter P (p ∷ ps) = go (P p) (all_filter P ps)
  where
    go : (b : Bool) → elem (filter P ps) (all_sets ps) ≡ true → elem (cond b (p ∷ filter P ps) (filter P ps)) (all_sets (p ∷ ps)) ≡ true
    go true ih = fork-hi p (filter P ps) (all_sets ps) (all_sets ps) ih
    go false ih = fork-lo p (filter P ps) (all_sets ps) (all_sets ps) ih

has-filter : (P : ℕ → Bool) (p : ℕ) (l : List ℕ) → has p (filter P l) ≡ (P p && has p l)
has-filter P p l =
    same_test (has p (filter P l)) (P p && has p l)
    (λ e. let m = in_filter P l (has_in p (filter P l) e) in and_both (P p) (has p l) m.1 (in_has p l m.0))
    (λ e. in_has p (filter P l) (filter_in P l (has_in p l (and_right (P p) (has p l) e)) (and_left (P p) (has p l) e)))

module _ (K : List ℕ) where
  pub merge : List ℕ → List ℕ → List ℕ
  merge u v = filter (λ p. has p u || has p v) (order K)

  pub merge_set : (u v : List ℕ) → elem (merge u v) (sets K) ≡ true
  unfolding merge sets
  merge_set u v = all_filter (λ p. has p u || has p v) (order K)

  merge_has : (u v : List ℕ) → elem u (sets K) ≡ true → elem v (sets K) ≡ true → (p : ℕ) → has p (merge u v) ≡ (has p u || has p v)
  unfolding merge sets
  merge_has u v a b p =
      has-filter (λ p. has p u || has p v) p (order K)
      ∙ drop_test (has p u || has p v) (has p (order K)) (λ h. ⊎_elim (all_labels (order K) u p a) (all_labels (order K) v p b) (or_cases (has p u) (has p v) h))

  pub merge_union : (u v : List ℕ) → elem u (sets K) ≡ true → elem v (sets K) ≡ true → is_union u v (merge u v) ≡ true
  merge_union u v a b = labels_union u v (merge u v) (merge_has u v a b)

  -- THEOREM: a set that is the union of u and v is this one
  pub union_merge : Keys K → (u v s : List ℕ) → elem u (sets K) ≡ true → elem v (sets K) ≡ true → elem s (sets K) ≡ true → is_union u v s ≡ true → s ≡ merge u v
  union_merge k u v s a b c e = sets_ext K k s (merge u v) c (merge_set u v) (λ p. union_labels u v s e p ∙ sym (merge_has u v a b p))
