-- Membership of a set in a family, and families whose sets begin late. Assumes nothing.
use mathlib.Core.Path.{◌≡◌, refl, sym, ap, ap₂, ◌∙◌, subst}
use mathlib.Core.Bool.{Bool, true, false, ◌&&◌, ◌||◌, and-false, or_assoc, and-or_distrib_left}
use mathlib.Core.List.Memᴰ
use mathlib.Core.List.{List, [], ◌∷◌, ◌++◌, map}
use mathlib.Core.Logic.{◌⊎◌, inl, inr, ⊎_elim}
use Prim.Native.Nat.{ℕ, suc, ◌≤◌, ◌<◌}
use native.Mathlib.Omega.{arith}
use lib.Dec.{eqb}
use lib.ListN.{length, get_or}
use borrow.Author.Tests.{eqb-true, eq-eqb}
use Rattle.base.proofs.Bools.{never, is_false, and_left, and_right, and_both, or_cases, or_neither, or_left, or_right, eqb_same}
use Rattle.zdd.specs.Table.{Node, blank, Family, fork, family, key, Over, Nodes, eq_set, elem, has, ◌∈◌}
use Rattle.zdd.proofs.Grow.{family_ind, downward}
use Rattle.zdd.specs.Work.{From}

pub eq_set-same : (t : List ℕ) → eq_set t t ≡ true
unfolding eq_set
eq_set-same [] = refl
eq_set-same (p ∷ t) = and_both (eqb p p) (eq_set t t) (eqb_same p) (eq_set-same t)

pub eq_set_eq : (s t : List ℕ) → eq_set s t ≡ true → s ≡ t
unfolding eq_set
eq_set_eq [] [] e = refl
eq_set_eq [] (q ∷ t) e = absurd (never e refl)
eq_set_eq (p ∷ s) [] e = absurd (never e refl)
eq_set_eq (p ∷ s) (q ∷ t) e =
    ap₂ (λ (x : ℕ) (xs : List ℕ). x ∷ xs) (eqb-true p q (and_left (eqb p q) (eq_set s t) e)) (eq_set_eq s t (and_right (eqb p q) (eq_set s t) e))

-- what passes the test stands there
pub elem_in : (t : List ℕ) (F : Family) → elem t F ≡ true → t ∈ F
unfolding elem
elem_in t [] e = absurd (never e refl)
elem_in t (u ∷ F) e =
    ⊎_elim (λ (x : eq_set t u ≡ true). Memᴰ.head (eq_set_eq t u x)) (λ (x : elem t F ≡ true). Memᴰ.tail (elem_in t F x)) (or_cases (eq_set t u) (elem t F) e)

pub in_elem : (t : List ℕ) (F : Family) → t ∈ F → elem t F ≡ true
unfolding elem
in_elem t [] m = absurd (Memᴰ.not-nil m)
in_elem t (u ∷ F) m =
    ⊎_elim (λ e. or_left (eq_set t u) (elem t F) (ap (eq_set t) (sym e) ∙ eq_set-same t)) (λ n. or_right (eq_set t u) (elem t F) (in_elem t F n)) (Memᴰ.cases_cons m)

-- the same for the labels of a list
pub has_in : (x : ℕ) (l : List ℕ) → has x l ≡ true → x ∈ l
unfolding has
has_in x [] e = absurd (never e refl)
has_in x (y ∷ l) e = ⊎_elim (λ (q : eqb x y ≡ true). Memᴰ.head (eqb-true x y q)) (λ (k : has x l ≡ true). Memᴰ.tail (has_in x l k)) (or_cases (eqb x y) (has x l) e)

pub in_has : (x : ℕ) (l : List ℕ) → x ∈ l → has x l ≡ true
unfolding has
in_has x [] m = absurd (Memᴰ.not-nil m)
in_has x (y ∷ l) m =
    ⊎_elim (λ e. or_left (eqb x y) (has x l) (eq-eqb x y e)) (λ n. or_right (eqb x y) (has x l) (in_has x l n)) (Memᴰ.cases_cons m)

-- the first set of a family is in it
pub elem-head : (t : List ℕ) (F : Family) → elem t (t ∷ F) ≡ true
unfolding elem
elem-head t F = or_left (eq_set t t) (elem t F) (eq_set-same t)

pub elem-append : (t : List ℕ) (F G : Family) → elem t (F ++ G) ≡ (elem t F || elem t G)
unfolding elem
elem-append t [] G = refl
elem-append t (u ∷ F) G = ap (λ (b : Bool). eq_set t u || b) (elem-append t F G) ∙ sym (or_assoc (eq_set t u) (elem t F) (elem t G))

-- the sets with p in front
pub elem-nil-map : (p : ℕ) (F : Family) → elem [] (map (λ (t : List ℕ). p ∷ t) F) ≡ false
unfolding elem
elem-nil-map p [] = refl
elem-nil-map p (u ∷ F) = elem-nil-map p F

pub elem-cons-map : (p q : ℕ) (t : List ℕ) (F : Family) → elem (q ∷ t) (map (λ (t : List ℕ). p ∷ t) F) ≡ (eqb q p && elem t F)
unfolding elem
elem-cons-map p q t [] = sym (and-false (eqb q p))
elem-cons-map p q t (u ∷ F) =
    ap (λ (b : Bool). (eqb q p && eq_set t u) || b) (elem-cons-map p q t F) ∙ sym (and-or_distrib_left (eqb q p) (eq_set t u) (elem t F))

-- what has p in front
pub front : (p : ℕ) (F : Family) (s : List ℕ) → elem s (map (λ (t : List ℕ). p ∷ t) F) ≡ true → (t : List ℕ) × (s ≡ p ∷ t) × (elem t F ≡ true)
front p F [] e = absurd (never e (elem-nil-map p F))
front p F (q ∷ t) e =
    let b : (eqb q p && elem t F) ≡ true = sym (elem-cons-map p q t F) ∙ e in
    (t, ap (λ (x : ℕ). x ∷ t) (eqb-true q p (and_left (eqb q p) (elem t F) b)), and_right (eqb q p) (elem t F) b)

pub elem-fork-nil : (p : ℕ) (F1 F0 : Family) → elem [] (fork p F1 F0) ≡ elem [] F0
elem-fork-nil p F1 F0 =
    elem-append [] (map (λ (t : List ℕ). p ∷ t) F1) F0 ∙ ap (λ (b : Bool). b || elem [] F0) (elem-nil-map p F1)

pub elem-fork-cons : (p q : ℕ) (t : List ℕ) (F1 F0 : Family) → elem (q ∷ t) (fork p F1 F0) ≡ ((eqb q p && elem t F1) || elem (q ∷ t) F0)
elem-fork-cons p q t F1 F0 =
    elem-append (q ∷ t) (map (λ (t : List ℕ). p ∷ t) F1) F0 ∙ ap (λ (b : Bool). b || elem (q ∷ t) F0) (elem-cons-map p q t F1)

-- a set that begins with q is in a fork: by its label, or by the second family
pub fork-cases : (p q : ℕ) (t : List ℕ) (F1 F0 : Family) → elem (q ∷ t) (fork p F1 F0) ≡ true
    → ((q ≡ p) × (elem t F1 ≡ true)) ⊎ (elem (q ∷ t) F0 ≡ true)
fork-cases p q t F1 F0 e = go (or_cases (eqb q p && elem t F1) (elem (q ∷ t) F0) (sym (elem-fork-cons p q t F1 F0) ∙ e))
  where
    go : ((eqb q p && elem t F1) ≡ true) ⊎ (elem (q ∷ t) F0 ≡ true) → ((q ≡ p) × (elem t F1 ≡ true)) ⊎ (elem (q ∷ t) F0 ≡ true)
    go (inl a) = inl (eqb-true q p (and_left (eqb q p) (elem t F1) a), and_right (eqb q p) (elem t F1) a)
    go (inr b) = inr b

-- a set of a fork is one of the first family with p in front, or one of the second
pub fork-of : (p : ℕ) (s : List ℕ) (F1 F0 : Family) → elem s (fork p F1 F0) ≡ true → ((t : List ℕ) × (s ≡ p ∷ t) × (elem t F1 ≡ true)) ⊎ (elem s F0 ≡ true)
fork-of p s F1 F0 e =
    let with-p : Family = map (λ (t : List ℕ). p ∷ t) F1 in
    ⊎_elim (λ a. inl (front p F1 s a)) (λ b. inr b) (or_cases (elem s with-p) (elem s F0) (sym (elem-append s with-p F0) ∙ e))

pub fork-hi : (p : ℕ) (t : List ℕ) (F1 F0 : Family) → elem t F1 ≡ true → elem (p ∷ t) (fork p F1 F0) ≡ true
fork-hi p t F1 F0 e = elem-fork-cons p p t F1 F0 ∙ or_left (eqb p p && elem t F1) (elem (p ∷ t) F0) (and_both (eqb p p) (elem t F1) (eqb_same p) e)

pub fork-lo : (p : ℕ) (t : List ℕ) (F1 F0 : Family) → elem t F0 ≡ true → elem t (fork p F1 F0) ≡ true
fork-lo p t F1 F0 e = elem-append t (map (λ (u : List ℕ). p ∷ u) F1) F0 ∙ or_right (elem t (map (λ (u : List ℕ). p ∷ u) F1)) (elem t F0) e

-- ---- where the sets of a family begin

-- no set of F begins with p
pub Avoids : ℕ → Family → Type 0
Avoids p F = (t : List ℕ) → elem (p ∷ t) F ≡ false

pub avoids_at : (p : ℕ) (F : Family) → Avoids p F → (t : List ℕ) → elem (p ∷ t) F ≡ false
unfolding Avoids
avoids_at p F a = a

-- then the first set does not, nor do the others
pub avoids_rest : (p : ℕ) (t : List ℕ) (F : Family) → Avoids p (t ∷ F) → Avoids p F
unfolding Avoids elem
avoids_rest p t F h u = (or_neither (eq_set (p ∷ u) t) (elem (p ∷ u) F) (h u)).1

pub avoids_first : (p q : ℕ) (t : List ℕ) (F : Family) → Avoids p ((q ∷ t) ∷ F) → eqb p q ≡ false
unfolding Avoids elem eq_set
avoids_first p q t F h =
    is_false (eqb p q) (λ e. never (or_left (eq_set (p ∷ t) (q ∷ t)) (elem (p ∷ t) F) (and_both (eqb p q) (eq_set t t) e (eq_set-same t))) (h t))

pub from_at : (K : List ℕ) (b : ℕ) (F : Family) → From K b F → (q : ℕ) (t : List ℕ) → elem (q ∷ t) F ≡ true → b ≤ key K q
unfolding From
from_at K b F f = f

pub from_of : (K : List ℕ) (b : ℕ) (F : Family) → ((q : ℕ) (t : List ℕ) → elem (q ∷ t) F ≡ true → b ≤ key K q) → From K b F
unfolding From
from_of K b F f = f

pub from_avoids : (K : List ℕ) (b p : ℕ) (F : Family) → From K b F → key K p < b → Avoids p F
unfolding From Avoids
from_avoids K b p F f h t = is_false (elem (p ∷ t) F) (λ e. let g : b ≤ key K p = f p t e in omega arith)

pub from_nil : (K : List ℕ) (b : ℕ) → From K b []
unfolding From elem
from_nil K b q t e = absurd (never e refl)

pub from_one : (K : List ℕ) (b : ℕ) → From K b ([] ∷ [])
unfolding From elem
from_one K b q t e = absurd (never e refl)

pub from_fork : (K : List ℕ) (b p : ℕ) (F1 F0 : Family) → b ≤ key K p → From K (suc (key K p)) F0 → From K b (fork p F1 F0)
unfolding From
from_fork K b p F1 F0 h f q t e = go (fork-cases p q t F1 F0 e)
  where
    go : ((q ≡ p) × (elem t F1 ≡ true)) ⊎ (elem (q ∷ t) F0 ≡ true) → b ≤ key K q
    go (inl a) = subst (λ (r : ℕ). b ≤ key K r) (sym a.0) h
    go (inr a) = let g : suc (key K p) ≤ key K q = f q t a in omega arith

-- the sets of a number's family begin no earlier than the number's label
pub family_from : {K : List ℕ} {ns : List Node} → Nodes K ns → (k : ℕ) → k < suc (suc (length ns)) → (b : ℕ) → Over K ns b k → From K b (family ns k)
family_from {K} {ns} n k h =
    family_ind ns (downward n) (λ k F. (b : ℕ) → Over K ns b k → From K b F)
    (λ b o. from_nil K b)
    (λ b o. from_one K b)
    (λ i w r l b o.
    from_fork K b (get_or ns i blank).label (family ns (get_or ns i blank).hi) (family ns (get_or ns i blank).lo) o
    (l (suc (key K (get_or ns i blank).label)) (n.each i w).lo_after))
    k h
