-- Laws of `branches` and `missing`. THEOREM: the branch families of a number of a sound table are families of numbers below it. Assumes nothing.
use mathlib.Core.Path.{◌≡◌, refl, sym, ap, ap₂, ◌∙◌, subst, subst⁻¹}
use mathlib.Core.Logic.{◌⊎◌, inl, inr, ⊎_elim}
use mathlib.Core.Bool.{Bool, true, false, cond, ◌||◌}
use mathlib.Core.List.Memᴰ
use mathlib.Core.List.{List, [], ◌∷◌, ◌++◌}
use Prim.Native.Nat.{ℕ, zero, suc, ◌+◌, ◌≤◌, ◌<◌, zero-le, suc-le-suc}
use native.Mathlib.Nat.{le_refl, not-suc-le-zero}
use native.Mathlib.Omega.{arith}
use lib.Dec.{eqb}
use lib.ListN.{length, get_or}
use Rattle.base.proofs.Bools.{never, and_left, and_right, and_both, or_cases, or_left, or_right, eqb_same}
use Rattle.base.proofs.Lists.{nth_member, member_nth}
use Rattle.zdd.specs.Table.{Node, blank, Family, fork, families, family, eq_set, Nodes, ◌∈◌}
use Rattle.zdd.proofs.Member.{Avoids, avoids_rest, avoids_first, eq_set-same, eq_set_eq}
use Rattle.zdd.proofs.Grow.{length-families, family_ind, downward}
use Rattle.zdd.proofs.Canon.{hi-family-some, lo-family_avoids, family-parts}
use Rattle.zdd.specs.Below.{Below, itself, by_lo, by_hi}
use Rattle.zdd.specs.Branches.{starting, others, weight, branches_to, branches, eq_family, amongb, fresh, missing}

-- nothing stands twice
abbrev pub Distinct : {A : Type 0} → List A → Type 0
Distinct [] = Unit {0}
Distinct (x ∷ xs) = (x ∈ xs → ⊥) × Distinct xs

pub distinct_append : {A : Type 0} (xs ys : List A) → Distinct xs → Distinct ys → ((a : A) → a ∈ xs → a ∈ ys → ⊥) → Distinct (xs ++ ys)
distinct_append [] ys d e f = e
distinct_append (x ∷ xs) ys d e f = (
  λ m. ⊎_elim d.0 (f x (Memᴰ.head refl)) (Memᴰ.append_cases xs m),
  distinct_append xs ys d.1 e (λ a m. f a (Memᴰ.tail m)),
)

-- ---- the tests are exact

family-same : (F : Family) → eq_family F F ≡ true
unfolding eq_family
family-same [] = refl
family-same (t ∷ F) = and_both (eq_set t t) (eq_family F F) (eq_set-same t) (family-same F)

family_eq : (F G : Family) → eq_family F G ≡ true → F ≡ G
unfolding eq_family
family_eq [] [] e = refl
family_eq [] (u ∷ G) e = absurd (never e refl)
family_eq (t ∷ F) [] e = absurd (never e refl)
family_eq (t ∷ F) (u ∷ G) e =
    ap₂ (λ (x : List ℕ) (xs : Family). x ∷ xs) (eq_set_eq t u (and_left (eq_set t u) (eq_family F G) e)) (family_eq F G (and_right (eq_set t u) (eq_family F G) e))

among_of : (F : Family) (l : List Family) → amongb F l ≡ true → F ∈ l
unfolding amongb
among_of F [] e = absurd (never e refl)
among_of F (G ∷ l) e = go (or_cases (eq_family F G) (amongb F l) e) (among_of F l)
  where
    go : (eq_family F G ≡ true) ⊎ (amongb F l ≡ true) → (amongb F l ≡ true → F ∈ l) → F ∈ (G ∷ l)
    go (inl q) ih = Memᴰ.head (family_eq F G q)
    go (inr q) ih = Memᴰ.tail (ih q)

among_test : (F : Family) (l : List Family) → F ∈ l → amongb F l ≡ true
unfolding amongb
among_test F [] m = absurd (Memᴰ.not-nil m)
among_test F (G ∷ l) m = go (Memᴰ.cases_cons m) (among_test F l)
  where
    go : (F ≡ G) ⊎ (F ∈ l) → (F ∈ l → amongb F l ≡ true) → (eq_family F G || amongb F l) ≡ true
    go (inl q) ih = or_left (eq_family F G) (amongb F l) (subst (λ (H : Family). eq_family F H ≡ true) q (family-same F))
    go (inr q) ih = or_right (eq_family F G) (amongb F l) (ih q)

-- ---- the pigeonhole: a list without repeats is no longer than one that has all of its elements

drop_one : {A : Type 0} {a : A} {l : List A} → a ∈ l → List A
drop_one (Memᴰ.head {xs = xs} e) = xs
drop_one (Memᴰ.tail {x = x} m) = x ∷ drop_one m

drop-length : {A : Type 0} {a : A} {l : List A} (m : a ∈ l) → suc (length (drop_one m)) ≡ length l
unfolding drop_one
drop-length (Memᴰ.head e) = refl
drop-length (Memᴰ.tail m) = ap suc (drop-length m)

drop_keeps : {A : Type 0} {a : A} {l : List A} (m : a ∈ l) (b : A) → b ∈ l → (b ≡ a → ⊥) → b ∈ drop_one m
unfolding drop_one
drop_keeps (Memᴰ.head e) b n d = ⊎_elim (λ q. absurd (d (q ∙ sym e))) (λ k. k) (Memᴰ.cases_cons n)
drop_keeps (Memᴰ.tail {x = x} {xs = xs} m) b n d =
    ⊎_elim (λ q. Memᴰ.head q) (λ k. Memᴰ.tail (drop_keeps m b k d)) (Memᴰ.cases_cons n)

pub pigeonhole : {A : Type 0} (xs ys : List A) → Distinct xs → ((a : A) → a ∈ xs → a ∈ ys) → length xs ≤ length ys
pigeonhole [] ys d s = zero-le
pigeonhole (x ∷ xs) ys d s =
    let m : x ∈ ys = s x (Memᴰ.head refl) in
    subst (λ (n : ℕ). suc (length xs) ≤ n) (drop-length m)
    (suc-le-suc (pigeonhole xs (drop_one m) d.1 (λ F k. drop_keeps m F (s F (Memᴰ.tail k)) (λ e. d.0 (Memᴰ.cast (sym e) k)))))

-- ---- `fresh`: those of the list that are not known, each once

pub fresh_sound : (l known : List Family) (F : Family) → F ∈ fresh known l → (F ∈ l) × (F ∈ known → ⊥)
unfolding fresh
fresh_sound [] known F m = absurd (Memᴰ.not-nil m)
fresh_sound (x ∷ xs) known F m = go (amongb x known) refl (fresh_sound xs known F) (fresh_sound xs (x ∷ known) F) m
  where
    new : amongb x known ≡ false → (F ∈ fresh (x ∷ known) xs → (F ∈ xs) × (F ∈ x ∷ known → ⊥))
        → (F ≡ x) ⊎ (F ∈ fresh (x ∷ known) xs) → (F ∈ x ∷ xs) × (F ∈ known → ⊥)
    new e ih (inl p) = (Memᴰ.head p, λ k. never (among_test x known (Memᴰ.cast (sym p) k)) e)
    new e ih (inr n) = (Memᴰ.tail (ih n).0, λ k. (ih n).1 (Memᴰ.tail k))

    go : (b : Bool) → amongb x known ≡ b → (F ∈ fresh known xs → (F ∈ xs) × (F ∈ known → ⊥))
        → (F ∈ fresh (x ∷ known) xs → (F ∈ xs) × (F ∈ x ∷ known → ⊥))
        → F ∈ cond b (fresh known xs) (x ∷ fresh (x ∷ known) xs) → (F ∈ x ∷ xs) × (F ∈ known → ⊥)
    go true e ih jh n = (Memᴰ.tail (ih n).0, (ih n).1)
    go false e ih jh n = new e jh (Memᴰ.cases_cons n)

pub fresh-all : (l known : List Family) (F : Family) → F ∈ l → (F ∈ known) ⊎ (F ∈ fresh known l)
unfolding fresh
fresh-all [] known F m = absurd (Memᴰ.not-nil m)
fresh-all (x ∷ xs) known F m = go (amongb x known) refl (fresh-all xs known F) (fresh-all xs (x ∷ known) F) (Memᴰ.cases_cons m)
  where
    new : (F ∈ x ∷ known) ⊎ (F ∈ fresh (x ∷ known) xs) → (F ∈ known) ⊎ (F ∈ x ∷ fresh (x ∷ known) xs)
    new (inl k) = ⊎_elim (λ p. inr (Memᴰ.head p)) (λ n. inl n) (Memᴰ.cases_cons k)
    new (inr n) = inr (Memᴰ.tail n)

    go : (b : Bool) → amongb x known ≡ b → (F ∈ xs → (F ∈ known) ⊎ (F ∈ fresh known xs))
        → (F ∈ xs → (F ∈ x ∷ known) ⊎ (F ∈ fresh (x ∷ known) xs))
        → (F ≡ x) ⊎ (F ∈ xs) → (F ∈ known) ⊎ (F ∈ cond b (fresh known xs) (x ∷ fresh (x ∷ known) xs))
    go true e ih jh (inl p) = inl (Memᴰ.cast p (among_of x known e))
    go true e ih jh (inr n) = ih n
    go false e ih jh (inl p) = inr (Memᴰ.head p)
    go false e ih jh (inr n) = new (jh n)

pub fresh_distinct : (l known : List Family) → Distinct (fresh known l)
unfolding fresh
fresh_distinct [] known = tt
fresh_distinct (x ∷ xs) known = go (amongb x known) (fresh_distinct xs known) (fresh_distinct xs (x ∷ known))
  where
    go : (b : Bool) → Distinct (fresh known xs) → Distinct (fresh (x ∷ known) xs) → Distinct (cond b (fresh known xs) (x ∷ fresh (x ∷ known) xs))
    go true ih jh = ih
    go false ih jh = (λ m. (fresh_sound xs (x ∷ known) x m).1 (Memᴰ.head refl), jh)

-- ---- the counts: `new` are different families, unknown to the table, and branch families of F

module _ (ns : List Node) (new : List Family) (F : Family) (distinct : Distinct new)
    (unknown : (G : Family) → G ∈ new → G ∈ families ns → ⊥) (below : (G : Family) → G ∈ new → G ∈ branches F) where
  into : (G : Family) → G ∈ new → G ∈ fresh (families ns) (branches F)
  into G m = ⊎_elim (λ k. absurd (unknown G m k)) (λ n. n) (fresh-all (branches F) (families ns) G (below G m))

  -- they are no more than are missing
  pub at_most : length new ≤ missing ns F
  unfolding missing
  at_most = pigeonhole new (fresh (families ns) (branches F)) distinct into

  -- fewer, where one more is neither known nor among them
  pub fewer : (G : Family) → G ∈ branches F → (G ∈ families ns → ⊥) → (G ∈ new → ⊥) → length new < missing ns F
  unfolding missing
  fewer G m k n =
      pigeonhole (G ∷ new) (fresh (families ns) (branches F)) (n, distinct) (λ H h.
      ⊎_elim (λ e. ⊎_elim (λ q. absurd (k (Memᴰ.cast (sym e) q))) (λ r. r) (fresh-all (branches F) (families ns) H (Memᴰ.cast e m))) (into H) (Memᴰ.cases_cons h))

-- ---- `branches`: the depth is enough

weight-starting : (p : ℕ) (F : Family) → weight (starting p F) ≤ weight F
unfolding weight starting
weight-starting p [] = le_refl 0
weight-starting p ([] ∷ F) = let h = weight-starting p F in omega arith
weight-starting p ((q ∷ s) ∷ F) = go (eqb p q) (weight-starting p F)
  where
    go : (b : Bool) → weight (starting p F) ≤ weight F → weight (cond b (s ∷ starting p F) (starting p F)) ≤ weight ((q ∷ s) ∷ F)
    go true h = omega arith
    go false h = omega arith

weight-others : (p : ℕ) (F : Family) → weight (others p F) ≤ weight F
unfolding weight others
weight-others p [] = le_refl 0
weight-others p ([] ∷ F) = let h = weight-others p F in omega arith
weight-others p ((q ∷ s) ∷ F) = go (eqb p q) (weight-others p F)
  where
    go : (b : Bool) → weight (others p F) ≤ weight F → weight (cond b (others p F) ((q ∷ s) ∷ others p F)) ≤ weight ((q ∷ s) ∷ F)
    go true h = omega arith
    go false h = omega arith

starting-first : (p : ℕ) (s : List ℕ) (F : Family) → starting p ((p ∷ s) ∷ F) ≡ s ∷ starting p F
unfolding starting
starting-first p s F = ap (λ (b : Bool). cond b (s ∷ starting p F) (starting p F)) (eqb_same p)

others-first : (p : ℕ) (s : List ℕ) (F : Family) → others p ((p ∷ s) ∷ F) ≡ others p F
unfolding others
others-first p s F = ap (λ (b : Bool). cond b (others p F) ((p ∷ s) ∷ others p F)) (eqb_same p)

pub weight-hi : (p : ℕ) (s : List ℕ) (F : Family) → weight (starting p ((p ∷ s) ∷ F)) < weight ((p ∷ s) ∷ F)
unfolding weight
weight-hi p s F = subst⁻¹ (λ (G : Family). weight G < weight ((p ∷ s) ∷ F)) (starting-first p s F) (let h = weight-starting p F in omega arith)

pub weight-lo : (p : ℕ) (s : List ℕ) (F : Family) → weight (others p ((p ∷ s) ∷ F)) < weight ((p ∷ s) ∷ F)
unfolding weight
weight-lo p s F = subst⁻¹ (λ (G : Family). weight G < weight ((p ∷ s) ∷ F)) (others-first p s F) (let h = weight-others p F in omega arith)

to-nil : (n : ℕ) → branches_to n [] ≡ []
unfolding branches_to
to-nil zero = refl
to-nil (suc n) = refl

enough : (n m : ℕ) (F : Family) → weight F ≤ n → weight F ≤ m → branches_to n F ≡ branches_to m F
unfolding branches_to weight
enough zero m [] h k = sym (to-nil m)
enough zero m (s ∷ F) h k = absurd (not-suc-le-zero h)
enough (suc n) m [] h k = sym (to-nil m)
enough (suc n) zero (s ∷ F) h k = absurd (not-suc-le-zero k)
enough (suc n) (suc m) ([] ∷ F) h k = refl
enough (suc n) (suc m) ((p ∷ s) ∷ F) h k =
    let a = weight-hi p s F in
    let b = weight-lo p s F in
    ap₂ (λ (x y : List Family). ((p ∷ s) ∷ F) ∷ (x ++ y))
    (enough n m (starting p ((p ∷ s) ∷ F)) (omega arith) (omega arith))
    (enough n m (others p ((p ∷ s) ∷ F)) (omega arith) (omega arith))

-- a family, then those of hi and those of lo
pub branches-cons : (p : ℕ) (s : List ℕ) (F : Family)
    → branches ((p ∷ s) ∷ F) ≡ ((p ∷ s) ∷ F) ∷ (branches (starting p ((p ∷ s) ∷ F)) ++ branches (others p ((p ∷ s) ∷ F)))
unfolding branches branches_to weight
branches-cons p s F =
    let a = weight-hi p s F in
    let b = weight-lo p s F in
    ap₂ (λ (x y : List Family). ((p ∷ s) ∷ F) ∷ (x ++ y))
    (enough (length (p ∷ s) + weight F) (weight (starting p ((p ∷ s) ∷ F))) (starting p ((p ∷ s) ∷ F)) (omega arith) (le_refl _))
    (enough (length (p ∷ s) + weight F) (weight (others p ((p ∷ s) ∷ F))) (others p ((p ∷ s) ∷ F)) (omega arith) (le_refl _))

-- ---- a node's branch families are its own and those of its children

starting-none : (p : ℕ) (F : Family) → Avoids p F → starting p F ≡ []
unfolding starting
starting-none p [] h = refl
starting-none p ([] ∷ F) h = starting-none p F (avoids_rest p [] F h)
starting-none p ((q ∷ t) ∷ F) h =
    ap (λ (b : Bool). cond b (t ∷ starting p F) (starting p F)) (avoids_first p q t F h) ∙ starting-none p F (avoids_rest p (q ∷ t) F h)

others-all : (p : ℕ) (F : Family) → Avoids p F → others p F ≡ F
unfolding others
others-all p [] h = refl
others-all p ([] ∷ F) h = ap (λ (G : Family). [] ∷ G) (others-all p F (avoids_rest p [] F h))
others-all p ((q ∷ t) ∷ F) h =
    ap (λ (b : Bool). cond b (others p F) ((q ∷ t) ∷ others p F)) (avoids_first p q t F h)
    ∙ ap (λ (G : Family). (q ∷ t) ∷ G) (others-all p F (avoids_rest p (q ∷ t) F h))

starting-fork : (p : ℕ) (F1 F0 : Family) → Avoids p F0 → starting p (fork p F1 F0) ≡ F1
starting-fork p [] F0 a = starting-none p F0 a
starting-fork p (s ∷ F1) F0 a = starting-first p s (fork p F1 F0) ∙ ap (λ (G : Family). s ∷ G) (starting-fork p F1 F0 a)

others-fork : (p : ℕ) (F1 F0 : Family) → Avoids p F0 → others p (fork p F1 F0) ≡ F0
others-fork p [] F0 a = others-all p F0 a
others-fork p (s ∷ F1) F0 a = others-first p s (fork p F1 F0) ∙ others-fork p F1 F0 a

pub branches-fork : (p : ℕ) (F1 F0 : Family) → (F1 ≡ [] → ⊥) → Avoids p F0 → branches (fork p F1 F0) ≡ fork p F1 F0 ∷ (branches F1 ++ branches F0)
branches-fork p [] F0 n a = absurd (n refl)
branches-fork p (s ∷ F1) F0 n a =
    branches-cons p s (fork p F1 F0)
    ∙ ap₂ (λ (G H : Family). ((p ∷ s) ∷ fork p F1 F0) ∷ (branches G ++ branches H)) (starting-fork p (s ∷ F1) F0 a) (others-fork p (s ∷ F1) F0 a)

pub branches-nil : branches [] ≡ []
unfolding branches branches_to weight
branches-nil = refl

pub branches_one : branches ([] ∷ []) ≡ []
unfolding branches branches_to weight
branches_one = refl

-- THEOREM: each branch family of a number of a sound table is the family of a number below it
pub branch_below : {K : List ℕ} {ns : List Node} → Nodes K ns → (k : ℕ) → k < suc (suc (length ns)) → (G : Family) → G ∈ branches (family ns k)
    → (j : ℕ) × (j < suc (suc (length ns))) × (G ≡ family ns j) × Below ns k j
branch_below {K} {ns} n k h =
    family_ind ns (downward n) (λ k F. (G : Family) → G ∈ branches F → (j : ℕ) × (j < suc (suc (length ns))) × (G ≡ family ns j) × Below ns k j)
    (λ G m. absurd (Memᴰ.not-nil (subst (λ (l : List Family). G ∈ l) branches-nil m)))
    (λ G m. absurd (Memᴰ.not-nil (subst (λ (l : List Family). G ∈ l) branches_one m)))
    (λ i w r l G m.
    let x : Node = get_or ns i blank in
    ⊎_elim
    (λ e. (suc (suc i), omega arith, e ∙ sym (family-parts n i w), itself))
    (λ c. ⊎_elim
    (λ y. let j = r G y in (j.0, j.1, j.2, by_hi i w j.3))
    (λ y. let j = l G y in (j.0, j.1, j.2, by_lo i w j.3))
    (Memᴰ.append_cases (branches (family ns x.hi)) c))
    (Memᴰ.cases_cons (subst (λ (q : List Family). G ∈ q)
    (branches-fork x.label (family ns x.hi) (family ns x.lo) (hi-family-some n i w) (lo-family_avoids n i w)) m)))
    k h

-- ---- the families of a table are those of its numbers

pub number_in : (ns : List Node) (k : ℕ) → k < suc (suc (length ns)) → family ns k ∈ families ns
unfolding family families
number_in ns k h = nth_member (families ns) k [] (omega (arith, length-families ns))

pub number_of : (ns : List Node) (G : Family) → G ∈ families ns → (k : ℕ) × (k < suc (suc (length ns))) × (G ≡ family ns k)
unfolding family
number_of ns G m = let r = member_nth (families ns) [] G m in (r.0, omega (arith, r.1, length-families ns), r.2)
