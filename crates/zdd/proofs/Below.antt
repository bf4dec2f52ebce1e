-- Laws of `Below`. THEOREM: the numbers below a number that an earlier table did not have are as many as were missing for its family. Assumes nothing.
use mathlib.Core.Path.{◌≡◌, refl, sym, ap, ◌∙◌, subst⁻¹}
use mathlib.Core.Logic.{◌⊎◌, inl, inr, ⊎_elim, ◌↔◌}
use mathlib.Core.Bool.{Bool, true, false, cond, ◌||◌}
use mathlib.Core.List.Memᴰ
use mathlib.Core.List.{List, [], ◌∷◌, ◌++◌, map}
use Prim.Native.Nat.{ℕ, zero, suc, ◌+◌, ◌-◌, ◌≤◌, ◌<◌}
use native.Mathlib.Nat.{le_refl, le_antisymm, not-suc-le-zero, eq-or-lt_of_le}
use native.Mathlib.Omega.{arith}
use lib.Dec.{eqb}
use lib.ListN.{length, get_or, length-append, length-map, get_or-append}
use borrow.Author.Tests.{eqb-true}
use Rattle.base.proofs.Bools.{never, or_cases, or_left, or_right, eqb_same}
use Rattle.zdd.specs.Table.{Node, blank, Family, families, family, filter, Nodes, ◌∈◌}
use Rattle.zdd.specs.Branches.{branches, fresh, missing}
use Rattle.zdd.specs.Below.{Below, itself, by_lo, by_hi, below_to, below_test, numbers_from, new_numbers, new_below}
use Rattle.zdd.proofs.Grow.{family-append, length-families}
use Rattle.zdd.proofs.Canon.{hi-family-some, lo-family_avoids, family-parts, canonical}
use Rattle.zdd.proofs.Counting.{Distinct, distinct_append, pigeonhole, fresh_sound, fresh_distinct, at_most, branch_below, number_in, number_of}
use Rattle.zdd.proofs.Under.{fork_branch, under_hi, under_lo}

-- nodes appended change nothing below an old number
pub below-append : {ns : List Node} (ms : List Node) {a k : ℕ} → Below ns a k → Below (ns ++ ms) a k
below-append ms itself = itself
below-append {ns} ms {k = k} (by_lo i w b) =
    by_lo i (omega (arith, length-append ns ms))
    (subst⁻¹ (λ (x : Node). Below (ns ++ ms) x.lo k) (get_or-append ns ms blank i w) (below-append ms b))
below-append {ns} ms {k = k} (by_hi i w b) =
    by_hi i (omega (arith, length-append ns ms))
    (subst⁻¹ (λ (x : Node). Below (ns ++ ms) x.hi k) (get_or-append ns ms blank i w) (below-append ms b))

-- what is below a number below a is below a
pub below_trans : {ns : List Node} {a b k : ℕ} → Below ns a b → Below ns b k → Below ns a k
below_trans itself c = c
below_trans (by_lo i w b) c = by_lo i w (below_trans b c)
below_trans (by_hi i w b) c = by_hi i w (below_trans b c)

module _ {K : List ℕ} {ns : List Node} (n : Nodes K ns) where
  -- what is below a number of a sound table is a number of it
  pub below-known : {a k : ℕ} → Below ns a k → a < suc (suc (length ns)) → k < suc (suc (length ns))
  below-known itself h = h
  below-known (by_lo i w b) h = below-known b (omega (arith, (n.each i w).lo-below))
  below-known (by_hi i w b) h = below-known b (omega (arith, (n.each i w).hi-below))

  -- and no greater one
  pub below_le : {a k : ℕ} → Below ns a k → k ≤ a
  below_le {a} itself = le_refl a
  below_le (by_lo i w b) = omega (arith, below_le b, (n.each i w).lo-below)
  below_le (by_hi i w b) = omega (arith, below_le b, (n.each i w).hi-below)

  -- ---- the test is exact

  same : (a k : ℕ) → eqb k a ≡ true → Below ns a k
  same a k e = subst⁻¹ (Below ns a) (eqb-true k a e) itself

  by_test : (d a k : ℕ) → a < suc (suc (length ns)) → below_to d ns a k ≡ true → Below ns a k
  unfolding below_to
  by_test zero a k h e = same a k e
  by_test (suc d) zero k h e = same 0 k e
  by_test (suc d) (suc zero) k h e = same 1 k e
  by_test (suc d) (suc (suc i)) k h e =
      let x : Node = get_or ns i blank in
      let w : i < length ns = omega arith in
      ⊎_elim (same (suc (suc i)) k)
      (λ q. ⊎_elim
      (λ l. by_lo i w (by_test d x.lo k (omega (arith, (n.each i w).lo-below)) l))
      (λ r. by_hi i w (by_test d x.hi k (omega (arith, (n.each i w).hi-below)) r))
      (or_cases (below_to d ns x.lo k) (below_to d ns x.hi k) q))
      (or_cases (eqb k (suc (suc i))) (below_to d ns x.lo k || below_to d ns x.hi k) e)

  own_test : (d a : ℕ) → below_to d ns a a ≡ true
  unfolding below_to
  own_test zero a = eqb_same a
  own_test (suc d) zero = eqb_same 0
  own_test (suc d) (suc zero) = eqb_same 1
  own_test (suc d) (suc (suc i)) = or_left (eqb (suc (suc i)) (suc (suc i))) _ (eqb_same (suc (suc i)))

  tested : (d : ℕ) {a k : ℕ} → Below ns a k → a ≤ d → below_to d ns a k ≡ true
  unfolding below_to
  tested d {a} itself h = own_test d a
  tested zero (by_lo i w b) h = absurd (not-suc-le-zero h)
  tested zero (by_hi i w b) h = absurd (not-suc-le-zero h)
  tested (suc d) {k = k} (by_lo i w b) h =
      or_right (eqb k (suc (suc i))) _ (or_left _ (below_to d ns (get_or ns i blank).hi k) (tested d b (omega (arith, (n.each i w).lo-below))))
  tested (suc d) {k = k} (by_hi i w b) h =
      or_right (eqb k (suc (suc i))) _ (or_right (below_to d ns (get_or ns i blank).lo k) _ (tested d b (omega (arith, (n.each i w).hi-below))))

  -- THEOREM: of a number of a sound table the test tells what is below it
  pub below_test_lem : (a k : ℕ) → a < suc (suc (length ns)) → (below_test ns a k ≡ true) ↔ Below ns a k
  unfolding below_test
  below_test_lem a k h = (λ e. by_test a a k h e, λ b. tested a b (omega arith))

  -- ---- THEOREM: the family of a branch node below a number is a branch family of that number's

  own_branch : (k : ℕ) → 2 ≤ k → k < suc (suc (length ns)) → family ns k ∈ branches (family ns k)
  own_branch zero l h = absurd (omega arith)
  own_branch (suc zero) l h = absurd (omega arith)
  own_branch (suc (suc i)) l h =
      let w : i < length ns = omega arith in
      rw (family-parts n i w) (fork_branch _ _ _ (hi-family-some n i w) (lo-family_avoids n i w))

  pub below_branch : {a k : ℕ} → Below ns a k → 2 ≤ k → a < suc (suc (length ns)) → family ns k ∈ branches (family ns a)
  below_branch {k = k} itself l h = own_branch k l h
  below_branch (by_lo i w b) l h =
      rw (family-parts n i w)
      ((under_lo _ (family ns (get_or ns i blank).hi) _ (lo-family_avoids n i w)).each _ (below_branch b l (omega (arith, (n.each i w).lo-below))))
  below_branch (by_hi i w b) l h =
      rw (family-parts n i w)
      ((under_hi _ (family ns (get_or ns i blank).hi) _ (lo-family_avoids n i w)).each _ (below_branch b l (omega (arith, (n.each i w).hi-below))))

-- ---- lists

pub in_filter : {A : Type 0} (P : A → Bool) (l : List A) {a : A} → a ∈ filter P l → (a ∈ l) × (P a ≡ true)
unfolding filter
in_filter P [] m = absurd (Memᴰ.not-nil m)
in_filter {A} P (x ∷ l) {a} m = go (P x) refl (in_filter P l) m
  where
    go : (b : Bool) → P x ≡ b → (a ∈ filter P l → (a ∈ l) × (P a ≡ true)) → a ∈ cond b (x ∷ filter P l) (filter P l) → (a ∈ x ∷ l) × (P a ≡ true)
    go true e ih m = ⊎_elim (λ q. (Memᴰ.head q, ap P q ∙ e)) (λ k. let r = ih k in (Memᴰ.tail r.0, r.1)) (Memᴰ.cases_cons m)
    go false e ih m = let r = ih m in (Memᴰ.tail r.0, r.1)

pub filter_in : {A : Type 0} (P : A → Bool) (l : List A) {a : A} → a ∈ l → P a ≡ true → a ∈ filter P l
unfolding filter
filter_in P [] m e = absurd (Memᴰ.not-nil m)
filter_in {A} P (x ∷ l) {a} m e = go (P x) refl (λ k. filter_in P l k e) (Memᴰ.cases_cons m)
  where
    go : (b : Bool) → P x ≡ b → (a ∈ l → a ∈ filter P l) → (a ≡ x) ⊎ (a ∈ l) → a ∈ cond b (x ∷ filter P l) (filter P l)
    go true q ih (inl s) = Memᴰ.head s
    go true q ih (inr k) = Memᴰ.tail (ih k)
    go false q ih (inl s) = absurd (never (sym (ap P s) ∙ e) q)
    go false q ih (inr k) = ih k

filter_distinct : {A : Type 0} (P : A → Bool) (l : List A) → Distinct l → Distinct (filter P l)
unfolding filter
filter_distinct P [] d = tt
filter_distinct {A} P (x ∷ l) d = go (P x) (filter_distinct P l d.1)
  where
    go : (b : Bool) → Distinct (filter P l) → Distinct (cond b (x ∷ filter P l) (filter P l))
    go true ih = (λ m. d.0 (in_filter P l m).0, ih)
    go false ih = ih

filter-short : {A : Type 0} (P : A → Bool) (l : List A) → length (filter P l) ≤ length l
unfolding filter
filter-short P [] = omega arith
filter-short {A} P (x ∷ l) = go (P x) (filter-short P l)
  where
    go : (b : Bool) → length (filter P l) ≤ length l → length (cond b (x ∷ filter P l) (filter P l)) ≤ suc (length l)
    go true ih = omega arith
    go false ih = omega arith

-- where none is left out, each passes
filter-all : {A : Type 0} (P : A → Bool) (l : List A) → length (filter P l) ≡ length l → {a : A} → a ∈ l → P a ≡ true
unfolding filter
filter-all P [] e m = absurd (Memᴰ.not-nil m)
filter-all {A} P (x ∷ l) e {a} m = go (P x) refl e (λ q k. filter-all P l q k) (Memᴰ.cases_cons m)
  where
    go : (b : Bool) → P x ≡ b → length (cond b (x ∷ filter P l) (filter P l)) ≡ suc (length l)
        → (length (filter P l) ≡ length l → a ∈ l → P a ≡ true) → (a ≡ x) ⊎ (a ∈ l) → P a ≡ true
    go true q e ih (inl s) = ap P s ∙ q
    go true q e ih (inr k) = ih (omega arith) k
    go false q e ih c = absurd (omega (arith, filter-short P l))

pub distinct_map : {A B : Type 0} (f : A → B) (l : List A) → Distinct l → ((a b : A) → a ∈ l → b ∈ l → f a ≡ f b → a ≡ b) → Distinct (map f l)
distinct_map f [] d h = tt
distinct_map f (x ∷ l) d h = (
  λ m. let r = Memᴰ.of_map f l m in d.0 (Memᴰ.cast (h x r.0 (Memᴰ.head refl) (Memᴰ.tail r.1) (sym r.2)) r.1),
  distinct_map f l d.1 (λ a b i j e. h a b (Memᴰ.tail i) (Memᴰ.tail j) e),
)

in_numbers : (n c : ℕ) {k : ℕ} → k ∈ numbers_from n c → (n ≤ k) × (k < n + c)
unfolding numbers_from
in_numbers n zero m = absurd (Memᴰ.not-nil m)
in_numbers n (suc c) m = ⊎_elim (λ e. (omega arith, omega arith)) (λ k. let r = in_numbers (suc n) c k in (omega arith, omega arith)) (Memᴰ.cases_cons m)

numbers_in : (n c : ℕ) {k : ℕ} → n ≤ k → k < n + c → k ∈ numbers_from n c
unfolding numbers_from
numbers_in n zero a b = absurd (omega arith)
numbers_in n (suc c) a b = ⊎_elim (λ e. Memᴰ.head (sym e)) (λ l. Memᴰ.tail (numbers_in (suc n) c l (omega arith))) (eq-or-lt_of_le a)

numbers_distinct : (n c : ℕ) → Distinct (numbers_from n c)
unfolding numbers_from
numbers_distinct n zero = tt
numbers_distinct n (suc c) = (λ m. let r = in_numbers (suc n) c m in omega (arith, r.0), numbers_distinct (suc n) c)

length-numbers : (n c : ℕ) → length (numbers_from n c) ≡ c
unfolding numbers_from
length-numbers n zero = refl
length-numbers n (suc c) = ap suc (length-numbers (suc n) c)

-- ---- the new numbers, where an earlier table had m nodes

module _ (m : ℕ) (ns : List Node) where
  in_new : {k : ℕ} → k ∈ new_numbers m ns → m + 2 ≤ k
  unfolding new_numbers
  in_new i = (in_numbers (m + 2) (length ns - m) i).0

  new_in : {k : ℕ} → m + 2 ≤ k → k < suc (suc (length ns)) → k ∈ new_numbers m ns
  unfolding new_numbers
  new_in l h = numbers_in (m + 2) (length ns - m) l (omega arith)

  length_new : length (new_numbers m ns) ≡ length ns - m
  unfolding new_numbers
  length_new = length-numbers (m + 2) (length ns - m)

  -- those below a are no more
  pub new_short : (a : ℕ) → length (new_below m ns a) ≤ length ns - m
  unfolding new_below
  new_short a = omega (arith, filter-short (below_test ns a) (new_numbers m ns), length_new)

  new_distinct : (a : ℕ) → Distinct (new_below m ns a)
  unfolding new_below new_numbers
  new_distinct a = filter_distinct (below_test ns a) (new_numbers m ns) (numbers_distinct (m + 2) (length ns - m))

module _ {K : List ℕ} {ns : List Node} (n : Nodes K ns) (m a : ℕ) (h : a < suc (suc (length ns))) where
  -- THEOREM: those below a are the numbers that the earlier table did not have and that are below a
  pub new_means : (k : ℕ) → (k ∈ new_below m ns a) ↔ ((m + 2 ≤ k) × Below ns a k)
  unfolding new_below
  new_means k = (
    λ i. let r = in_filter (below_test ns a) (new_numbers m ns) i in (in_new m ns r.0, (below_test_lem n a k h).0 r.1),
    λ p. filter_in (below_test ns a) (new_numbers m ns) (new_in m ns p.0 (below-known n p.1 h)) ((below_test_lem n a k h).1 p.1),
  )

  -- THEOREM: where they are as many as there are new numbers, each new number is below a
  pub new_all : length (new_below m ns a) ≡ length ns - m → (k : ℕ) → m + 2 ≤ k → k < suc (suc (length ns)) → Below ns a k
  unfolding new_below
  new_all e k l b = (below_test_lem n a k h).0 (filter-all (below_test ns a) (new_numbers m ns) (e ∙ sym (length_new m ns)) (new_in m ns l b))

-- ---- nodes ms behind the nodes ns of a sound table that then has the number a

module _ {K : List ℕ} (ns ms : List Node) (n : Nodes K (ns ++ ms)) (a : ℕ) (h : a < suc (suc (length (ns ++ ms)))) where
  news : List ℕ
  news = new_below (length ns) (ns ++ ms) a

  known : (k : ℕ) → k ∈ news → k < suc (suc (length (ns ++ ms)))
  unfolding news
  known k i = below-known n ((new_means n (length ns) a h k).0 i).1 h

  -- an old number's family is that of no new one
  apart : (k : ℕ) → k ∈ news → family (ns ++ ms) k ∈ families ns → ⊥
  unfolding news
  apart k i c =
      let j = number_of ns (family (ns ++ ms) k) c in
      let e : k ≡ j.0 =
      canonical n k j.0 (known k i) (omega (arith, j.1, length-append ns ms)) (j.2 ∙ sym (family-append ns ms j.0 j.1)) in
      omega (arith, ((new_means n (length ns) a h k).0 i).0, j.1)

  most : length (map (family (ns ++ ms)) news) ≤ missing ns (family (ns ++ ms) a)
  unfolding news
  most =
      at_most ns (map (family (ns ++ ms)) news) (family (ns ++ ms) a)
      (distinct_map (family (ns ++ ms)) news (new_distinct (length ns) (ns ++ ms) a) (λ j k i o e. canonical n j k (known j i) (known k o) e))
      (λ G i c. let r = Memᴰ.of_map (family (ns ++ ms)) news i in apart r.0 r.1 (Memᴰ.cast r.2 c))
      (λ G i. let r = Memᴰ.of_map (family (ns ++ ms)) news i in let b = (new_means n (length ns) a h r.0).0 r.1 in
      Memᴰ.cast (sym r.2) (below_branch n b.1 (omega (arith, b.0)) h))

  least : missing ns (family (ns ++ ms) a) ≤ length (map (family (ns ++ ms)) news)
  unfolding missing news
  least = pigeonhole _ (map (family (ns ++ ms)) news) (fresh_distinct (branches (family (ns ++ ms) a)) (families ns)) (λ G i.
      let s = fresh_sound (branches (family (ns ++ ms) a)) (families ns) G i in
      let j = branch_below n a h G s.0 in
      let l : (j.0 < suc (suc (length ns)) → ⊥) = λ o. s.1 (Memᴰ.cast (j.2 ∙ family-append ns ms j.0 o) (number_in ns j.0 o)) in
      Memᴰ.cast j.2 (Memᴰ.map (family (ns ++ ms)) ((new_means n (length ns) a h j.0).1 (omega arith, j.3))))

  -- THEOREM: the new numbers below a are as many as ns lacks for a's family
  pub new_missing : length (new_below (length ns) (ns ++ ms) a) ≡ missing ns (family (ns ++ ms) a)
  unfolding news
  new_missing = sym (length-map news (family (ns ++ ms))) ∙ le_antisymm most least

  -- THEOREM: the nodes ms are at least as many; so 'full' is said only where the family does not fit
  pub least_growth : missing ns (family (ns ++ ms) a) ≤ length ms
  least_growth = omega (arith, new_missing, new_short (length ns) (ns ++ ms) a, length-append ns ms)

-- THEOREM: where another table has all families of a sound one, and all branch families of F, it has at least the nodes of the sound one and those that
-- this one lacks for F
pub fewest_nodes : {K : List ℕ} {ns : List Node} (us : List Node) → Nodes K ns → ((k : ℕ) → k < suc (suc (length ns)) → family ns k ∈ families us)
    → (F : Family) → ((G : Family) → G ∈ branches F → G ∈ families us) → length ns + missing ns F ≤ length us
unfolding missing
fewest_nodes {K} {ns} us n has F serves =
    let every : List ℕ = numbers_from 0 (suc (suc (length ns))) in
    let known : (k : ℕ) → k ∈ every → k < suc (suc (length ns)) = λ k i. omega (arith, (in_numbers 0 (suc (suc (length ns))) i).1) in
    let held : List Family = map (family ns) every in
    let lacked : List Family = fresh (families ns) (branches F) in
    let lacking : (G : Family) → G ∈ lacked → (G ∈ branches F) × (G ∈ families ns → ⊥) = fresh_sound (branches F) (families ns) in
    let most : length (held ++ lacked) ≤ length (families us) =
    pigeonhole (held ++ lacked) (families us)
    (distinct_append held lacked
    (distinct_map (family ns) every (numbers_distinct 0 (suc (suc (length ns)))) (λ j k i o e. canonical n j k (known j i) (known k o) e))
    (fresh_distinct (branches F) (families ns))
    (λ G i o. let r = Memᴰ.of_map (family ns) every i in (lacking G o).1 (Memᴰ.cast (sym r.2) (number_in ns r.0 (known r.0 r.1)))))
    (λ G i. ⊎_elim
    (λ o. let r = Memᴰ.of_map (family ns) every o in Memᴰ.cast (sym r.2) (has r.0 (known r.0 r.1)))
    (λ o. serves G (lacking G o).0)
    (Memᴰ.append_cases held i)) in
    omega (arith, length-append held lacked, length-map every (family ns), length-numbers 0 (suc (suc (length ns))), length-families us)
