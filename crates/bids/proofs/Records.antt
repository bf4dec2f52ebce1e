-- What was read at a record's place is what the lists have there. Assumes nothing.
use mathlib.Core.Path.{◌≡◌, refl, sym, ap, subst, ◌∙◌}
use mathlib.Core.Bool.{Bool, true, false, not, ◌&&◌}
use mathlib.Core.List.{List, [], ◌∷◌}
use native.Mathlib.Decide.{ℕ_discrete}
use Rattle.std.specs.List.{starts_with}
use Rattle.std.proofs.Math.Bool.{and-true}
use Prim.Native.Nat.{ℕ, ◌+◌, ◌*◌, ◌^◌, ◌<◌, ◌≤◌}
use native.Mathlib.Omega.{arith}
use borrow.Author.Tests.{lt-ltb, le-ltb, eq-eqb, ne_eqb}
use lib.Dec.{eqb}
use lib.ListN.{length}
use Rattle.itemset.specs.Items.{belowb}
use Rattle.bids.specs.Contents.{same_school, same_package, nth_school, nth_package, school_in, items_of, strayb}
use Rattle.bids.specs.Format.{markb, schools, slots, packages, school_place, package_place, school_at, package_at, schools_in, packages_in}
use Rattle.bids.specs.Contract.{FieldPost, SchoolPost, PackagePost, Sized}
use Rattle.bids.specs.declared.Layout.{Layout}
use Rattle.bids.specs.declared.School.{School}
use Rattle.bids.specs.declared.Package.{Package}
use Rattle.bids.specs.Ranges.{first, some}
use Rattle.bids.proofs.Laws.{length-listed, get_or-listed, some_hit, some-none}

-- what t says of x, which is y
pub told : {A B : Type 0} (t : A → B) {x y : A} {r : B} → x ≡ y → r ≡ t x → t y ≡ r
told t e f = sym (f ∙ ap t e)

-- a field whose place is known
pub field_at : (g : ℕ → ℕ) {at at' w v n : ℕ} → at ≡ at' → FieldPost (g at) at w v n → FieldPost (g at') at' w v n
field_at g {w = w} {v = v} {n = n} e p = subst (λ (x : ℕ). FieldPost (g x) x w v n) e p

-- the mark, of a file that is long enough
eqb_turned : (m n : ℕ) → eqb m n ≡ eqb n m
eqb_turned m n = go (ℕ_discrete m n)
  where
    go : Dec (m ≡ n) → eqb m n ≡ eqb n m
    go (yes e) = eq-eqb m n e ∙ sym (eq-eqb n m (sym e))
    go (no f) = ne_eqb m n f ∙ sym (ne_eqb n m (λ e. f (sym e)))

pub mark-read : (b : List ℕ) → 3 ≤ length b → starts_with eqb b (80 ∷ 83 ∷ 66 ∷ []) ≡ markb b
unfolding markb
mark-read [] h = absurd (omega arith)
mark-read (x ∷ []) h = absurd (omega arith)
mark-read (x ∷ y ∷ []) h = absurd (omega arith)
mark-read (x ∷ y ∷ z ∷ b) h = rw (eqb_turned 80 x, eqb_turned 83 y, eqb_turned 66 z, and-true)

-- ---- two packages, by their slots

and_false : (b : Bool) → false ≡ (b && false)
and_false true = refl
and_false false = refl

and_true : (b : Bool) → b ≡ (b && true)
and_true true = refl
and_true false = refl

module _ (p q : Package) where
  pub other_slots : (p.slots ≡ q.slots → ⊥) → false ≡ same_package p q
  unfolding same_package
  other_slots f = rw (ne_eqb p.slots q.slots f) (and_false (same_school p.school q.school))

  pub same-slots : p.slots ≡ q.slots → same_school p.school q.school ≡ same_package p q
  unfolding same_package
  same-slots e = rw (eq-eqb p.slots q.slots e) (and_true (same_school p.school q.school))

-- ---- the records in their order

module _ (L : Layout) (b : List ℕ) where
  pub school_count : length (schools_in L b) ≡ schools b
  unfolding schools_in
  school_count = length-listed (λ j. school_at L b (school_place L j)) (schools b)

  pub package_count : length (packages_in L b) ≡ packages b
  unfolding packages_in
  package_count = length-listed (λ k. package_at L b (package_place L (schools b) k)) (packages b)

  pub school_there : (j : ℕ) → j < schools b → nth_school (schools_in L b) j ≡ school_at L b (school_place L j)
  unfolding schools_in
  school_there j h = get_or-listed (λ i. school_at L b (school_place L i)) (schools b) j _ h

  pub package_there : (k : ℕ) → k < packages b → nth_package (packages_in L b) k ≡ package_at L b (package_place L (schools b) k)
  unfolding packages_in
  package_there k h = get_or-listed (λ i. package_at L b (package_place L (schools b) i)) (packages b) k _ h

  pub school_read : {at n : ℕ} {u : School} (j : ℕ) → at ≡ school_place L j → j < schools b → SchoolPost L b at u n → u ≡ nth_school (schools_in L b) j
  school_read j e h p = p.school ∙ ap (school_at L b) e ∙ sym (school_there j h)

  pub package_read : {at n s : ℕ} {q : Package} (k : ℕ) → s ≡ schools b → at ≡ package_place L s k → k < packages b → PackagePost L b at q n
      → q ≡ nth_package (packages_in L b) k
  package_read k f e h p = p.bid ∙ ap (package_at L b) (rw f at e) ∙ sym (package_there k h)

  -- what t says of the school that was read it says of school j, and so of packages
  pub school_told : {A : Type 0} {at n : ℕ} {u : School} {r : A} (t : School → A) (j : ℕ) → at ≡ school_place L j → j < schools b → SchoolPost L b at u n
      → r ≡ t u → t (nth_school (schools_in L b) j) ≡ r
  school_told t j e h p g = told t (school_read j e h p) g

  pub package_told : {A : Type 0} {at n s : ℕ} {q : Package} {r : A} (t : Package → A) (k : ℕ) → s ≡ schools b → at ≡ package_place L s k → k < packages b
      → PackagePost L b at q n → r ≡ t q → t (nth_package (packages_in L b) k) ≡ r
  package_told t k f e h p g = told t (package_read k f e h p) g

  -- ---- tests of all schools and of all packages

  module _ (f : ℕ → Bool) (i : ℕ) (before : first f i ≡ i) where
    pub school_hit : i < schools b → f i ≡ true → true ≡ some f (length (schools_in L b))
    school_hit h g = sym (some_hit f (length (schools_in L b)) i (omega (arith, school_count)) before g)

    pub no_school : i ≡ schools b → false ≡ some f (length (schools_in L b))
    no_school h = sym (some-none f (length (schools_in L b)) i (omega (arith, school_count)) before)

    pub package_hit : i < packages b → f i ≡ true → true ≡ some f (length (packages_in L b))
    package_hit h g = sym (some_hit f (length (packages_in L b)) i (omega (arith, package_count)) before g)

    pub no_package : i ≡ packages b → false ≡ some f (length (packages_in L b))
    no_package h = sym (some-none f (length (packages_in L b)) i (omega (arith, package_count)) before)

-- the items of a package whose school was sought among all
pub items-read : (us : List School) {s j : ℕ} (p : Package) → s ≡ length us → j ≡ school_in us s p.school → 2 ^ j + p.slots * 2 ^ s ≡ items_of us p
unfolding items_of
items-read us p e f = rw (f, e)

-- ---- 26, of such a package

module _ (us : List School) {s : ℕ} (t : ℕ) (p : Package) {j : ℕ} (count : s ≡ length us) (sought : j ≡ school_in us s p.school) where
  among_all : j ≡ school_in us (length us) p.school
  among_all = rw count at sought

  pub unlisted : s ≤ j → strayb us t p ≡ true
  unfolding strayb
  unlisted h = rw (le-ltb (school_in us (length us) p.school) (length us) (omega (arith, among_all)))

  pub outside : {r : Bool} → j < s → r ≡ belowb p.slots t → strayb us t p ≡ not r
  unfolding strayb
  outside h e = rw (lt-ltb (school_in us (length us) p.school) (length us) (omega (arith, among_all)), ← e)

-- package k, which was read at its place
module _ {L : Layout} {b : List ℕ} {s t n : ℕ} (z : Sized L b s t n) (k : ℕ) {at m j : ℕ} {q : Package} (e : at ≡ package_place L s k) (h : k < n)
    (p : PackagePost L b at q m) (sought : j ≡ school_in (schools_in L b) s q.school) where
  stray_told : {r : Bool} → r ≡ strayb (schools_in L b) (slots b) q → strayb (schools_in L b) (slots b) (nth_package (packages_in L b) k) ≡ r
  stray_told g = package_told L b (strayb (schools_in L b) (slots b)) k z.counts.0 e (omega (arith, z.counts.1.1)) p g

  pub stray_school : s ≤ j → strayb (schools_in L b) (slots b) (nth_package (packages_in L b) k) ≡ true
  stray_school l = stray_told (sym (unlisted (schools_in L b) (slots b) q (z.counts.0 ∙ sym (school_count L b)) sought l))

  pub stray_slots : {r : Bool} → j < s → r ≡ belowb q.slots t → strayb (schools_in L b) (slots b) (nth_package (packages_in L b) k) ≡ not r
  stray_slots l g =
      stray_told (sym (outside (schools_in L b) (slots b) q (z.counts.0 ∙ sym (school_count L b)) sought l (g ∙ ap (belowb q.slots) z.counts.1.0)))
