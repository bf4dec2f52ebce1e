-- An accepted file is fit for the engine: it has at most 64 items and at most 512 packages, each of which lies within the items and holds its school, and
-- optional are slots alone. So none of the tests that every call makes first applies. Assumes nothing.
use mathlib.Core.Path.{◌≡◌, refl, ap, ap₂, sym, ◌∙◌}
use mathlib.Core.Bool.{Bool, true, false, not, ◌&&◌}
use mathlib.Core.List.{List, [], ◌∷◌, map}
use Prim.Native.Nat.{ℕ, zero, suc, ◌+◌, ◌*◌, ◌^◌, ◌<◌, ◌≤◌}
use native.Mathlib.Nat.{suc-mul, mul-le-mul_right, mul-lt-mul_of_pos_right, lt_of_lt_of_le}
use native.Mathlib.Omega.{arith}
use borrow.Author.Tests.{ltb-true, lt-ltb, le-ltb, eq-eqb, ne_eqb, not-false}
use lib.Dec.{eqb, ltb}
use lib.Pow.{pow_pos, pow-add, pow-lt, pow_mono}
use lib.ListN.{length, get_or, length-map}
use Rattle.base.proofs.Bools.{or_neither}
use Rattle.itemset.specs.Items.{holds, without, belowb}
use Rattle.itemset.specs.Words.{width}
use Rattle.itemset.proofs.Laws.{below_lt, holds-none, holds-without, holds_pos, holds-single}
use Rattle.itemset.proofs.Words.{holds-low}
use Rattle.itemset.proofs.Lists.{width_is}
use Rattle.exact_cover.specs.Problem.{done}
use Rattle.statement.specs.Refusals as engine
use Rattle.statement.proofs.TestLaws.{none_of}
use Rattle.statement.proofs.PlainOrder.{plain-ordered}
use Rattle.bids.specs.Contents.{Contents, nth_package, school_in, items_of, packages_of, item_count, optional_of, problem_in, stray_optional, strayb, stray}
use Rattle.bids.specs.Format.{schools, slots, packages, contents, refusal}
use Rattle.bids.specs.Contract.{Legible, Fillable}
use Rattle.bids.specs.declared.Layout.{Layout}
use Rattle.bids.specs.declared.Package.{Package}
use Rattle.bids.proofs.Laws.{none-some}
use Rattle.bids.proofs.Records.{school_count, package_count}
use Rattle.bids.proofs.Accepted.{accepted, accepted_sized, accepted_optional, accepted_listed}

-- w below 2 ^ t, shifted above s; and with an item j below s beside it
module _ (s w t : ℕ) (q : w < 2 ^ t) where
  high : 2 ^ (s + t) ≡ 2 ^ t * 2 ^ s
  high = ap (λ (x : ℕ). 2 ^ x) (omega arith) ∙ pow-add 2 t s

  shifted-below : w * 2 ^ s < 2 ^ (s + t)
  shifted-below = rw high (mul-lt-mul_of_pos_right q (pow_pos s))

  above : (j : ℕ) → j < s → 2 ^ j + w * 2 ^ s < 2 ^ (s + t)
  above j p =
      let m : suc w * 2 ^ s ≤ 2 ^ t * 2 ^ s = mul-le-mul_right (2 ^ s) q in
      omega (arith, m, high, suc-mul w (2 ^ s), pow-lt p)

-- the optional items are items
pub optional-below : (x : Contents) → stray_optional x ≡ false → optional_of x < 2 ^ item_count x
unfolding stray_optional optional_of
optional-below x e = shifted-below (length x.schools) x.optional x.slots (below_lt x.optional x.slots (not-false (belowb x.optional x.slots) e))

-- an item j below s is none of those shifted above s, so it is left without them
low-left : (s j w o : ℕ) → j < s → eqb (without (2 ^ j + w * 2 ^ s) (o * 2 ^ s)) 0 ≡ false
low-left s j w o l =
    let here : holds j (2 ^ j + w * 2 ^ s) ≡ true = ap (holds j) (omega arith) ∙ holds-low s j w (2 ^ j) l ∙ holds-single j j ∙ eq-eqb j j refl in
    let away : holds j (o * 2 ^ s) ≡ false = ap (holds j) (omega arith) ∙ holds-low s j o 0 l ∙ holds-none j in
    let x = without (2 ^ j + w * 2 ^ s) (o * 2 ^ s) in
    let p = holds_pos j x (holds-without j (2 ^ j + w * 2 ^ s) (o * 2 ^ s) ∙ ap₂ (λ (a b : Bool). a && not b) here away) in
    ne_eqb x 0 (λ z. omega (arith, p, z))

-- package k's items
get_or_mapped : (g : Package → ℕ) (ps : List Package) (k : ℕ) → k < length ps → get_or (map g ps) k 0 ≡ g (nth_package ps k)
get_or_mapped g [] zero p = absurd (omega arith)
get_or_mapped g [] (suc k) p = absurd (omega arith)
get_or_mapped g (x ∷ ps) zero p = refl
get_or_mapped g (x ∷ ps) (suc k) p = get_or_mapped g ps k (omega arith)

module _ (x : Contents) (listed-all : stray x ≡ false) where
  pub kept : (k : ℕ) → k < length x.packages
      → (school_in x.schools (length x.schools) (nth_package x.packages k).school < length x.schools) × ((nth_package x.packages k).slots < 2 ^ x.slots)
  unfolding stray strayb
  kept k q =
      let p = nth_package x.packages k in
      let s = length x.schools in
      let e = or_neither (not (ltb (school_in x.schools s p.school) s)) (not (belowb p.slots x.slots))
      (none-some (λ i. strayb x.schools x.slots (nth_package x.packages i)) (length x.packages) k listed-all q) in (
        ltb-true (school_in x.schools s p.school) s (not-false (ltb (school_in x.schools s p.school) s) e.0),
        below_lt p.slots x.slots (not-false (belowb p.slots x.slots) e.1),
      )

  pub inside : (k : ℕ) → k < length x.packages → items_of x.schools (nth_package x.packages k) < 2 ^ item_count x
  unfolding items_of
  inside k q = above (length x.schools) (nth_package x.packages k).slots x.slots (kept k q).1 _ (kept k q).0

  some_item : (k : ℕ) → 0 < items_of x.schools (nth_package x.packages k)
  unfolding items_of
  some_item k = omega (arith, pow_pos (school_in x.schools (length x.schools) (nth_package x.packages k).school))

  pub package_fits : (k : ℕ) → k < length (packages_of x) → (0 < get_or (packages_of x) k 0) × (get_or (packages_of x) k 0 < 2 ^ item_count x)
  unfolding packages_of
  package_fits k q =
      let q' : k < length x.packages = omega (arith, length-map x.packages (items_of x.schools)) in
      rw (get_or_mapped (items_of x.schools) x.packages k q') (some_item k, inside k q')

  -- the school of a package is a compulsory item of it, since optional items are slots
  package_due : (k : ℕ) → k < length (packages_of x) → done (problem_in x) (get_or (packages_of x) k 0) ≡ false
  unfolding done packages_of items_of optional_of
  package_due k q =
      let q' : k < length x.packages = omega (arith, length-map x.packages (items_of x.schools)) in
      let s = length x.schools in
      let p = nth_package x.packages k in
      let j = school_in x.schools s p.school in
      rw (get_or_mapped (items_of x.schools) x.packages k q')
      (low-left s j p.slots x.optional (kept k q').0)

  -- none of the engine's 1, 2, 29, 30 and 34 applies, in the plain order
  pub fit : stray_optional x ≡ false → item_count x ≤ 64 → length x.packages ≤ 512 → engine.Fit (problem_in x) (item_count x)
  unfolding engine.oversize engine.stray engine.stray_optional engine.nothing_compulsory packages_of belowb
  fit o p q = record {
    sized =
        rw (le-ltb width (item_count x) (omega (arith, width_is)))
        (le-ltb 512 (length (packages_of x)) (omega (arith, length-map x.packages (items_of x.schools))));
    clean = none_of (engine.stray_package (item_count x)) (packages_of x) (λ k l.
        let h = package_fits k l in
        rw (ne_eqb (get_or (packages_of x) k 0) 0 (λ e. omega (arith, e, h.0)), lt-ltb (get_or (packages_of x) k 0) (2 ^ item_count x) h.1));
    known = rw (lt-ltb (optional_of x) (2 ^ item_count x) (optional-below x o));
    due = none_of (done (problem_in x)) (packages_of x) package_due;
    ordered = plain-ordered (item_count x);
  }

-- ---- of an accepted file

module _ (L : Layout) (b : List ℕ) (z : refusal L b ≡ 0) where
  pub few_items : item_count (contents L b) ≤ 64
  few_items = omega (arith, (accepted z).items, school_count L b)

  pub accepted_fit : engine.Fit (problem_in (contents L b)) (item_count (contents L b))
  accepted_fit = fit (contents L b) (accepted_listed L b z) (accepted_optional L b z) few_items (omega (arith, (accepted z).few, package_count L b))

-- what writing the packages asks
pub fillable : (L : Layout) (b : List ℕ) {s t n : ℕ} → Legible L → refusal L b ≡ 0 → s ≡ schools b → t ≡ slots b → n ≡ packages b → Fillable L b s t n
fillable L b l z e f g =
    let p = accepted_sized L b z l e f g in
    let a = accepted_listed L b z in
    record {
      sized = p;
      known = λ k q. rw (e ∙ sym (school_count L b)) (kept (contents L b) a k (omega (arith, package_count L b))).0;
      inside = λ k q. lt_of_lt_of_le (inside (contents L b) a k (omega (arith, package_count L b))) (pow_mono (few_items L b z));
    }
