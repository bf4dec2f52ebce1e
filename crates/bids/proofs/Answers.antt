-- What the reader refuses, and what it leaves in the buffers, from what it called. Assumes nothing.
use mathlib.Core.Path.{◌≡◌, refl, sym, ap, ◌∙◌}
use mathlib.Core.Bool.{not}
use mathlib.Core.List.{List, [], ◌∷◌}
use Prim.Native.Nat.{ℕ, ◌+◌, ◌*◌, ◌^◌, ◌≤◌, ◌<◌}
use native.Mathlib.Omega.{arith}
use borrow.Author.Tests.{lt-ltb, le-ltb, eq-eqb, ne_eqb}
use lib.Dec.{ltb}
use lib.ListN.{length}
use lib.Pow.{pow_mono}
use native.Mathlib.Nat.{lt_of_lt_of_le}
use Rattle.base.proofs.Bools.{or_left, or_right}
use Rattle.itemset.specs.Words.{spread, value_of}
use Rattle.std.specs.Prelude.{Result, Ok, Err}
use Rattle.statement.specs.declared.Refusal.{Refusal}
use Rattle.statement.specs.Replies.{number_of, refusal_of}
use Rattle.statement.specs.Postconditions.{written}
use Rattle.statement.proofs.FirstOf.{pass, hit, none}
use Rattle.statement.proofs.TestLaws.{reply-refused, page_left}
use Rattle.bids.specs.Ranges.{listed}
use Rattle.bids.specs.Contents.{nth_package, school_in, items_of, packages_of, costs_of, optional_of}
use Rattle.bids.specs.Format.{packages, package_at, package_place, schools, contents, schools_in, packages_in, optional_slots, refusal}
use Rattle.bids.specs.Contract.{PackagePost, Fillable, read_refusal, read_gives, ReadPost, read_reply}
use Rattle.bids.specs.declared.Layout.{Layout}
use Rattle.bids.specs.declared.Package.{Package}
use Rattle.bids.specs.declared.Bids.{Bids}
use Rattle.bids.proofs.Laws.{over, over-room, map-listed}
use Rattle.bids.proofs.Records.{told, items-read, package_read, package_there, school_count}
use Rattle.bids.proofs.Accepted.{accepted_optional}
use Rattle.bids.proofs.Fit.{few_items, optional-below}

-- ---- the refusal

module _ (L : Layout) (b : List ℕ) (p c : ℕ) where
  pub by_file : {r : ℕ} → r ≡ refusal L b → (r ≡ 0 → ⊥) → read_refusal L b p c ≡ r
  unfolding read_refusal
  by_file e f = hit (refusal L b) _ (ap not (ne_eqb (refusal L b) 0 (λ z. f (e ∙ z)))) ∙ sym e

  module _ (z : refusal L b ≡ 0) where
    pub few_words : p < 3 * packages b → read_refusal L b p c ≡ 15
    unfolding read_refusal
    few_words h =
        pass (refusal L b) _ (ap not (eq-eqb (refusal L b) 0 z))
        ∙ hit 15 [] (or_left (ltb p (3 * packages b)) (ltb c (packages b)) (lt-ltb p (3 * packages b) h))

    pub few_costs : c < packages b → read_refusal L b p c ≡ 15
    unfolding read_refusal
    few_costs h =
        pass (refusal L b) _ (ap not (eq-eqb (refusal L b) 0 z))
        ∙ hit 15 [] (or_right (ltb p (3 * packages b)) (ltb c (packages b)) (lt-ltb c (packages b) h))

    pub roomy : 3 * packages b ≤ p → packages b ≤ c → read_refusal L b p c ≡ 0
    unfolding read_refusal
    roomy h k =
        pass (refusal L b) _ (ap not (eq-eqb (refusal L b) 0 z)) ∙ pass 15 [] (rw (le-ltb p (3 * packages b) h) (le-ltb c (packages b) k)) ∙ none

-- ---- the buffers

-- what a refusal leaves
pub read-refused : {L : Layout} {b p c : List ℕ} (r : Result Bids Refusal) → read_refusal L b (length p) (length c) ≡ refusal_of r → (refusal_of r ≡ 0 → ⊥)
    → ReadPost L b (read_reply r) p p c c
read-refused (Ok v) e f = absurd (f refl)
read-refused {L} {b} {p} {c} (Err r) e f = record {
  answer = reply-refused (number_of r) (read_gives L b) e f;
  items = page_left (number_of r) (spread 3 (packages_of (contents L b))) p e f;
  costs = page_left (number_of r) (costs_of (contents L b)) c e f;
}

-- all n of the list were stored, one after the other
pub stored : (vs l : List ℕ) {m : List ℕ} {n : ℕ} → length vs ≡ n → m ≡ over vs l → n ≤ length l → m ≡ written 0 vs l
stored vs l h e p = e ∙ over-room vs l (omega arith)

-- ---- item sets and costs by their places

module _ (L : Layout) (b : List ℕ) where
  abbrev there : ℕ → Package
  there k = package_at L b (package_place L (schools b) k)

  -- those of package k
  abbrev pub items_there : ℕ → ℕ
  items_there k = items_of (schools_in L b) (there k)

  abbrev pub cost_there : ℕ → ℕ
  cost_there k = (there k).cost

  pub items-listed : {n : ℕ} → n ≡ packages b → listed items_there n ≡ packages_of (contents L b)
  unfolding packages_of packages_in
  items-listed e = rw e (sym (map-listed there (items_of (schools_in L b)) (packages b)))

  pub costs-listed : {n : ℕ} → n ≡ packages b → listed cost_there n ≡ costs_of (contents L b)
  unfolding costs_of packages_in
  costs-listed e = rw e (sym (map-listed there (λ (p : Package). p.cost) (packages b)))

  -- ---- the optional items, in one word

  module _ (z : refusal L b ≡ 0) {s : ℕ} (e : s ≡ schools b) where
    pub optional-items : {o : ℕ} → o ≡ optional_slots L b → o * 2 ^ s ≡ optional_of (contents L b)
    unfolding optional_of
    optional-items f = rw (f, e, ← school_count L b)

    pub optional-small : {o : ℕ} → o ≡ optional_slots L b → o * 2 ^ s < 2 ^ 64
    optional-small f =
        rw (optional-items f)
        (lt_of_lt_of_le (optional-below (contents L b) (accepted_optional L b z)) (pow_mono (few_items L b z)))

-- ---- what is written of package k, which was read at its place and whose school was sought

module _ {L : Layout} {b : List ℕ} {s t n : ℕ} (z : Fillable L b s t n) {k at m j : ℕ} {q : Package} (e : at ≡ package_place L s k) (h : k < n)
    (p : PackagePost L b at q m) (sought : j ≡ school_in (schools_in L b) s q.school) where
  read : q ≡ nth_package (packages_in L b) k
  read = package_read L b k z.sized.counts.0 e (omega (arith, z.sized.counts.1.1)) p

  its_place : nth_package (packages_in L b) k ≡ there L b k
  its_place = package_there L b k (omega (arith, z.sized.counts.1.1))

  packed : 2 ^ j + q.slots * 2 ^ s ≡ items_of (schools_in L b) q
  packed = items-read (schools_in L b) q (z.sized.counts.0 ∙ sym (school_count L b)) sought

  pub school_listed : (j < s) × (s ≤ 64)
  school_listed =
      (omega (arith, z.known k h, told (λ (x : Package). school_in (schools_in L b) s x.school) read sought), omega (arith, z.sized.items))

  pub items_fit : 2 ^ j + q.slots * 2 ^ s < 2 ^ 64
  items_fit = rw (packed, read) (z.inside k h)

  pub fit_there : items_there L b k < 2 ^ 64
  fit_there = rw its_place at (z.inside k h)

  pub items-written : {v : ℕ} → v ≡ 2 ^ j + q.slots * 2 ^ s → v ≡ items_there L b k
  items-written f = f ∙ packed ∙ ap (items_of (schools_in L b)) (read ∙ its_place)

  pub cost-written : q.cost ≡ cost_there L b k
  cost-written = ap (λ (x : Package). x.cost) (read ∙ its_place)

-- one word of three
pub one_word : (w : ℕ) → value_of (w ∷ 0 ∷ 0 ∷ []) ≡ w
unfolding value_of
one_word w = omega arith
