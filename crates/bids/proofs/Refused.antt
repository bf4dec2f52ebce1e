-- How the refusal is read off the list of tests, in the code's order. Assumes nothing.
use mathlib.Core.Path.{◌≡◌, refl, sym, ap, ◌∙◌}
use mathlib.Core.Bool.{Bool, true, false, not}
use mathlib.Core.List.{List, [], ◌∷◌, ◌++◌}
use Prim.Native.Nat.{ℕ, ◌+◌, ◌-◌, ◌<◌, ◌≤◌}
use native.Mathlib.Omega.{arith}
use borrow.Author.Tests.{lt-ltb, le-ltb, eq-eqb, ne_eqb, ltb-false, eqb-true, not-false}
use lib.Dec.{eqb, ltb}
use lib.ListN.{length, take}
use Rattle.base.proofs.Bools.{or_neither}
use Rattle.itemset.specs.Items.{belowb}
use Rattle.statement.specs.Refusals.{first_of}
use Rattle.statement.proofs.FirstOf.{pass, hit, passed, front}
use Rattle.bids.specs.Bytes.{number_at, fnv}
use Rattle.bids.specs.Contents.{stray_optional, school_twice, stray, package_twice}
use Rattle.bids.specs.Format.{unmarked, other_version, version, schools, slots, packages, file_length, optional_slots, contents, cut, oversize, wrong_length, wrong_check}
use Rattle.bids.specs.Format.{header_tests, content_tests, record_tests, refusal, schools_in, packages_in}
use Rattle.bids.specs.Contract.{Legible, HeaderPost, Sized}
use Rattle.bids.specs.declared.Layout.{Layout}
use Rattle.bids.specs.declared.Header.{Header}

module _ (L : Layout) (b : List ℕ) where
  -- ---- the whole list

  pub is_cut : length b < 13 → 20 ≡ refusal L b
  unfolding refusal cut
  is_cut p = sym (hit 20 (header_tests L b ++ record_tests L b) (lt-ltb (length b) 13 p))

  pub not-cut : 13 ≤ length b → refusal L b ≡ first_of (header_tests L b ++ record_tests L b)
  unfolding refusal cut
  not-cut p = pass 20 (header_tests L b ++ record_tests L b) (le-ltb (length b) 13 p)

  pub by_header : {r : ℕ} → 13 ≤ length b → r ≡ first_of (header_tests L b) → (r ≡ 0 → ⊥) → r ≡ refusal L b
  by_header p e f = e ∙ sym (not-cut p ∙ front (header_tests L b) (record_tests L b) (λ z. f (e ∙ z)))

  -- the tests of a header that it passes
  pub record HeaderPassed : Type 0 where
    pub marked : unmarked b ≡ false
    pub version : other_version L b ≡ false
    pub sized : oversize b ≡ false
    pub long : wrong_length L b ≡ false

  pub header_passed : (ts : List (Bool × ℕ)) → first_of (header_tests L b ++ ts) ≡ 0 → HeaderPassed × (first_of ts ≡ 0)
  header_passed ts z =
      let p1 = passed (unmarked b) 20 _ z in
      let p2 = passed (other_version L b) 21 _ p1.1 in
      let p3 = passed (oversize b) 23 _ p2.1 in
      let p4 = passed (wrong_length L b) 19 ts p3.1 in
      (record { marked = p1.0; version = p2.0; sized = p3.0; long = p4.0 }, p4.1)

  -- behind a header that passes the records decide
  behind_header : HeaderPassed → 13 ≤ length b → refusal L b ≡ first_of (record_tests L b)
  behind_header q p = not-cut p ∙ pass 21 _ q.marked ∙ pass 22 _ q.version ∙ pass 24 _ q.sized ∙ pass 20 (record_tests L b) q.long

  pub by_records : 13 ≤ length b → first_of (header_tests L b) ≡ 0 → refusal L b ≡ first_of (record_tests L b)
  by_records p z = behind_header (header_passed [] z).0 p

  -- ---- the tests of the header

  pub small_size : oversize b ≡ false → (schools b + slots b ≤ 64) × (packages b ≤ 512)
  unfolding oversize
  small_size e =
      let f = or_neither (ltb 64 (schools b + slots b)) (ltb 512 (packages b)) e in
      (ltb-false 64 (schools b + slots b) f.0, ltb-false 512 (packages b) f.1)

  pub whole_length : wrong_length L b ≡ false → length b ≡ file_length L (schools b) (packages b)
  unfolding wrong_length
  whole_length e = eqb-true (length b) (file_length L (schools b) (packages b)) (not-false (eqb (length b) (file_length L (schools b) (packages b))) e)

  pub sized : {s t n : ℕ} → Legible L → s ≡ schools b → t ≡ slots b → n ≡ packages b → HeaderPassed → Sized L b s t n
  sized l e f g p = rw (e, f, g) (record {
    legible = l;
    long = whole_length p.long;
    items = (small_size p.sized).0;
    few = (small_size p.sized).1;
    counts = (refl, (refl, refl));
  })

module _ {b : List ℕ} {h : Header} (p : HeaderPost b h) where
  pub mark_test : unmarked b ≡ not h.marked
  unfolding unmarked
  mark_test = rw p.marked

  pub many-items : 64 < h.schools + h.slots → oversize b ≡ true
  unfolding oversize
  many-items q = rw (lt-ltb 64 (schools b + slots b) (omega (arith, p.schools, p.slots)))

  pub many-packages : h.schools + h.slots ≤ 64 → 512 < h.packages → oversize b ≡ true
  unfolding oversize
  many-packages q r = rw (le-ltb 64 (schools b + slots b) (omega (arith, p.schools, p.slots)), lt-ltb 512 (packages b) (omega (arith, p.packages)))

  pub few : h.schools + h.slots ≤ 64 → h.packages ≤ 512 → oversize b ≡ false
  unfolding oversize
  few q r = rw (le-ltb 64 (schools b + slots b) (omega (arith, p.schools, p.slots)), le-ltb 512 (packages b) (omega (arith, p.packages)))

  module _ (L : Layout) where
    pub other_version_lem : (h.version ≡ L.version → ⊥) → other_version L b ≡ true
    unfolding other_version
    other_version_lem f = rw (ne_eqb (version b) L.version (λ e. f (p.version ∙ e)))

    pub same_version : h.version ≡ L.version → other_version L b ≡ false
    unfolding other_version
    same_version e = rw (eq-eqb (version b) L.version (sym p.version ∙ e))

    asked : {n : ℕ} → n ≡ file_length L h.schools h.packages → n ≡ file_length L (schools b) (packages b)
    asked e = rw (p.schools, p.packages) at e

    pub other_length : {n : ℕ} → n ≡ file_length L h.schools h.packages → (length b ≡ n → ⊥) → wrong_length L b ≡ true
    unfolding wrong_length
    other_length e f = rw (ne_eqb (length b) (file_length L (schools b) (packages b)) (λ g. f (g ∙ sym (asked e))))

    pub same_length : {n : ℕ} → n ≡ file_length L h.schools h.packages → length b ≡ n → wrong_length L b ≡ false
    unfolding wrong_length
    same_length e f = rw (eq-eqb (length b) (file_length L (schools b) (packages b)) (f ∙ asked e))

    -- what is left to test, one test passed after the other
    pub after_mark : not h.marked ≡ false → first_of (header_tests L b) ≡ first_of ((other_version L b, 22) ∷ (oversize b, 24) ∷ (wrong_length L b, 20) ∷ [])
    after_mark e = pass 21 _ (mark_test ∙ e)

    pub after_version : not h.marked ≡ false → h.version ≡ L.version → first_of (header_tests L b) ≡ first_of ((oversize b, 24) ∷ (wrong_length L b, 20) ∷ [])
    after_version e f = after_mark e ∙ pass 22 _ (same_version f)

    pub after_size : not h.marked ≡ false → h.version ≡ L.version → h.schools + h.slots ≤ 64 → h.packages ≤ 512
        → first_of (header_tests L b) ≡ first_of ((wrong_length L b, 20) ∷ [])
    after_size e f q r = after_version e f ∙ pass 24 _ (few q r)

-- ---- the tests of the check and the records

module _ (L : Layout) (b : List ℕ) where
  -- the stored check is y, that of the bytes x
  module _ {x y n : ℕ} (e : n ≡ length b - 4) (f : x ≡ fnv (take n b)) (g : y ≡ number_at b n 4) where
    pub check-of : wrong_check b ≡ not (eqb x y)
    unfolding wrong_check
    check-of = rw (f, g, e)

    pub check_wrong : (x ≡ y → ⊥) → wrong_check b ≡ true
    check_wrong h = check-of ∙ ap not (ne_eqb x y h)

    pub check_right : x ≡ y → wrong_check b ≡ false
    check_right h = check-of ∙ ap not (eq-eqb x y h)

  pub optional-of : {o t : ℕ} {r k : Bool} → o ≡ optional_slots L b → t ≡ slots b → r ≡ belowb o t → not r ≡ k → stray_optional (contents L b) ≡ k
  unfolding stray_optional
  optional-of e f g h = rw (← e, ← f, ← g) h

  -- what is left to test, one test passed after the other
  module _ (e1 : wrong_check b ≡ false) where
    pub after_check : first_of (record_tests L b) ≡ first_of (content_tests (contents L b))
    after_check = pass 23 _ e1

    module _ (e2 : stray_optional (contents L b) ≡ false) where
      pub after_optional : first_of (record_tests L b)
          ≡ first_of ((school_twice (schools_in L b), 25) ∷ (stray (contents L b), 26) ∷ (package_twice (packages_in L b), 27) ∷ [])
      after_optional = after_check ∙ pass 31 _ e2

      module _ {r : Bool} (f : r ≡ school_twice (schools_in L b)) (e3 : r ≡ false) where
        pub after_schools : first_of (record_tests L b) ≡ first_of ((stray (contents L b), 26) ∷ (package_twice (packages_in L b), 27) ∷ [])
        after_schools = after_optional ∙ pass 25 _ (sym f ∙ e3)

        pub after_stray : {s : Bool} → s ≡ stray (contents L b) → s ≡ false → first_of (record_tests L b) ≡ first_of ((package_twice (packages_in L b), 27) ∷ [])
        after_stray g e4 = after_schools ∙ pass 26 _ (sym g ∙ e4)
