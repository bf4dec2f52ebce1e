-- A file is accepted exactly where it is what each test asks. Assumes nothing.
use mathlib.Core.Path.{◌≡◌, refl, sym, ◌∙◌}
use mathlib.Core.Bool.{true, false, not}
use mathlib.Core.List.{List}
use Prim.Native.Nat.{ℕ, ◌+◌, ◌-◌, ◌≤◌}
use native.Mathlib.Omega.{arith}
use borrow.Author.Tests.{le-ltb, eq-eqb, ne_eqb, ltb-false, eqb-true, not-false}
use lib.Dec.{eqb}
use lib.ListN.{length, take}
use Rattle.statement.specs.Refusals.{first_of}
use Rattle.statement.proofs.FirstOf.{pass, hit, passed}
use Rattle.bids.specs.Bytes.{number_at, fnv}
use Rattle.bids.specs.Contents.{Contents, stray_optional, school_twice, stray}
use Rattle.bids.specs.Format.{markb, file_length, contents, cut, unmarked, other_version, oversize, wrong_length, wrong_check, content_tests, record_tests, refusal}
use Rattle.bids.specs.Format as F
use Rattle.bids.specs.Contract.{Legible, Sized}
use Rattle.bids.specs.declared.Layout.{Layout}
use Rattle.bids.proofs.Places.{header_before, school_before}
use Rattle.bids.proofs.Refused.{header_passed, small_size, whole_length}

pub record Accepted (L : Layout) (b : List ℕ) : Type 0 where
  pub uncut : 13 ≤ length b
  pub marked : markb b ≡ true
  pub version : F.version b ≡ L.version
  pub items : F.schools b + F.slots b ≤ 64
  pub few : F.packages b ≤ 512
  pub long : length b ≡ file_length L (F.schools b) (F.packages b)
  pub check : fnv (take (length b - 4) b) ≡ number_at b (length b - 4) 4
  pub sensible : first_of (content_tests (contents L b)) ≡ 0

module _ {L : Layout} {b : List ℕ} where
  pub accepted : refusal L b ≡ 0 → Accepted L b
  unfolding refusal cut unmarked other_version wrong_check
  accepted z =
      let p = passed (cut b) 19 _ z in
      let h = header_passed L b (record_tests L b) p.1 in
      let q = passed (wrong_check b) 22 _ h.1 in
      record {
        uncut = ltb-false (length b) 13 p.0;
        marked = not-false (markb b) h.0.marked;
        version = equal h.0.version;
        items = (small_size L b h.0.sized).0;
        few = (small_size L b h.0.sized).1;
        long = whole_length L b h.0.long;
        check = equal q.0;
        sensible = q.1;
      }
    where
      equal : {m n : ℕ} → not (eqb m n) ≡ false → m ≡ n
      equal {m} {n} e = eqb-true m n (not-false (eqb m n) e)

  module _ (a : Accepted L b) where
    whole : cut b ≡ false
    unfolding cut
    whole = le-ltb (length b) 13 a.uncut

    not-unmarked : unmarked b ≡ false
    unfolding unmarked
    not-unmarked = rw a.marked

    pub unrefused : refusal L b ≡ 0
    unfolding refusal other_version oversize wrong_length wrong_check
    unrefused =
        pass 20 _ whole ∙ pass 21 _ not-unmarked
        ∙ pass 22 _ (rw (eq-eqb (F.version b) L.version a.version))
        ∙ pass 24 _ (rw (le-ltb 64 (F.schools b + F.slots b) a.items, le-ltb 512 (F.packages b) a.few))
        ∙ pass 20 _ (rw (eq-eqb (length b) (file_length L (F.schools b) (F.packages b)) a.long))
        ∙ pass 23 _ (rw (eq-eqb (fnv (take (length b - 4) b)) (number_at b (length b - 4) 4) a.check))
        ∙ a.sensible

    -- as a file of another version it is 22
    pub as_other_version : (M : Layout) → (L.version ≡ M.version → ⊥) → refusal M b ≡ 22
    unfolding refusal other_version
    as_other_version M f =
        pass 20 _ whole ∙ pass 21 _ not-unmarked ∙ hit 22 _ (rw (ne_eqb (F.version b) M.version (λ e. f (sym a.version ∙ e))))

-- ---- what an accepted file says

module _ (x : Contents) (e : first_of (content_tests x) ≡ 0) where
  optional-inside : stray_optional x ≡ false
  optional-inside = (passed (stray_optional x) 30 _ e).0

  pub none-stray : stray x ≡ false
  none-stray =
      let p = passed (school_twice x.schools) 24 _ (passed (stray_optional x) 30 _ e).1 in
      (passed (stray x) 25 _ p.1).0

module _ (L : Layout) (b : List ℕ) (z : refusal L b ≡ 0) where
  pub accepted_sized : {s t n : ℕ} → Legible L → s ≡ F.schools b → t ≡ F.slots b → n ≡ F.packages b → Sized L b s t n
  accepted_sized l e f g =
      let a = accepted z in
      rw (e, f, g) (record { legible = l; long = a.long; items = a.items; few = a.few; counts = (refl, (refl, refl)) })

  -- it has its header, and at most 64 schools
  pub header_inside : Legible L → L.header ≤ length b
  header_inside l =
      let s = F.schools b in
      let n = F.packages b in
      omega (arith, (accepted_sized l refl refl refl).long, header_before L s, school_before L s n)

  pub schools_few : {s : ℕ} → s ≡ F.schools b → s ≤ 64
  schools_few e = omega (arith, (accepted z).items)

  pub accepted_optional : stray_optional (contents L b) ≡ false
  accepted_optional = optional-inside (contents L b) (accepted z).sensible

  pub accepted_listed : stray (contents L b) ≡ false
  accepted_listed = none-stray (contents L b) (accepted z).sensible
