-- No accepted file has more bytes than one of 64 schools and 512 packages: 6285 in version 1, 6869 in version 2. So the first bytes of a longer file, one more
-- than that or any number above it, are refused as the whole file is: a program that reads no more never takes a longer file for a shorter one.
-- Assumes nothing.
use mathlib.Core.Path.{◌≡◌, refl, sym, ap, ◌∙◌}
use mathlib.Core.Bool.{true, false}
use mathlib.Core.List.{List, ◌++◌}
use Prim.Native.Nat.{ℕ, suc, ◌+◌, ◌<◌, ◌≤◌}
use native.Mathlib.Decide.{dec_lt}
use native.Mathlib.Nat.{mul-le-mul_left}
use native.Mathlib.Omega.{arith}
use borrow.Author.Tests.{ne_eqb}
use lib.ListN.{length, take}
use lib.Seq.{take_all, length-take-le, get_or-take}
use Rattle.base.proofs.Bools.{by_test}
use Rattle.statement.specs.Refusals.{first_of}
use Rattle.statement.proofs.FirstOf.{pass, hit}
use Rattle.bids.specs.Bytes.{number_at}
use Rattle.bids.specs.Format.{version1, version2, markb, unmarked, other_version, schools, packages, school_place, package_place, file_length, oversize}
use Rattle.bids.specs.Format.{wrong_length, header_tests, record_tests, refusal}
use Rattle.bids.specs.Contract.{Legible}
use Rattle.bids.specs.declared.Layout.{Layout}
use Rattle.bids.proofs.Refused.{not-cut, small_size}
use Rattle.bids.proofs.Accepted.{accepted_sized}

abbrev pub longest : Layout → ℕ
longest L = file_length L 64 512

pub longest1 : longest version1 ≡ 6285
unfolding package_place school_place
longest1 = refl

pub longest2 : longest version2 ≡ 6869
unfolding package_place school_place
longest2 = refl

module _ (L : Layout) where
  pub short_enough : {s n : ℕ} → s ≤ 64 → n ≤ 512 → file_length L s n ≤ longest L
  unfolding package_place school_place
  short_enough p q = omega (arith, mul-le-mul_left (L.site + 1) p, mul-le-mul_left (L.site + 11) q)

  too_long : (b : List ℕ) → oversize b ≡ false → longest L < length b → wrong_length L b ≡ true
  unfolding wrong_length
  too_long b e p =
      let f = small_size L b e in
      let g = short_enough {s = schools b} {n = packages b} (omega arith) f.1 in
      rw (ne_eqb (length b) (file_length L (schools b) (packages b)) (λ q. omega arith))

  module _ (b : List ℕ) (m : ℕ) (p : longest L < m) (h : 13 ≤ longest L) where
    pub word_same : (i : ℕ) → i < 12 → number_at (take m b) i 2 ≡ number_at b i 2
    unfolding number_at
    word_same i q = rw (get_or-take m b i 0 (omega arith), get_or-take m b (suc i) 0 (omega arith))

    mark-same : unmarked (take m b) ≡ unmarked b
    unfolding unmarked markb
    mark-same = rw (get_or-take m b 0 0 (omega arith), get_or-take m b 1 0 (omega arith), get_or-take m b 2 0 (omega arith))

    version-same : other_version L (take m b) ≡ other_version L b
    unfolding other_version
    version-same = rw (word_same 3 (omega arith))

    size_same : oversize (take m b) ≡ oversize b
    unfolding oversize
    size_same = rw (get_or-take m b 5 0 (omega arith), get_or-take m b 6 0 (omega arith), word_same 7 (omega arith))

    -- neither is passed by its header
    headers : m < length b → first_of (header_tests L (take m b) ++ record_tests L (take m b)) ≡ first_of (header_tests L b ++ record_tests L b)
    headers q =
        let l : length (take m b) ≡ m = length-take-le m b (omega arith) in
        by_test (unmarked b) (λ e. hit 21 _ (mark-same ∙ e) ∙ sym (hit 21 _ e)) (λ e. pass 21 _ (mark-same ∙ e) ∙
        by_test (other_version L b) (λ e. hit 22 _ (version-same ∙ e) ∙ sym (hit 22 _ e)) (λ e. pass 22 _ (version-same ∙ e) ∙
        by_test (oversize b) (λ e. hit 24 _ (size_same ∙ e) ∙ sym (hit 24 _ e)) (λ e. pass 24 _ (size_same ∙ e) ∙
        hit 20 (record_tests L (take m b)) (too_long (take m b) (size_same ∙ e) (omega arith)) ∙ sym (hit 20 (record_tests L b) (too_long b e (omega arith)))
        ∙ sym (pass 24 _ e)) ∙ sym (pass 22 _ e)) ∙ sym (pass 21 _ e))

    pub enough : refusal L (take m b) ≡ refusal L b
    enough = go (dec_lt m (length b))
      where
        go : Dec (m < length b) → refusal L (take m b) ≡ refusal L b
        go (yes q) =
            let l : length (take m b) ≡ m = length-take-le m b (omega arith) in
            not-cut L (take m b) (omega arith) ∙ headers q ∙ sym (not-cut L b (omega arith))
        go (no q) = ap (refusal L) (take_all m b (omega arith))

  -- an accepted file is not cut by that many bytes
  pub all_of_it : (b : List ℕ) (m : ℕ) → Legible L → refusal L b ≡ 0 → longest L ≤ m → take m b ≡ b
  all_of_it b m l z p =
      let k = accepted_sized L b z l refl refl refl in
      take_all m b (omega (arith, k.long, short_enough {s = schools b} {n = packages b} (omega (arith, k.items)) k.few))
