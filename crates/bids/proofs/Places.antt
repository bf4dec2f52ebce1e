-- Where records start, by what the loops ask: the next place, and that no record goes past the last. A width times a number of records is taken as one
-- number, `school_place` and `package_place`, by these laws. Assumes nothing.
use mathlib.Core.Path.{◌≡◌}
use Prim.Native.Nat.{ℕ, ◌+◌, ◌*◌, ◌<◌, ◌≤◌}
use native.Mathlib.Nat.{mul-le-mul_left, mul-le-mul, mul-add, mul-suc, mul-zero}
use native.Mathlib.Omega.{arith}
use Rattle.bids.specs.Format.{school_place, package_place, version1, version2}
use Rattle.bids.specs.Contract.{Legible}
use Rattle.bids.specs.declared.Layout.{Layout}

pub legible1 : Legible version1
legible1 = record { header = (omega arith, omega arith); site = (omega arith, omega arith) }

pub legible2 : Legible version2
legible2 = record { header = (omega arith, omega arith); site = (omega arith, omega arith) }

module _ (L : Layout) where
  pub school_first : school_place L 0 ≡ L.header
  unfolding school_place
  school_first = omega (arith, mul-zero (L.site + 1))

  pub school_next : (j : ℕ) → school_place L (j + 1) ≡ school_place L j + (L.site + 1)
  unfolding school_place
  school_next j = omega (arith, mul-add (L.site + 1) j 1)

  pub school_inside : {j n : ℕ} → j < n → school_place L j + (L.site + 1) ≤ school_place L n
  unfolding school_place
  school_inside {j} p = omega (arith, mul-le-mul_left (L.site + 1) p, mul-suc (L.site + 1) j)

  pub package_first : (s : ℕ) → package_place L s 0 ≡ school_place L s
  unfolding package_place
  package_first s = omega (arith, mul-zero (L.site + 11))

  pub package_next : (s k : ℕ) → package_place L s (k + 1) ≡ package_place L s k + (L.site + 11)
  unfolding package_place
  package_next s k = omega (arith, mul-add (L.site + 11) k 1)

  pub package_inside : (s : ℕ) {k n : ℕ} → k < n → package_place L s k + (L.site + 11) ≤ package_place L s n
  unfolding package_place
  package_inside s {k} p = omega (arith, mul-le-mul_left (L.site + 11) p, mul-suc (L.site + 11) k)

  -- the schools stand before the packages
  pub school_before : (s n : ℕ) → school_place L s ≤ package_place L s n
  unfolding package_place
  school_before s n = omega arith

  pub header_before : (s : ℕ) → L.header ≤ school_place L s
  unfolding school_place
  header_before s = omega arith

  -- the products are small
  pub few_schools : {s m : ℕ} → Legible L → s ≤ m → (L.site + 1) * s ≤ 3 * m
  few_schools l p = mul-le-mul (omega (arith, l.site)) p

  pub few_packages : {n m : ℕ} → Legible L → n ≤ m → (L.site + 11) * n ≤ 13 * m
  few_packages l p = mul-le-mul (omega (arith, l.site)) p
