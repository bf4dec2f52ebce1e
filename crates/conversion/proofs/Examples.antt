-- Conversions by computation: document 01's example both ways, and a file for each refusal of the converters. Assumes nothing.
use mathlib.Core.Path.{◌≡◌, refl}
use mathlib.Core.List.{List, [], ◌∷◌}
use Prim.Native.Nat.{ℕ}
use Rattle.itemset.specs.Items.{belowb}
use Rattle.statement.specs.Refusals.{first_of}
use Rattle.bids.specs.Bytes.{number_at, bytes_of, fnv_from, fnv}
use Rattle.bids.specs.Ranges.{first, some, listed}
use Rattle.bids.specs.Contents.{same_school, same_package, school_in, package_in}
use Rattle.bids.specs.Contents.{stray_optional, school_twice, strayb, stray, package_twice}
use Rattle.bids.specs.Format.{version1, version2, markb, optional_slots, school_place, package_place, schools_in, packages_in, contents}
use Rattle.bids.specs.Format.{cut, unmarked, other_version, oversize, wrong_length, wrong_check, refusal}
use Rattle.bids.proofs.Examples.{example, example2}
use Rattle.conversion.specs.Writing.{header_bytes, school_bytes, package_bytes, joined, body_of, file_of}
use Rattle.conversion.specs.Contract.{wide_site, optional_present, convert_refusal}

-- slot 1 of 2 optional
abbrev optional : List ℕ
optional = 80 ∷ 83 ∷ 66 ∷ 2 ∷ 0 ∷ 2 ∷ 2 ∷ 1 ∷ 0 ∷ 2 ∷ 0 ∷ 0 ∷ 0 ∷ 0 ∷ 0 ∷ 0 ∷ 0 ∷ 1 ∷ 0 ∷ 4 ∷ 2 ∷ 0 ∷ 4 ∷ 1 ∷ 0 ∷ 4 ∷ 1 ∷ 0 ∷ 0 ∷ 0 ∷ 0 ∷ 0 ∷ 0 ∷ 0 ∷ 3 ∷ 0 ∷ 189 ∷ 119 ∷ 225 ∷ 86 ∷ []

-- a school of site 300 without packages
abbrev wide : List ℕ
wide = 80 ∷ 83 ∷ 66 ∷ 2 ∷ 0 ∷ 2 ∷ 2 ∷ 1 ∷ 0 ∷ 0 ∷ 0 ∷ 0 ∷ 0 ∷ 0 ∷ 0 ∷ 0 ∷ 0 ∷ 1 ∷ 0 ∷ 4 ∷ 44 ∷ 1 ∷ 4 ∷ 1 ∷ 0 ∷ 4 ∷ 1 ∷ 0 ∷ 0 ∷ 0 ∷ 0 ∷ 0 ∷ 0 ∷ 0 ∷ 3 ∷ 0 ∷ 78 ∷ 67 ∷ 28 ∷ 235 ∷ []

-- both
abbrev both : List ℕ
both = 80 ∷ 83 ∷ 66 ∷ 2 ∷ 0 ∷ 2 ∷ 2 ∷ 1 ∷ 0 ∷ 2 ∷ 0 ∷ 0 ∷ 0 ∷ 0 ∷ 0 ∷ 0 ∷ 0 ∷ 1 ∷ 0 ∷ 4 ∷ 44 ∷ 1 ∷ 4 ∷ 1 ∷ 0 ∷ 4 ∷ 1 ∷ 0 ∷ 0 ∷ 0 ∷ 0 ∷ 0 ∷ 0 ∷ 0 ∷ 3 ∷ 0 ∷ 184 ∷ 60 ∷ 245 ∷ 233 ∷ []

example-there : file_of version2 (contents version1 example) ≡ example2
unfolding number_at bytes_of fnv_from fnv listed optional_slots school_place package_place schools_in packages_in header_bytes school_bytes package_bytes joined body_of file_of
example-there = refl

example-back : file_of version1 (contents version2 example2) ≡ example
unfolding number_at bytes_of fnv_from fnv listed optional_slots school_place package_place schools_in packages_in header_bytes school_bytes package_bytes joined body_of file_of
example-back = refl

abbrev up : List ℕ → ℕ → ℕ
up b room = convert_refusal version1 version2 b room

abbrev down : List ℕ → ℕ → ℕ
down b room = convert_refusal version2 version1 b room

-- just room enough, a byte less; the other version; 32, 33, 32 before 33, and each before 15
refusals : (up example 105 ∷ up example 104 ∷ up example2 105 ∷ down example2 89 ∷ down example2 88 ∷ down example 89
    ∷ down wide 100 ∷ down optional 100 ∷ down both 100 ∷ down wide 0 ∷ down optional 0 ∷ [])
    ≡ (0 ∷ 15 ∷ 22 ∷ 0 ∷ 15 ∷ 22 ∷ 32 ∷ 33 ∷ 32 ∷ 32 ∷ 33 ∷ [])
unfolding belowb first_of number_at bytes_of fnv_from fnv first some listed
    same_school same_package school_in package_in stray_optional school_twice strayb stray package_twice
    markb optional_slots school_place package_place schools_in packages_in cut unmarked other_version oversize wrong_length wrong_check refusal
    header_bytes school_bytes package_bytes joined body_of file_of wide_site optional_present convert_refusal
refusals = refl
