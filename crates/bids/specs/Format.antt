-- The bids file (document 01; version 2: document 02, No. 2): PSB in ASCII, version (16 bits), S schools (8 bits), T slots (8 bits), N (16 bits), in version 2
-- the set of optional slots (64 bits); S records of site (8 bits, in version 2 16) and number (8 bits); N records of site, number, slot set (64 bits), cost
-- (16 bits); a 32-bit check. One layout, in which the versions differ by three numbers. b is the list of the file's bytes. Assumes nothing.
use Rattle.std.specs.Prelude.{Bool, not, ◌&&◌, ◌||◌, List, [], ◌∷◌, ◌++◌, ℕ, ◌+◌, ◌-◌, ◌*◌, eqb, ltb, length, take}
use Rattle.statement.specs.Refusals.{first_of}
use Rattle.bids.specs.Bytes.{byte_at, number_at, fnv}
use Rattle.bids.specs.Ranges.{listed}
use Rattle.bids.specs.Contents.{Contents, stray_optional, school_twice, stray, package_twice}
use Rattle.bids.specs.declared.Layout.{Layout}
use Rattle.bids.specs.declared.School.{School}
use Rattle.bids.specs.declared.Package.{Package}

-- ---- the layouts: the version's number, how many bytes stand before the first school's record, and how many a site has

abbrev pub version1 : Layout
version1 = record { version = 1; header = 9; site = 1 }

abbrev pub version2 : Layout
version2 = record { version = 2; header = 17; site = 2 }

-- ---- the header

-- the file starts with P, S, B
unfoldable pub markb : List ℕ → Bool
markb b = eqb (byte_at b 0) 80 && (eqb (byte_at b 1) 83 && eqb (byte_at b 2) 66)

abbrev pub version : List ℕ → ℕ
version b = number_at b 3 2

-- S, T and N
abbrev pub schools : List ℕ → ℕ
schools b = byte_at b 5

abbrev pub slots : List ℕ → ℕ
slots b = byte_at b 6

abbrev pub packages : List ℕ → ℕ
packages b = number_at b 7 2

-- the set of optional slots is the number between N and the first school; where no byte stands there, as in version 1, it is 0, the empty set
unfoldable pub optional_slots : Layout → List ℕ → ℕ
optional_slots L b = number_at b 9 (L.header - 9)

-- ---- the records, in a file of s schools

-- where the record of school j starts, and that of package k
unfoldable pub school_place : Layout → ℕ → ℕ
school_place L j = L.header + (L.site + 1) * j

unfoldable pub package_place : Layout → ℕ → ℕ → ℕ
package_place L s k = school_place L s + (L.site + 11) * k

-- the length of a file of s schools and n packages: 13 + 2 s + 12 n in version 1, 21 + 3 s + 13 n in version 2
abbrev pub file_length : Layout → ℕ → ℕ → ℕ
file_length L s n = package_place L s n + 4

-- the school of the record that starts at i, and the package
abbrev pub school_at : Layout → List ℕ → ℕ → School
school_at L b i = record { site = number_at b i L.site; number = byte_at b (i + L.site) }

abbrev pub package_at : Layout → List ℕ → ℕ → Package
package_at L b i = record { school = school_at L b i; slots = number_at b (i + L.site + 1) 8; cost = number_at b (i + L.site + 9) 2 }

-- ---- what the file says

unfoldable pub schools_in : Layout → List ℕ → List School
schools_in L b = listed (λ j. school_at L b (school_place L j)) (schools b)

unfoldable pub packages_in : Layout → List ℕ → List Package
packages_in L b = listed (λ k. package_at L b (package_place L (schools b) k)) (packages b)

abbrev pub contents : Layout → List ℕ → Contents
contents L b = record { slots = slots b; optional = optional_slots L b; schools = schools_in L b; packages = packages_in L b }

-- ---- refusals

-- 20 cut: under 13 bytes
unfoldable pub cut : List ℕ → Bool
cut b = ltb (length b) 13

-- 21 mark: the file does not start with PSB
unfoldable pub unmarked : List ℕ → Bool
unmarked b = not (markb b)

-- 22 version: another version than the layout's
unfoldable pub other_version : Layout → List ℕ → Bool
other_version L b = not (eqb (version b) L.version)

-- 24 size: S + T above 64 or N above 512
unfoldable pub oversize : List ℕ → Bool
oversize b = ltb 64 (schools b + slots b) || ltb 512 (packages b)

-- 20 again: the length is not that of S schools and N packages
unfoldable pub wrong_length : Layout → List ℕ → Bool
wrong_length L b = not (eqb (length b) (file_length L (schools b) (packages b)))

-- 23 check: the last four bytes are not the check of those before
unfoldable pub wrong_check : List ℕ → Bool
wrong_check b = not (eqb (fnv (take (length b - 4) b)) (number_at b (length b - 4) 4))

-- the tests of the header
abbrev pub header_tests : Layout → List ℕ → List (Bool × ℕ)
header_tests L b =
    (unmarked b, 21) ∷
    (other_version L b, 22) ∷
    (oversize b, 24) ∷
    (wrong_length L b, 20) ∷
    []

-- the tests of what the file says. No version 1 file is 31, since it has no optional slot. There was a 28, for files that the engine would refuse: there are
-- none (proofs/Engine), and its number is not used again [document 02, No. 12]
abbrev pub content_tests : Contents → List (Bool × ℕ)
content_tests x =
    (stray_optional x, 31) ∷
    (school_twice x.schools, 25) ∷
    (stray x, 26) ∷
    (package_twice x.packages, 27) ∷
    []

-- the tests behind the header's
abbrev pub record_tests : Layout → List ℕ → List (Bool × ℕ)
record_tests L b = (wrong_check b, 23) ∷ content_tests (contents L b)

-- the number of the first test that holds, in the documents' order; 0: the file is accepted as one of this version
unfoldable pub refusal : Layout → List ℕ → ℕ
refusal L b = first_of ((cut b, 20) ∷ (header_tests L b ++ record_tests L b))
