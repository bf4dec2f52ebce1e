-- Files and what the definitions say of them, by computation: document 01's example in both versions, one file for each refusal, and some that are accepted.
-- Assumes nothing.
use mathlib.Core.Path.{◌≡◌, refl}
use mathlib.Core.List.{List, [], ◌∷◌, ◌++◌, map}
use Prim.Native.Nat.{ℕ}
use lib.ListN.{take}
use Rattle.base.specs.Lists.{any}
use Rattle.itemset.specs.Items.{without, belowb}
use Rattle.itemset.specs.Words.{width, sets_of, value_of, words_in, spread}
use Rattle.exact_cover.specs.Problem.{problem_of, up_to, done, count_from, times, each_once}
use Rattle.statement.specs.Refusals.{first_of, nothing_compulsory, disordered, check_refusal}
use Rattle.statement.specs.Refusals as engine
use Rattle.bids.specs.Bytes.{number_at, fnv_from, fnv}
use Rattle.bids.specs.Ranges.{first, some, listed}
use Rattle.bids.specs.Contents.{same_school, same_package, school_in, package_in, items_of, packages_of, costs_of, optional_of}
use Rattle.bids.specs.Contents.{stray_optional, school_twice, strayb, stray, package_twice}
use Rattle.bids.specs.Format.{version1, version2, markb, optional_slots, school_place, package_place, schools_in, packages_in, contents}
use Rattle.bids.specs.Format.{cut, unmarked, other_version, oversize, wrong_length, wrong_check, refusal}
use Rattle.bids.proofs.Engine.{LentOf}

-- S 2, T 2, schools (1,4), (2,4); (1,4) slot 0 cost 3; (1,4) slot 1 cost 1; (2,4) slot 1 cost 2; (2,4) slot 0 cost 5; (1,4) both cost 2; (2,4) none cost 9
abbrev pub example : List ℕ
example =
    80 ∷ 83 ∷ 66 ∷ 1 ∷ 0 ∷ 2 ∷ 2 ∷ 6 ∷ 0 ∷
    1 ∷ 4 ∷ 2 ∷ 4 ∷
    1 ∷ 4 ∷ 1 ∷ 0 ∷ 0 ∷ 0 ∷ 0 ∷ 0 ∷ 0 ∷ 0 ∷ 3 ∷ 0 ∷
    1 ∷ 4 ∷ 2 ∷ 0 ∷ 0 ∷ 0 ∷ 0 ∷ 0 ∷ 0 ∷ 0 ∷ 1 ∷ 0 ∷
    2 ∷ 4 ∷ 2 ∷ 0 ∷ 0 ∷ 0 ∷ 0 ∷ 0 ∷ 0 ∷ 0 ∷ 2 ∷ 0 ∷
    2 ∷ 4 ∷ 1 ∷ 0 ∷ 0 ∷ 0 ∷ 0 ∷ 0 ∷ 0 ∷ 0 ∷ 5 ∷ 0 ∷
    1 ∷ 4 ∷ 3 ∷ 0 ∷ 0 ∷ 0 ∷ 0 ∷ 0 ∷ 0 ∷ 0 ∷ 2 ∷ 0 ∷
    2 ∷ 4 ∷ 0 ∷ 0 ∷ 0 ∷ 0 ∷ 0 ∷ 0 ∷ 0 ∷ 0 ∷ 9 ∷ 0 ∷
    32 ∷ 200 ∷ 101 ∷ 61 ∷
    []

abbrev files1 : List (List ℕ)
files1 =
    -- document 01's example
    example ∷
    -- 12 bytes
    (80 ∷ 83 ∷ 66 ∷ 1 ∷ 0 ∷ 2 ∷ 2 ∷ 6 ∷ 0 ∷ 1 ∷ 4 ∷ 2 ∷ []) ∷
    -- PSC
    (80 ∷ 83 ∷ 67 ∷ 1 ∷ 0 ∷ 2 ∷ 2 ∷ 1 ∷ 0 ∷ 1 ∷ 4 ∷ 2 ∷ 4 ∷ 1 ∷ 4 ∷ 1 ∷ 0 ∷ 0 ∷ 0 ∷ 0 ∷ 0 ∷ 0 ∷ 0 ∷ 3 ∷ 0 ∷ 157 ∷ 9 ∷ 155 ∷ 49 ∷ []) ∷
    -- version 2
    (80 ∷ 83 ∷ 66 ∷ 2 ∷ 0 ∷ 2 ∷ 2 ∷ 1 ∷ 0 ∷ 1 ∷ 4 ∷ 2 ∷ 4 ∷ 1 ∷ 4 ∷ 1 ∷ 0 ∷ 0 ∷ 0 ∷ 0 ∷ 0 ∷ 0 ∷ 0 ∷ 3 ∷ 0 ∷ 97 ∷ 14 ∷ 37 ∷ 111 ∷ []) ∷
    -- S + T is 65
    (80 ∷ 83 ∷ 66 ∷ 1 ∷ 0 ∷ 2 ∷ 63 ∷ 1 ∷ 0 ∷ 1 ∷ 4 ∷ 2 ∷ 4 ∷ 1 ∷ 4 ∷ 1 ∷ 0 ∷ 0 ∷ 0 ∷ 0 ∷ 0 ∷ 0 ∷ 0 ∷ 3 ∷ 0 ∷ 65 ∷ 102 ∷ 215 ∷ 255 ∷ []) ∷
    -- one byte short
    take 88 example ∷
    -- one byte more
    (example ++ (0 ∷ [])) ∷
    -- another check
    (80 ∷ 83 ∷ 66 ∷ 1 ∷ 0 ∷ 2 ∷ 2 ∷ 1 ∷ 0 ∷ 1 ∷ 4 ∷ 2 ∷ 4 ∷ 1 ∷ 4 ∷ 1 ∷ 0 ∷ 0 ∷ 0 ∷ 0 ∷ 0 ∷ 0 ∷ 0 ∷ 3 ∷ 0 ∷ 70 ∷ 154 ∷ 211 ∷ 199 ∷ []) ∷
    -- a school twice
    (80 ∷ 83 ∷ 66 ∷ 1 ∷ 0 ∷ 2 ∷ 2 ∷ 1 ∷ 0 ∷ 1 ∷ 4 ∷ 1 ∷ 4 ∷ 1 ∷ 4 ∷ 1 ∷ 0 ∷ 0 ∷ 0 ∷ 0 ∷ 0 ∷ 0 ∷ 0 ∷ 3 ∷ 0 ∷ 245 ∷ 79 ∷ 240 ∷ 1 ∷ []) ∷
    -- a site that is not listed
    (80 ∷ 83 ∷ 66 ∷ 1 ∷ 0 ∷ 2 ∷ 2 ∷ 1 ∷ 0 ∷ 1 ∷ 4 ∷ 2 ∷ 4 ∷ 3 ∷ 4 ∷ 1 ∷ 0 ∷ 0 ∷ 0 ∷ 0 ∷ 0 ∷ 0 ∷ 0 ∷ 3 ∷ 0 ∷ 172 ∷ 3 ∷ 91 ∷ 160 ∷ []) ∷
    -- slot 2 of 2
    (80 ∷ 83 ∷ 66 ∷ 1 ∷ 0 ∷ 2 ∷ 2 ∷ 1 ∷ 0 ∷ 1 ∷ 4 ∷ 2 ∷ 4 ∷ 1 ∷ 4 ∷ 4 ∷ 0 ∷ 0 ∷ 0 ∷ 0 ∷ 0 ∷ 0 ∷ 0 ∷ 3 ∷ 0 ∷ 107 ∷ 214 ∷ 49 ∷ 88 ∷ []) ∷
    -- a package twice, at another cost
    (80 ∷ 83 ∷ 66 ∷ 1 ∷ 0 ∷ 2 ∷ 2 ∷ 2 ∷ 0 ∷ 1 ∷ 4 ∷ 2 ∷ 4 ∷ 1 ∷ 4 ∷ 1 ∷ 0 ∷ 0 ∷ 0 ∷ 0 ∷ 0 ∷ 0 ∷ 0 ∷ 3 ∷ 0 ∷ 1 ∷ 4 ∷ 1 ∷ 0 ∷ 0 ∷ 0 ∷ 0 ∷ 0 ∷ 0 ∷ 0 ∷ 7 ∷ 0 ∷ 190 ∷ 238 ∷ 238 ∷ 238 ∷ []) ∷
    -- the same number and slots at another site
    (80 ∷ 83 ∷ 66 ∷ 1 ∷ 0 ∷ 2 ∷ 2 ∷ 2 ∷ 0 ∷ 1 ∷ 4 ∷ 2 ∷ 4 ∷ 1 ∷ 4 ∷ 1 ∷ 0 ∷ 0 ∷ 0 ∷ 0 ∷ 0 ∷ 0 ∷ 0 ∷ 3 ∷ 0 ∷ 2 ∷ 4 ∷ 1 ∷ 0 ∷ 0 ∷ 0 ∷ 0 ∷ 0 ∷ 0 ∷ 0 ∷ 3 ∷ 0 ∷ 201 ∷ 227 ∷ 117 ∷ 212 ∷ []) ∷
    -- 63 slots, all taken
    (80 ∷ 83 ∷ 66 ∷ 1 ∷ 0 ∷ 1 ∷ 63 ∷ 1 ∷ 0 ∷ 0 ∷ 0 ∷ 0 ∷ 0 ∷ 255 ∷ 255 ∷ 255 ∷ 255 ∷ 255 ∷ 255 ∷ 255 ∷ 127 ∷ 255 ∷ 255 ∷ 80 ∷ 108 ∷ 214 ∷ 118 ∷ []) ∷
    -- no school, slot or package
    (80 ∷ 83 ∷ 66 ∷ 1 ∷ 0 ∷ 0 ∷ 0 ∷ 0 ∷ 0 ∷ 139 ∷ 100 ∷ 52 ∷ 241 ∷ []) ∷
    []

-- the same in version 2
abbrev pub example2 : List ℕ
example2 =
    80 ∷ 83 ∷ 66 ∷ 2 ∷ 0 ∷ 2 ∷ 2 ∷ 6 ∷ 0 ∷
    0 ∷ 0 ∷ 0 ∷ 0 ∷ 0 ∷ 0 ∷ 0 ∷ 0 ∷
    1 ∷ 0 ∷ 4 ∷
    2 ∷ 0 ∷ 4 ∷
    1 ∷ 0 ∷ 4 ∷ 1 ∷ 0 ∷ 0 ∷ 0 ∷ 0 ∷ 0 ∷ 0 ∷ 0 ∷ 3 ∷ 0 ∷
    1 ∷ 0 ∷ 4 ∷ 2 ∷ 0 ∷ 0 ∷ 0 ∷ 0 ∷ 0 ∷ 0 ∷ 0 ∷ 1 ∷ 0 ∷
    2 ∷ 0 ∷ 4 ∷ 2 ∷ 0 ∷ 0 ∷ 0 ∷ 0 ∷ 0 ∷ 0 ∷ 0 ∷ 2 ∷ 0 ∷
    2 ∷ 0 ∷ 4 ∷ 1 ∷ 0 ∷ 0 ∷ 0 ∷ 0 ∷ 0 ∷ 0 ∷ 0 ∷ 5 ∷ 0 ∷
    1 ∷ 0 ∷ 4 ∷ 3 ∷ 0 ∷ 0 ∷ 0 ∷ 0 ∷ 0 ∷ 0 ∷ 0 ∷ 2 ∷ 0 ∷
    2 ∷ 0 ∷ 4 ∷ 0 ∷ 0 ∷ 0 ∷ 0 ∷ 0 ∷ 0 ∷ 0 ∷ 0 ∷ 9 ∷ 0 ∷
    191 ∷ 199 ∷ 197 ∷ 70 ∷
    []

-- sites that agree in their low byte, and slot 1 of 2 optional
abbrev pub public : List ℕ
public =
    80 ∷ 83 ∷ 66 ∷ 2 ∷ 0 ∷ 2 ∷ 2 ∷ 2 ∷ 0 ∷
    2 ∷ 0 ∷ 0 ∷ 0 ∷ 0 ∷ 0 ∷ 0 ∷ 0 ∷
    2 ∷ 0 ∷ 4 ∷
    2 ∷ 1 ∷ 4 ∷
    2 ∷ 1 ∷ 4 ∷ 1 ∷ 0 ∷ 0 ∷ 0 ∷ 0 ∷ 0 ∷ 0 ∷ 0 ∷ 3 ∷ 0 ∷
    2 ∷ 0 ∷ 4 ∷ 3 ∷ 0 ∷ 0 ∷ 0 ∷ 0 ∷ 0 ∷ 0 ∷ 0 ∷ 5 ∷ 0 ∷
    118 ∷ 43 ∷ 123 ∷ 191 ∷
    []

abbrev files2 : List (List ℕ)
files2 =
    example2 ∷
    -- the version 1 file
    example ∷
    -- 12 bytes
    (80 ∷ 83 ∷ 66 ∷ 2 ∷ 0 ∷ 2 ∷ 2 ∷ 6 ∷ 0 ∷ 0 ∷ 0 ∷ 0 ∷ []) ∷
    -- PSC
    (80 ∷ 83 ∷ 67 ∷ 2 ∷ 0 ∷ 2 ∷ 2 ∷ 1 ∷ 0 ∷ 0 ∷ 0 ∷ 0 ∷ 0 ∷ 0 ∷ 0 ∷ 0 ∷ 0 ∷ 1 ∷ 0 ∷ 4 ∷ 2 ∷ 0 ∷ 4 ∷ 1 ∷ 0 ∷ 4 ∷ 1 ∷ 0 ∷ 0 ∷ 0 ∷ 0 ∷ 0 ∷ 0 ∷ 0 ∷ 3 ∷ 0 ∷ 18 ∷ 222 ∷ 81 ∷ 194 ∷ []) ∷
    -- version 258
    (80 ∷ 83 ∷ 66 ∷ 2 ∷ 1 ∷ 2 ∷ 2 ∷ 1 ∷ 0 ∷ 0 ∷ 0 ∷ 0 ∷ 0 ∷ 0 ∷ 0 ∷ 0 ∷ 0 ∷ 1 ∷ 0 ∷ 4 ∷ 2 ∷ 0 ∷ 4 ∷ 1 ∷ 0 ∷ 4 ∷ 1 ∷ 0 ∷ 0 ∷ 0 ∷ 0 ∷ 0 ∷ 0 ∷ 0 ∷ 3 ∷ 0 ∷ 134 ∷ 242 ∷ 45 ∷ 24 ∷ []) ∷
    -- S + T is 65
    (80 ∷ 83 ∷ 66 ∷ 2 ∷ 0 ∷ 2 ∷ 63 ∷ 1 ∷ 0 ∷ 0 ∷ 0 ∷ 0 ∷ 0 ∷ 0 ∷ 0 ∷ 0 ∷ 0 ∷ 1 ∷ 0 ∷ 4 ∷ 2 ∷ 0 ∷ 4 ∷ 1 ∷ 0 ∷ 4 ∷ 1 ∷ 0 ∷ 0 ∷ 0 ∷ 0 ∷ 0 ∷ 0 ∷ 0 ∷ 3 ∷ 0 ∷ 222 ∷ 182 ∷ 121 ∷ 12 ∷ []) ∷
    -- one byte short
    (80 ∷ 83 ∷ 66 ∷ 2 ∷ 0 ∷ 2 ∷ 2 ∷ 1 ∷ 0 ∷ 0 ∷ 0 ∷ 0 ∷ 0 ∷ 0 ∷ 0 ∷ 0 ∷ 0 ∷ 1 ∷ 0 ∷ 4 ∷ 2 ∷ 0 ∷ 4 ∷ 1 ∷ 0 ∷ 4 ∷ 1 ∷ 0 ∷ 0 ∷ 0 ∷ 0 ∷ 0 ∷ 0 ∷ 0 ∷ 3 ∷ 0 ∷ 87 ∷ 246 ∷ 21 ∷ []) ∷
    -- one byte more
    (80 ∷ 83 ∷ 66 ∷ 2 ∷ 0 ∷ 2 ∷ 2 ∷ 1 ∷ 0 ∷ 0 ∷ 0 ∷ 0 ∷ 0 ∷ 0 ∷ 0 ∷ 0 ∷ 0 ∷ 1 ∷ 0 ∷ 4 ∷ 2 ∷ 0 ∷ 4 ∷ 1 ∷ 0 ∷ 4 ∷ 1 ∷ 0 ∷ 0 ∷ 0 ∷ 0 ∷ 0 ∷ 0 ∷ 0 ∷ 3 ∷ 0 ∷ 87 ∷ 246 ∷ 21 ∷ 97 ∷ 0 ∷ []) ∷
    -- another check, and optional slot 2 of 2
    (80 ∷ 83 ∷ 66 ∷ 2 ∷ 0 ∷ 2 ∷ 2 ∷ 1 ∷ 0 ∷ 4 ∷ 0 ∷ 0 ∷ 0 ∷ 0 ∷ 0 ∷ 0 ∷ 0 ∷ 1 ∷ 0 ∷ 4 ∷ 2 ∷ 0 ∷ 4 ∷ 1 ∷ 0 ∷ 4 ∷ 1 ∷ 0 ∷ 0 ∷ 0 ∷ 0 ∷ 0 ∷ 0 ∷ 0 ∷ 3 ∷ 0 ∷ 34 ∷ 17 ∷ 167 ∷ 138 ∷ []) ∷
    -- optional slot 2 of 2, and a school twice
    (80 ∷ 83 ∷ 66 ∷ 2 ∷ 0 ∷ 2 ∷ 2 ∷ 1 ∷ 0 ∷ 4 ∷ 0 ∷ 0 ∷ 0 ∷ 0 ∷ 0 ∷ 0 ∷ 0 ∷ 1 ∷ 0 ∷ 4 ∷ 1 ∷ 0 ∷ 4 ∷ 1 ∷ 0 ∷ 4 ∷ 1 ∷ 0 ∷ 0 ∷ 0 ∷ 0 ∷ 0 ∷ 0 ∷ 0 ∷ 3 ∷ 0 ∷ 144 ∷ 128 ∷ 170 ∷ 234 ∷ []) ∷
    -- a school twice
    (80 ∷ 83 ∷ 66 ∷ 2 ∷ 0 ∷ 2 ∷ 2 ∷ 1 ∷ 0 ∷ 0 ∷ 0 ∷ 0 ∷ 0 ∷ 0 ∷ 0 ∷ 0 ∷ 0 ∷ 2 ∷ 1 ∷ 4 ∷ 2 ∷ 1 ∷ 4 ∷ 2 ∷ 1 ∷ 4 ∷ 1 ∷ 0 ∷ 0 ∷ 0 ∷ 0 ∷ 0 ∷ 0 ∷ 0 ∷ 3 ∷ 0 ∷ 12 ∷ 94 ∷ 131 ∷ 24 ∷ []) ∷
    -- a site that is another in its high byte
    (80 ∷ 83 ∷ 66 ∷ 2 ∷ 0 ∷ 2 ∷ 2 ∷ 1 ∷ 0 ∷ 0 ∷ 0 ∷ 0 ∷ 0 ∷ 0 ∷ 0 ∷ 0 ∷ 0 ∷ 1 ∷ 0 ∷ 4 ∷ 2 ∷ 1 ∷ 4 ∷ 2 ∷ 0 ∷ 4 ∷ 1 ∷ 0 ∷ 0 ∷ 0 ∷ 0 ∷ 0 ∷ 0 ∷ 0 ∷ 3 ∷ 0 ∷ 221 ∷ 101 ∷ 208 ∷ 54 ∷ []) ∷
    -- slot 2 of 2
    (80 ∷ 83 ∷ 66 ∷ 2 ∷ 0 ∷ 2 ∷ 2 ∷ 1 ∷ 0 ∷ 0 ∷ 0 ∷ 0 ∷ 0 ∷ 0 ∷ 0 ∷ 0 ∷ 0 ∷ 1 ∷ 0 ∷ 4 ∷ 2 ∷ 0 ∷ 4 ∷ 1 ∷ 0 ∷ 4 ∷ 4 ∷ 0 ∷ 0 ∷ 0 ∷ 0 ∷ 0 ∷ 0 ∷ 0 ∷ 3 ∷ 0 ∷ 234 ∷ 197 ∷ 121 ∷ 11 ∷ []) ∷
    -- a package twice, at another cost
    (80 ∷ 83 ∷ 66 ∷ 2 ∷ 0 ∷ 2 ∷ 2 ∷ 2 ∷ 0 ∷ 0 ∷ 0 ∷ 0 ∷ 0 ∷ 0 ∷ 0 ∷ 0 ∷ 0 ∷ 1 ∷ 0 ∷ 4 ∷ 2 ∷ 0 ∷ 4 ∷ 1 ∷ 0 ∷ 4 ∷ 1 ∷ 0 ∷ 0 ∷ 0 ∷ 0 ∷ 0 ∷ 0 ∷ 0 ∷ 3 ∷ 0 ∷ 1 ∷ 0 ∷ 4 ∷ 1 ∷ 0 ∷ 0 ∷ 0 ∷ 0 ∷ 0 ∷ 0 ∷ 0 ∷ 7 ∷ 0 ∷ 243 ∷ 195 ∷ 220 ∷ 196 ∷ []) ∷
    -- sites that agree in their low byte, and an optional slot
    public ∷
    -- no school, slot or package
    (80 ∷ 83 ∷ 66 ∷ 2 ∷ 0 ∷ 0 ∷ 0 ∷ 0 ∷ 0 ∷ 0 ∷ 0 ∷ 0 ∷ 0 ∷ 0 ∷ 0 ∷ 0 ∷ 0 ∷ 160 ∷ 112 ∷ 97 ∷ 151 ∷ []) ∷
    []

refusals : (map (refusal version1) files1 ≡ (0 ∷ 20 ∷ 21 ∷ 22 ∷ 24 ∷ 20 ∷ 20 ∷ 23 ∷ 25 ∷ 26 ∷ 26 ∷ 27 ∷ 0 ∷ 0 ∷ 0 ∷ []))
    × (map (refusal version2) files2 ≡ (0 ∷ 22 ∷ 20 ∷ 21 ∷ 22 ∷ 24 ∷ 20 ∷ 20 ∷ 23 ∷ 31 ∷ 25 ∷ 26 ∷ 26 ∷ 27 ∷ 0 ∷ 0 ∷ []))
unfolding belowb first_of number_at fnv_from fnv first some listed
    same_school same_package school_in package_in stray_optional school_twice strayb stray package_twice
    markb optional_slots school_place package_place schools_in packages_in cut unmarked other_version oversize wrong_length wrong_check refusal
refusals = (refl, refl)

-- both versions of the example say the same
example-read : (packages_of (contents version1 example) ≡ (5 ∷ 9 ∷ 10 ∷ 6 ∷ 13 ∷ 2 ∷ [])) × (costs_of (contents version1 example) ≡ (3 ∷ 1 ∷ 2 ∷ 5 ∷ 2 ∷ 9 ∷ []))
    × (contents version2 example2 ≡ contents version1 example)
unfolding number_at first listed same_school school_in items_of packages_of costs_of optional_slots school_place package_place schools_in packages_in
example-read = (refl, refl, refl)

-- sites (2,4) and (258,4), slot 1 optional: packages {1, 2} and {0, 2, 3}, optional item 3
optional-read : (packages_of (contents version2 public) ≡ (6 ∷ 13 ∷ [])) × (costs_of (contents version2 public) ≡ (3 ∷ 5 ∷ [])) × (optional_of (contents version2 public) ≡ 8)
unfolding number_at first listed same_school school_in items_of packages_of costs_of optional_of optional_slots school_place package_place schools_in packages_in
optional-read = (refl, refl, refl)

-- three words a package, lowest first
example_words : spread 3 (take 2 (packages_of (contents version1 example))) ≡ (5 ∷ 0 ∷ 0 ∷ 9 ∷ 0 ∷ 0 ∷ [])
unfolding number_at first listed same_school school_in items_of packages_of school_place package_place schools_in packages_in words_in spread
example_words = refl

-- ---- what the engine is lent of a file, and says

-- the words of the packages of `public`
abbrev public_words : List ℕ
public_words = 6 ∷ 0 ∷ 0 ∷ 13 ∷ 0 ∷ 0 ∷ []

public-lent : LentOf version2 public 4 public_words 8
unfolding belowb first_of number_at fnv_from fnv first some listed
    same_school same_package school_in package_in items_of packages_of optional_of stray_optional school_twice strayb stray package_twice
    markb optional_slots school_place package_place schools_in packages_in cut unmarked other_version oversize wrong_length wrong_check refusal sets_of value_of
public-lent = record { accepted = refl; items = refl; packages = refl; optional = refl }

-- of other weeks than the file's the check does say these numbers, on any table: in an order that repeats an item; with all items optional, with one that there is
-- not, with an item less
others-refused : (t : List ℕ)
    → (check_refusal (problem_of public_words 8 (0 ∷ 1 ∷ 2 ∷ 2 ∷ [])) 4 t ≡ 34) × (check_refusal (problem_of public_words 15 (up_to 4)) 4 t ≡ 30)
    × (check_refusal (problem_of public_words 24 (up_to 4)) 4 t ≡ 29) × (check_refusal (problem_of public_words 8 (up_to 3)) 3 t ≡ 2)
unfolding width sets_of value_of without belowb any done count_from times each_once first_of
    engine.oversize engine.stray engine.stray_optional nothing_compulsory disordered check_refusal
others-refused t = (refl, refl, refl, refl)
