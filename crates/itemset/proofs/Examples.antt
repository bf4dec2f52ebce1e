-- Worked examples of the definitions at 64-bit numbers, by computation. Assumes nothing.
use mathlib.Core.Path.{◌≡◌, refl}
use mathlib.Core.Bool.{true, false}
use mathlib.Core.List.{[], ◌∷◌}
use Prim.Native.Nat.{◌+◌, ◌-◌, ◌^◌}
use Rattle.itemset.specs.Items.{holds, insideb, without, belowb, size, lowest}
use Rattle.itemset.specs.Words.{value_of, sets_of}

holds-top : holds 63 (2 ^ 63 + 5) ≡ true
unfolding holds
holds-top = refl

holds_not : holds 1 (2 ^ 63 + 5) ≡ false
unfolding holds
holds_not = refl

inside_yes : insideb (2 ^ 63 + 4) (2 ^ 63 + 5) ≡ true
unfolding insideb
inside_yes = refl

inside_no : insideb (2 ^ 62) (2 ^ 63 + 5) ≡ false
unfolding insideb
inside_no = refl

without-some : without (2 ^ 64 - 1) (2 ^ 63 + 5) ≡ 2 ^ 63 - 6
unfolding without
without-some = refl

-- p need not be inside a
without_more : without 6 12 ≡ 2
unfolding without
without_more = refl

below_no : belowb (2 ^ 63) 63 ≡ false
unfolding belowb
below_no = refl

size-all : size (2 ^ 64 - 1) ≡ 64
unfolding size
size-all = refl

size-wide : size (2 ^ 191 + 2 ^ 64 + 1) ≡ 3
unfolding size
size-wide = refl

lowest-top : lowest (2 ^ 63) ≡ 63
unfolding lowest
lowest-top = refl

lowest-wide : lowest (2 ^ 191 + 2 ^ 150) ≡ 150
unfolding lowest
lowest-wide = refl

value-of_three : value_of (5 ∷ 0 ∷ 2 ^ 63 ∷ []) ≡ 2 ^ 191 + 5
unfolding value_of
value-of_three = refl

-- seven words are two packages
rows_of_seven : sets_of (1 ∷ 0 ∷ 0 ∷ 0 ∷ 1 ∷ 0 ∷ 9 ∷ []) ≡ 1 ∷ 2 ^ 64 ∷ []
unfolding value_of sets_of
rows_of_seven = refl
