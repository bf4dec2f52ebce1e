-- The listing order [document 01: of two timetables, find the first package in precedence that only one of them has: the one that has it is listed
-- first]. `proofs/Ordered.antt` proves that every list of sets here stands in it. Assumes nothing.
use Rattle.std.specs.Prelude.{◌≡◌, true, false, List, [], ◌∷◌, ℕ, ◌<◌}
use Rattle.zdd.specs.Table.{Family, key, elem, has}

-- s is listed before t: `first` is in s and not in t, and the labels before it are in both or in neither [document 01: listed first]
pub record Earlier (K s t : List ℕ) : Type 0 where
  pub first : ℕ
  pub here : has first s ≡ true
  pub not_there : has first t ≡ false
  pub before : (q : ℕ) → key K q < key K first → has q s ≡ has q t

-- each set of F is listed before those behind it
abbrev pub Descends : List ℕ → Family → Type 0
Descends K [] = Unit {0}
Descends K (s ∷ F) = ((t : List ℕ) → elem t F ≡ true → Earlier K s t) × Descends K F
