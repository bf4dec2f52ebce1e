-- What the questions ask of one family. A family is a list of timetables in listing order, each once, so its count is its length and its k-th
-- timetable stands at k. Assumes nothing.
use Rattle.std.specs.Prelude.{Bool, true, false, not, ◌&&◌, ◌||◌, List, [], ◌∷◌, ℕ, suc, ◌+◌, leb, ltb, length, get_or}
use Rattle.zdd.specs.Table.{Family, nodes_of, family, eq_set, filter, key, has}

-- the timetables that number a holds in the table t
abbrev pub family_at : List ℕ → ℕ → Family
family_at t a = family (nodes_of t) a

-- the k-th timetable, from 0 [document 01: pick k]
abbrev pub nth : Family → ℕ → List ℕ
nth F k = get_or F k []

-- where the timetable s stands in F, from 0 [document 01: place]
unfoldable pub position : List ℕ → Family → ℕ
position s [] = 0
position s (t ∷ F) = elim (eq_set s t) [ true ↦ 0 | false ↦ suc (position s F) ]

-- ---- the first listed of those that measure least, by v

-- no timetable of F measures less than x
unfoldable pub none_below : (List ℕ → ℕ) → ℕ → Family → Bool
none_below v x [] = true
none_below v x (t ∷ F) = leb x (v t) && none_below v x F

-- of the timetables of F that no other undercuts, the first listed
unfoldable pub least : (List ℕ → ℕ) → Family → List ℕ
least v F = get_or (filter (λ t. none_below v (v t) F) F) 0 []

-- the cost of a timetable: C has the cost of each package
unfoldable pub cost : List ℕ → List ℕ → ℕ
cost C [] = 0
cost C (p ∷ t) = get_or C p 0 + cost C t

-- by cost [document 01: cheapest]
abbrev pub cheapest : List ℕ → Family → List ℕ
cheapest C F = least (cost C) F

-- how many packages of s are not in t
unfoldable pub lacking : List ℕ → List ℕ → ℕ
lacking t s = length (filter (λ p. not (has p t)) s)

-- in how many packages s and t differ: those in one but not in the other [document 02, No. 9]
unfoldable pub difference : List ℕ → List ℕ → ℕ
difference s t = lacking t s + lacking s t

-- by the difference from s [document 02, No. 9: closest]
abbrev pub closest : List ℕ → Family → List ℕ
closest s F = least (difference s) F

-- ---- document 01's refusal 6. S has an entry for each package, and K a key

-- p is no package: N or more
unfoldable pub unknown_package : List ℕ → ℕ → Bool
unknown_package S p = leb (length S) p

-- some package of the list is none
unfoldable pub any_unknown : List ℕ → List ℕ → Bool
any_unknown S [] = false
any_unknown S (p ∷ s) = unknown_package S p || any_unknown S s

-- each comes before the next
unfoldable pub ascending : List ℕ → List ℕ → Bool
ascending K [] = true
ascending K (p ∷ []) = true
ascending K (p ∷ q ∷ s) = ltb (key K p) (key K q) && ascending K (q ∷ s)

-- each package is known and comes before the next
unfoldable pub in_precedence : List ℕ → List ℕ → Bool
in_precedence K s = not (any_unknown K s || not (ascending K s))
