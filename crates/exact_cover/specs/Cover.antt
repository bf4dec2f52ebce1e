-- Exact cover with optional items, over a problem Q: Knuth's exact covers with secondary items (The Art of Computer Programming, 7.2.2.1), where the
-- compulsory items are the primary ones. With no optional item it is document 000's exact cover (`proofs/NoneOptional`). A timetable is a set of
-- packages, written as the list of their numbers in precedence; a family is a list of timetables (`zdd`). Assumes nothing.
use Rattle.std.specs.Prelude.{Bool, true, false, not, ◌&&◌, ◌||◌, List, [], ◌∷◌, ◌⊎◌, ◌≡◌, ℕ, zero, suc, ◌+◌, ◌*◌, ◌<◌, eqb, leb, length, take}
use Rattle.itemset.specs.Items.{holds, insideb}
use Rattle.itemset.specs.Words.{width}
use Rattle.zdd.specs.Table.{Family, filter, sets}
use Rattle.exact_cover.specs.Problem.{Problem, row, lead, leader}

-- ---- precedence

-- package p comes before q: its earliest compulsory item comes earlier in the order, or these are equal and p is lower [document 01: precedence; document 02,
-- No. 1 and 4]. An item is known here by its position (`lead`)
abbrev pub Before : Problem → ℕ → ℕ → Type 0
Before Q p q = (lead Q (row Q p) < lead Q (row Q q)) ⊎ ((lead Q (row Q p) ≡ lead Q (row Q q)) × (p < q))

-- the keys of packages whose numbers start at n: position of the earliest compulsory item × 512 + number. Numbers are below 512, so the order of the keys is
-- `Before` (`proofs/Order.antt`, `key_before`); `zdd` knows packages by their keys only
unfoldable pub keys_from : Problem → ℕ → List ℕ → List ℕ
keys_from Q n [] = []
keys_from Q n (x ∷ xs) = (lead Q x * 512 + n) ∷ keys_from Q (suc n) xs

unfoldable pub keys_of : Problem → List ℕ
keys_of Q = keys_from Q 0 Q.packages

-- an array of 512 words that begins with the packages' keys
pub record Keyed (Q : Problem) (keys : List ℕ) : Type 0 where
  pub long : length keys ≡ 512
  pub are : take (length Q.packages) keys ≡ keys_of Q

-- ---- which timetables cover the items of D

-- how many packages of t hold item i
unfoldable pub holders : Problem → ℕ → List ℕ → ℕ
holders Q i [] = 0
holders Q i (p ∷ t) = elim (holds i (row Q p)) [ true ↦ suc (holders Q i t) | false ↦ holders Q i t ]

-- every package of t lies inside D
unfoldable pub all_inside : Problem → ℕ → List ℕ → Bool
all_inside Q D [] = true
all_inside Q D (p ∷ t) = insideb (row Q p) D && all_inside Q D t

-- item i may be in n packages of a timetable: a compulsory item in just one, an optional one in at most one
unfoldable pub takes : Problem → ℕ → ℕ → Bool
takes Q i n = elim (holds i Q.optional) [ true ↦ leb n 1 | false ↦ eqb n 1 ]

-- every item of D below k is in as many packages of t as it takes
unfoldable pub once : Problem → ℕ → ℕ → List ℕ → Bool
once Q zero D t = true
once Q (suc i) D t = (not (holds i D) || takes Q i (holders Q i t)) && once Q i D t

-- each package of t lies inside D, each compulsory item of D is in just one of them and each optional item in at most one [document 02, No. 1: covers]
unfoldable pub covers : Problem → ℕ → List ℕ → Bool
covers Q D t = all_inside Q D t && once Q width D t

-- the timetables that cover D, in listing order
unfoldable pub covering : Problem → ℕ → Family
covering Q D = filter (covers Q D) (sets (keys_of Q))

-- ---- the candidates

-- p holds the item at which the search of A goes on, and lies inside A
unfoldable pub fits : Problem → ℕ → ℕ → Bool
fits Q A p = holds (leader Q A) (row Q p) && insideb (row Q p) A

-- n-1 .. 0
unfoldable pub down : ℕ → List ℕ
down zero = []
down (suc n) = n ∷ down n

-- the packages that Search tries, highest number first
unfoldable pub candidates : Problem → ℕ → List ℕ
candidates Q A = filter (fits Q A) (down (length Q.packages))
