-- What a call is lent besides its table: a problem. A set of items is a number (`itemset`); a package is named by its number p, its place in the
-- list. M is no part of it: it is each call's own, and a call that is not refused has as many items as its order. Assumes nothing.
use Rattle.std.specs.Prelude.{◌≡◌, Bool, true, false, ◌&&◌, List, [], ◌∷◌, ℕ, zero, suc, ◌^◌, ◌≤◌, ◌<◌, eqb, length, get_or}
use Rattle.itemset.specs.Items.{holds, without}
use Rattle.itemset.specs.Words.{width, sets_of}

pub record Problem : Type 0 where
  -- the item sets of the packages [document 01: packages, N of them]
  pub packages : List ℕ
  -- the items that need not be covered; every other is compulsory [document 02, No. 1]. They are Knuth's secondary items
  pub optional : ℕ
  -- the items, those that come first in front [document 02, No. 4: the lent order]
  pub order : List ℕ

-- the problem of what a call is lent: the words of the packages, three a package, lowest first (N is their number divided by three, rounded down), the
-- optional set and the order
abbrev pub problem_of : List ℕ → ℕ → List ℕ → Problem
problem_of words optional order = record { packages = sets_of words; optional = optional; order = order }

-- the items of package p
abbrev pub row : Problem → ℕ → ℕ
row Q p = get_or Q.packages p 0

-- the compulsory items of A
abbrev pub compulsory : Problem → ℕ → ℕ
compulsory Q A = without A Q.optional

-- ---- the order

-- how many items it has
abbrev pub span : Problem → ℕ
span Q = length Q.order

-- the item at position j
abbrev pub item_at : Problem → ℕ → ℕ
item_at Q j = get_or Q.order j 0

-- the position, in a list of items, of the first that A has: the earliest; the list's length where A has none
unfoldable pub earliest : List ℕ → ℕ → ℕ
earliest [] A = zero
earliest (i ∷ is) A = elim (holds i A) [ true ↦ zero | false ↦ suc (earliest is A) ]

-- how many times item i is in a list
unfoldable pub times : ℕ → List ℕ → ℕ
times i [] = zero
times i (k ∷ ks) = elim (eqb k i) [ true ↦ suc (times i ks) | false ↦ times i ks ]

-- each item below m is in it just once
unfoldable pub each_once : ℕ → List ℕ → Bool
each_once zero ks = true
each_once (suc i) ks = eqb (times i ks) 1 && each_once i ks

-- 0 .. n - 1, the plain order of n items: those from k on, and from 0
unfoldable pub count_from : ℕ → ℕ → List ℕ
count_from k zero = []
count_from k (suc n) = k ∷ count_from (suc k) n

abbrev pub up_to : ℕ → List ℕ
up_to n = count_from 0 n

-- ---- the search

-- the position at which the search of A goes on: that of A's earliest compulsory item [document 02, No. 4: "lowest" is earliest in the lent order]
unfoldable pub lead : Problem → ℕ → ℕ
lead Q A = earliest Q.order (compulsory Q A)

-- that item
abbrev pub leader : Problem → ℕ → ℕ
leader Q A = item_at Q (lead Q A)

-- nothing of A is left that must be covered: A has no compulsory item
unfoldable pub done : Problem → ℕ → Bool
done Q A = eqb (compulsory Q A) 0

-- what a problem must be for its covers to be searched
pub record Rows (Q : Problem) : Type 0 where
  -- at most 512 packages, and each has a compulsory item
  pub some : (p : ℕ) → p < length Q.packages → done Q (row Q p) ≡ false
  pub few : length Q.packages ≤ 512
  -- the order has each item just once, and packages and optional set have no others
  pub ordered : each_once (span Q) Q.order ≡ true
  pub narrow : span Q ≤ width
  pub inside : (p : ℕ) → p < length Q.packages → row Q p < 2 ^ span Q
  pub known : Q.optional < 2 ^ span Q
