-- How many times Search is entered [document 01: steps], by the text of "Search". It is a function of the item sets and the order alone: neither the nodes
-- nor the table's room play a part. Search is written over the memo's places as any function h of the set; `steps` has document 01's. Assumes nothing.
use Rattle.std.specs.Prelude.{Bool, true, false, ◌||◌, List, [], ◌∷◌, ℕ, zero, suc, ◌%◌, eqb, get_or, set, replicate}
use Rattle.itemset.specs.Items.{without, size}
use Rattle.exact_cover.specs.Problem.{Problem, row, done}
use Rattle.exact_cover.specs.Cover.{candidates}

-- the number of entries so far, and the memo's keys: 0 where a place is empty
pub record Walk : Type 0 where
  pub entered : ℕ
  pub memo : List ℕ

abbrev pub enter : Walk → Walk
enter w = record { entered = suc w.entered; memo = w.memo }

-- A's place in a memo of P places, by the item set whatever the order
abbrev pub place_in : ℕ → ℕ → ℕ
place_in P A = A % P

-- A goes to its place; a newer entry replaces an older one
abbrev pub store : (ℕ → ℕ) → ℕ → Walk → Walk
store h A w = record { entered = w.entered; memo = set w.memo (h A) A }

-- nothing is left to search: A has no compulsory item, or the memo holds A. The memo goes by all items left, the optional ones too
abbrev pub known : Problem → (ℕ → ℕ) → ℕ → Walk → Bool
known Q h A w = done Q A || eqb (get_or w.memo (h A) 0) A

-- f for each package of a list, one after the other
unfoldable pub each : (ℕ → Walk → Walk) → List ℕ → Walk → Walk
each f [] w = w
each f (p ∷ ps) w = each f ps (f p w)

-- Search of A: each entry counts; where A is done or in the memo that is all; otherwise each package that holds A's earliest compulsory item and lies inside
-- A, highest number first, has A without it searched, and then A goes into the memo. The first argument bounds the depth, and the size of A is enough
unfoldable pub visit : ℕ → Problem → (ℕ → ℕ) → ℕ → Walk → Walk
visit zero Q h A w = enter w
visit (suc d) Q h A w =
    elim (known Q h A w) [
      | true ↦ enter w
      | false ↦ store h A (each (λ (p : ℕ). visit d Q h (without A (row Q p))) (candidates Q A) (enter w))
    ]

-- the steps of cover A with a memo of P places, empty at the start
unfoldable pub steps : Problem → ℕ → ℕ → ℕ
steps Q P A = (visit (size A) Q (place_in P) A (record { entered = 0; memo = replicate P 0 })).entered

-- Search of A, with enough fuel
unfoldable pub search : Problem → (ℕ → ℕ) → ℕ → Walk → Walk
search Q h A w = visit (size A) Q h A w
