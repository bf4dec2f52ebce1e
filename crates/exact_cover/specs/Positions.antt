-- A problem in the positions of its order: the fast form, in which "earliest" is lowest again. Packages, optional set and the set to cover are permuted, and the
-- order is plain. `proofs/Permuted` says that keys, covers and steps are those of the problem itself. Assumes nothing.
use Rattle.std.specs.Prelude.{◌≡◌, Bool, true, false, ◌&&◌, List, [], ◌∷◌, map, ℕ, zero, suc, ◌+◌, ◌*◌, ◌-◌, ◌%◌, ◌<◌, ◌≤◌, eqb, length, get_or}
use Rattle.itemset.specs.Items.{holds, insideb, without}
use Rattle.itemset.specs.Words.{width}
use Rattle.exact_cover.specs.Problem.{Problem, row, each_once, up_to}

-- the positions, in a list of items, of those that A has, as a set
unfoldable pub positions : List ℕ → ℕ → ℕ
positions [] A = zero
positions (i ∷ is) A = elim (holds i A) [ true ↦ 1 | false ↦ 0 ] + 2 * positions is A

-- packages and an optional set in the plain order of all items that there can be
abbrev pub in_plain_order : List ℕ → ℕ → Problem
in_plain_order packages optional = record { packages = packages; optional = optional; order = up_to width }

abbrev pub permuted : Problem → Problem
permuted Q = in_plain_order (map (positions Q.order) Q.packages) (positions Q.order Q.optional)

-- ---- how the code finds them

-- the list is k, k + 1, .. to its end
unfoldable pub plain_from : ℕ → List ℕ → Bool
plain_from k [] = true
plain_from k (i ∷ is) = eqb i k && plain_from (suc k) is

-- the order is plain
abbrev pub plainb : List ℕ → Bool
plainb order = plain_from 0 order

-- where each item stands in the order: an array of 192 positions, 0 where there is no such item
pub record Inverse (order inverse : List ℕ) : Type 0 where
  pub long : length inverse ≡ 192
  pub low : (i : ℕ) → get_or inverse i 0 < width
  pub back : (j : ℕ) → j < length order → get_or inverse (get_or order j 0) 0 ≡ j

-- an order with its inverse, and whether it is plain
pub record Located (order inverse : List ℕ) (plain : Bool) : Type 0 where
  pub once : each_once (length order) order ≡ true
  pub narrow : length order ≤ width
  pub inverts : Inverse order inverse
  pub straight : plain ≡ plainb order

-- places h of a memo of P places that can be carried along: what package p leaves of A has its place from A's and from p's, which is in `homes`
pub record Carried (Q : Problem) (P : ℕ) (homes : List ℕ) (h : ℕ → ℕ) : Type 0 where
  pub falls : (A p : ℕ) → p < length Q.packages → insideb (row Q p) A ≡ true → h (without A (row Q p)) ≡ (h A + (P - get_or homes p 0)) % P
