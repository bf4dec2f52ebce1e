-- The numbers below a number of a table, and those of them that an earlier table did not have. Assumes nothing.
use Rattle.std.specs.Prelude.{◌≡◌, Bool, ◌||◌, List, [], ◌∷◌, map, ℕ, zero, suc, ◌+◌, ◌-◌, ◌≤◌, ◌<◌, eqb, length, get_or}
use Rattle.zdd.specs.Table.{Node, blank, filter}

-- number k is a, or it is below lo or hi of the node a [document 01: below the answer, itself included]
pub data Below (ns : List Node) : (a k : ℕ) → Type 0 where
  itself : {a : ℕ} → Below ns a a
  by_lo : {k : ℕ} (i : ℕ) → i < length ns → Below ns (get_or ns i blank).lo k → Below ns (suc (suc i)) k
  by_hi : {k : ℕ} (i : ℕ) → i < length ns → Below ns (get_or ns i blank).hi k → Below ns (suc (suc i)) k

-- the same as a test. Children have smaller numbers, so that a is a bound on the depth: the first argument
unfoldable pub below_to : ℕ → List Node → ℕ → ℕ → Bool
below_to zero ns a k = eqb k a
below_to (suc d) ns zero k = eqb k 0
below_to (suc d) ns (suc zero) k = eqb k 1
below_to (suc d) ns (suc (suc i)) k =
    eqb k (suc (suc i)) || (below_to d ns (get_or ns i blank).lo k || below_to d ns (get_or ns i blank).hi k)

unfoldable pub below_test : List Node → ℕ → ℕ → Bool
unfolding below_to
below_test ns a k = below_to a ns a k

-- the c numbers from n on
unfoldable pub numbers_from : ℕ → ℕ → List ℕ
numbers_from n zero = []
numbers_from n (suc c) = n ∷ numbers_from (suc n) c

-- the numbers of the nodes ns that a table of n nodes did not have
unfoldable pub new_numbers : ℕ → List Node → List ℕ
unfolding numbers_from
new_numbers n ns = numbers_from (n + 2) (length ns - n)

-- those of them below a
unfoldable pub new_below : ℕ → List Node → ℕ → List ℕ
unfolding below_test new_numbers filter
new_below n ns a = filter (below_test ns a) (new_numbers n ns)

-- p is the label of a node below a, or of a's own [document 02, No. 5: a package on a node below an answer]
pub record Labels (ns : List Node) (a p : ℕ) : Type 0 where
  pub number : ℕ
  pub branch : 2 ≤ number
  pub below : Below ns a number
  pub label : (get_or ns (number - 2) blank).label ≡ p

-- these labels, by the test
unfoldable pub labels_below : List Node → ℕ → List ℕ
unfolding new_below
labels_below ns a = map (λ (k : ℕ). (get_or ns (k - 2) blank).label) (new_below 0 ns a)
