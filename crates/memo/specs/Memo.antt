-- A memo of P places in 4 P words. Place j has the low word of its set in word 2 j and its number in word 2 j + 1, there with 2 ^ 32 added where the
-- high words stand in words 2 P + 2 j and 2 P + 2 j + 1; else the set has none. Assumes nothing.
use Rattle.std.specs.Prelude.{◌≡◌, true, false, List, ℕ, ◌+◌, ◌*◌, ◌%◌, ◌^◌, ◌<◌, ltb, length, get_or, take, drop}
use Rattle.itemset.specs.Words.{value_of}

unfoldable pub high_at : ℕ → List ℕ → ℕ → ℕ
high_at P memo j = elim (ltb (get_or memo (2 * j + 1) 0) 4294967296) [ true ↦ 0 | false ↦ value_of (take 2 (drop (2 * P + 2 * j) memo)) ]

unfoldable pub key_at : ℕ → List ℕ → ℕ → ℕ
key_at P memo j = high_at P memo j * 2 ^ 64 + get_or memo (2 * j) 0

abbrev pub number_at : List ℕ → ℕ → ℕ
number_at memo j = get_or memo (2 * j + 1) 0 % 4294967296

-- the set A with its number n goes to place at; the other places stay
pub record Stored (P : ℕ) (memo : List ℕ) (at A n : ℕ) (memo' : List ℕ) : Type 0 where
  pub same : length memo' ≡ length memo
  pub key : key_at P memo' at ≡ A
  pub number : number_at memo' at ≡ n
  pub other_key : (j : ℕ) → j < P → (j ≡ at → ⊥) → key_at P memo' j ≡ key_at P memo j
  pub other_number : (j : ℕ) → j < P → (j ≡ at → ⊥) → number_at memo' j ≡ number_at memo j

-- no place has a set
pub record Cleared (P : ℕ) (memo memo' : List ℕ) : Type 0 where
  pub same : length memo' ≡ length memo
  pub none : (j : ℕ) → j < P → key_at P memo' j ≡ 0
  pub zero : (j : ℕ) → j < P → number_at memo' j ≡ 0
