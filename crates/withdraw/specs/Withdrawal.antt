-- What a withdrawal does to a table and a list of answers. `gone` lists the withdrawn labels. Assumes nothing.
use Rattle.std.specs.Prelude.{◌≡◌, List, ℕ, ◌+◌, ◌≤◌, ◌<◌, length, get_or}
use Rattle.zdd.specs.Table.{count, nodes_of, family, Sound, ◌∈◌}
use Rattle.zdd.specs.Below.{Below}
use Rattle.zdd.specs.Withdrawal.{withdrawn, Shorter}

-- each entry of the list is below n
abbrev pub Within : List ℕ → ℕ → Type 0
Within xs n = (j : ℕ) → j < length xs → get_or xs j 0 < n

-- what it makes of the table t and the listed answers; K' has the keys of the labels that remain, and r nodes are left
pub record Withdrawn (gone K' t answers t' answers' : List ℕ) (r : ℕ) : Type 0 where
  pub long : length t' ≡ length t
  pub sound : Sound K' t'
  pub left : r ≡ count t'
  pub fewer : count t' ≤ count t
  -- each entry is replaced by a number that the table knows, of what is left of its family
  pub listed : length answers' ≡ length answers
  pub known : Within answers' (count t' + 2)
  pub families : (j : ℕ) → j < length answers → family (nodes_of t') (get_or answers' j 0) ≡ withdrawn gone (family (nodes_of t) (get_or answers j 0))
  -- each node left is an entry's own or below one
  pub needed : (k : ℕ) → 2 ≤ k → k < count t' + 2 → (a : ℕ) × ((a ∈ answers') × Below (nodes_of t') a k)

-- what withdraw ensures, for every list of keys of the labels that remain
abbrev pub Withdraws : List ℕ → List ℕ → List ℕ → List ℕ → List ℕ → List ℕ → ℕ → Type 0
Withdraws gone K t answers t' answers' r = (K' : List ℕ) → Shorter gone K K' → Withdrawn gone K' t answers t' answers' r
