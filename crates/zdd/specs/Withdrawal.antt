-- Withdrawn labels: what is left of a family, and the new numbers of the labels that remain [document 02, No. 8: withdrawn packages]. `gone` lists the withdrawn
-- labels. Assumes nothing.
use Rattle.std.specs.Prelude.{◌≡◌, Bool, true, false, not, cond, ◌&&◌, List, [], ◌∷◌, map, ℕ, zero, suc, ◌<◌, length}
use Rattle.zdd.specs.Table.{Family, key, filter, has}

-- the set holds no withdrawn label
unfoldable pub free : List ℕ → List ℕ → Bool
free gone [] = true
free gone (p ∷ s) = not (has p gone) && free gone s

-- the new number of label p: how many of the labels below it remain [document 02, No. 8: renumbered from 0 in their old order]
unfoldable pub rank : List ℕ → ℕ → ℕ
rank gone zero = 0
rank gone (suc p) = cond (has p gone) (rank gone p) (suc (rank gone p))

-- those of F's sets that hold no withdrawn label, in the new numbers [document 02, No. 8: what a listed answer becomes]
unfoldable pub withdrawn : List ℕ → Family → Family
unfolding free rank
withdrawn gone F = map (map (rank gone)) (filter (free gone) F)

-- K' has a key for each label that remains, and its order is that of K
pub record Shorter (gone K K' : List ℕ) : Type 0 where
  pub long : length K' ≡ rank gone (length K)
  pub order : (p q : ℕ) → p < length K → q < length K → has p gone ≡ false → has q gone ≡ false
      → key K p < key K q → key K' (rank gone p) < key K' (rank gone q)
