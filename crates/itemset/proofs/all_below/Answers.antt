use mathlib.Core.Path.{◌≡◌}
use mathlib.Core.List.{[], ◌∷◌}
use Prim.Native.Nat.{ℕ, ◌-◌, ◌^◌, min}
use Rattle.itemset.specs.Words.{width, value_of}
use Rattle.itemset.proofs.Lists.{all_words, all_words_lem}
use Rattle.itemset.proofs.all_below.Goals as goal

-- three words
all_three : (m u v w : ℕ) → u ≡ 2 ^ min m 64 - 1 → v ≡ 2 ^ min (m - 64) 64 - 1 → w ≡ 2 ^ min (m - 64 - 64) 64 - 1
    → value_of (u ∷ v ∷ w ∷ []) ≡ 2 ^ min m width - 1
unfolding all_words width
all_three m u v w e f g = rw (e, f, g) (all_words_lem 3 m)

pub returns : goal.returns
returns c = all_three c.args.m _ _ _ (cc) (cc) (cc)
