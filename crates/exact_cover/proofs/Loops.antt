-- A loop over the package numbers, from the highest down, that passes over those that are no candidate. Assumes nothing.
use mathlib.Core.Path.{◌≡◌, ap}
use mathlib.Core.Bool.{Bool, true, false}
use mathlib.Core.List.{List, ◌∷◌, ◌++◌}
use Prim.Native.Nat.{ℕ, suc}
use Rattle.zdd.specs.Table.{filter}
use Rattle.exact_cover.specs.Cover.{down}
use Rattle.exact_cover.specs.Recursion.{gather}
use Rattle.exact_cover.specs.Steps.{Walk, each}
use Rattle.exact_cover.proofs.Lists.{filter_yes, filter-not}

module _ (c : ℕ → Bool) (n : ℕ) where
  down_yes : c n ≡ true → filter c (down (suc n)) ≡ n ∷ filter c (down n)
  unfolding down
  down_yes e = filter_yes c n (down n) e

  down-not : c n ≡ false → filter c (down (suc n)) ≡ filter c (down n)
  unfolding down
  down-not e = filter-not c n (down n) e

  pub gather-take : (f : ℕ → List (List ℕ)) (acc : List (List ℕ)) → c n ≡ true → gather f (filter c (down (suc n))) acc ≡ gather f (filter c (down n)) (f n ++ acc)
  unfolding gather
  gather-take f acc e = ap (λ (ps : List ℕ). gather f ps acc) (down_yes e)

  pub gather_pass : (f : ℕ → List (List ℕ)) (acc : List (List ℕ)) → c n ≡ false → gather f (filter c (down (suc n))) acc ≡ gather f (filter c (down n)) acc
  gather_pass f acc e = ap (λ (ps : List ℕ). gather f ps acc) (down-not e)

  pub each_take : (f : ℕ → Walk → Walk) (w : Walk) → c n ≡ true → each f (filter c (down (suc n))) w ≡ each f (filter c (down n)) (f n w)
  unfolding each
  each_take f w e = ap (λ (ps : List ℕ). each f ps w) (down_yes e)

  pub each_pass : (f : ℕ → Walk → Walk) (w : Walk) → c n ≡ false → each f (filter c (down (suc n))) w ≡ each f (filter c (down n)) w
  each_pass f w e = ap (λ (ps : List ℕ). each f ps w) (down-not e)
