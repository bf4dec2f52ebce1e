-- Tests and lists over the numbers below a bound. Assumes nothing.
use Rattle.std.specs.Prelude.{Bool, true, false, List, [], ◌∷◌, ◌++◌, ℕ, zero, suc, ltb}

-- the least i below n that f holds of, and n where there is none
unfoldable pub first : (ℕ → Bool) → ℕ → ℕ
first f zero = zero
first f (suc n) = elim (ltb (first f n) n) [ true ↦ first f n | false ↦ elim (f n) [ true ↦ n | false ↦ suc n ] ]

-- f holds of some i below n
unfoldable pub some : (ℕ → Bool) → ℕ → Bool
some f n = ltb (first f n) n

-- f 0, f 1, .., f (n - 1)
unfoldable pub listed : {A : Type 0} → (ℕ → A) → ℕ → List A
listed f zero = []
listed f (suc n) = listed f n ++ (f n ∷ [])
