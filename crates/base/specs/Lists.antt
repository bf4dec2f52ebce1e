-- Tests of lists. Assumes nothing.
use Rattle.std.specs.Prelude.{Bool, false, ◌||◌, List, [], ◌∷◌}

-- some element of the list passes the test
unfoldable pub any : {A : Type 0} → (A → Bool) → List A → Bool
any P [] = false
any P (x ∷ xs) = P x || any P xs
