-- The covers of A by a recursion: for proofs and for examples too large to go through every set of packages. Assumes nothing.
use Rattle.std.specs.Prelude.{true, false, List, [], ◌∷◌, ◌++◌, map, ℕ, zero, suc, ◌≤◌, ◌<◌}
use Rattle.itemset.specs.Items.{without}
use Rattle.zdd.specs.Table.{Family, key}
use Rattle.exact_cover.specs.Problem.{Problem, row, done}
use Rattle.exact_cover.specs.Cover.{keys_of, candidates}

-- the key of package p
abbrev pub rank : Problem → ℕ → ℕ
rank Q p = key (keys_of Q) p

-- t is a set in precedence: its packages are below n, and their keys ascend, from m on
abbrev pub Ascends : Problem → ℕ → ℕ → List ℕ → Type 0
Ascends Q n m [] = Unit {0}
Ascends Q n m (p ∷ t) = (p < n) × (m ≤ rank Q p) × Ascends Q n (suc (rank Q p)) t

-- the lists of f at the packages ps, the last one's in front: as a loop that takes the candidates from the highest number down puts them together
unfoldable pub gather : (ℕ → Family) → List ℕ → Family → Family
gather f [] acc = acc
gather f (p ∷ ps) acc = gather f ps (f p ++ acc)

-- the covers of A by the candidates: as many steps as there are covers to try (`solve-covering` says that it is the same list). The first
-- argument bounds the depth, and the size of A is enough
unfoldable pub solve : ℕ → Problem → ℕ → Family
solve zero Q A = [] ∷ []
solve (suc d) Q A =
    elim (done Q A) [
      | true ↦ [] ∷ []
      | false ↦ gather (λ (p : ℕ). map (λ (t : List ℕ). p ∷ t) (solve d Q (without A (row Q p)))) (candidates Q A) []
    ]
