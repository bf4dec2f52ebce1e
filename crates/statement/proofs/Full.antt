-- THEOREM: 'full' is said only where the answer does not fit: no sound table of the same length that keeps the old nodes holds it. Assumes nothing.
use mathlib.Core.Path.{◌≡◌, ap, subst}
use mathlib.Core.Bool.{true}
use mathlib.Core.List.{List}
use Prim.Native.Nat.{ℕ, ◌+◌, ◌-◌, ◌≤◌, ◌<◌}
use native.Mathlib.Omega.{arith}
use lib.ListN.{length, take, length-take}
use borrow.Author.Tests.{ltb-true}
use Rattle.zdd.specs.Table.{Family, count, capacity, nodes_of, soundb}
use Rattle.zdd.proofs.Words.{length-nodes}
use Rattle.zdd.proofs.Tested.{sound_of, capacity-fits}
use Rattle.zdd.specs.Branches.{missing}
use Rattle.zdd.proofs.Below.{new_short}
use Rattle.zdd.proofs.Room.{same-capacity}
use Rattle.query.specs.Questions.{family_at}
use Rattle.statement.specs.Refusals.{full}
use Rattle.statement.proofs.Made.{below-missing}

-- a sound table grows by at least the missing nodes
pub grows_by : (K t t' : List ℕ) (a : ℕ) → soundb K t' ≡ true → take (count t) (nodes_of t') ≡ nodes_of t → a < count t' + 2
    → count t + missing (nodes_of t) (family_at t' a) ≤ count t'
grows_by K t t' a s old h =
    omega (arith, below-missing K t t' s old a h, new_short (count t) (nodes_of t') a, length-nodes t', length-nodes t, ap length old, length-take (count t) (nodes_of t'))

-- THEOREM
pub full_means : (K t : List ℕ) (F : Family) → full t F ≡ true
    → (t' : List ℕ) (a : ℕ) → length t' ≡ length t → soundb K t' ≡ true → take (count t) (nodes_of t') ≡ nodes_of t → a < count t' + 2
    → family_at t' a ≡ F → ⊥
unfolding full
full_means K t F e t' a long s old h holds =
    let g : count t + missing (nodes_of t) F ≤ count t' = subst (λ (G : Family). count t + missing (nodes_of t) G ≤ count t') holds (grows_by K t t' a s old h) in
    let S = sound_of K t' s in
    let c : count t' ≤ capacity t = subst (λ (n : ℕ). count t' ≤ n) (same-capacity t' t long) (capacity-fits t' S.room S.few) in
    let l : capacity t - count t < missing (nodes_of t) F = ltb-true (capacity t - count t) (missing (nodes_of t) F) e in
    omega arith
