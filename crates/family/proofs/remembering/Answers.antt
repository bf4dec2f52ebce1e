use native.Mathlib.Omega.{arith}
use Prim.Native.Nat.{ℕ}
use lib.ListN.{length-replicate}
use Rattle.family.proofs.CombineLaws.{remembered_fresh}
use Rattle.base.proofs.Wiping.{zeros}
use Rattle.family.proofs.remembering.Goals as goal

pub combine-requires-clause-remembered : goal.combine-requires-clause-remembered
combine-requires-clause-remembered c = let n = length-replicate {A = ℕ} 32768 0 in remembered_fresh _ _ _ _ (omega (arith, n)) (omega (arith, n)) (λ i. zeros 32768 i)
