use native.Mathlib.Omega.{arith}
use Rattle.family.proofs.CombineLaws.{remembered_fresh}
use Rattle.base.proofs.Wiping.{cleared_reads}
use Rattle.family.proofs.afresh.Goals as goal

pub combine-requires-clause-remembered : goal.combine-requires-clause-remembered
combine-requires-clause-remembered c = remembered_fresh _ _ _ _ (omega (arith, c.requires.in_bounds.0, c.clear.ensures.same))
    (omega (arith, c.requires.in_bounds.1, c.clear.ensures.same)) (cleared_reads c.clear.ensures)
