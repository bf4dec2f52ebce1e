use Prim.Native.Nat.{ℕ}
use native.Mathlib.Omega.{arith}
use lib.ListN.{length-replicate}
use Rattle.query.proofs.Differences.{listed-known, difference_weighable, lightest-closest, weight-closest}
use Rattle.query.proofs.closest.Goals as goal

pub mark-requires-clause-s_value : goal.mark-requires-clause-s_value
mark-requires-clause-s_value c = let l = length-replicate {A = ℕ} 512 2 in
    listed-known c.requires.comparable.table.keys _ _ c.requires.comparable.listed (omega (arith, l, c.requires.comparable.few))

pub lightest-requires-clause-weighable : goal.lightest-requires-clause-weighable
lightest-requires-clause-weighable c = difference_weighable c.requires.comparable _ c.mark.ensures

pub returns : goal.returns
returns c = rw (
  weight-closest c.requires.comparable _ c.mark.ensures c.args.a c.requires.a_nonzero.1 c.requires.a_nonzero.0,
  lightest-closest c.requires.comparable _ c.mark.ensures c.args.a c.requires.a_nonzero.1 c.requires.a_nonzero.0,
) at c.lightest.ensures
