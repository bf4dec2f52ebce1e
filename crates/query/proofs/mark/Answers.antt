use mathlib.Core.Path.{refl}
use native.Mathlib.Omega.{arith}
use Rattle.query.proofs.Precede.{known_at}
use Rattle.query.proofs.Differences.{marking_more, marking_end}
use Rattle.query.proofs.mark.Goals as goal

pub bounds-weights-p : goal.bounds-weights-p
bounds-weights-p c = omega (arith, known_at _ _ c.requires.s_value c.loop-p.p-index c.loop-p-test.true, c.requires.weights_len)

pub loop-p-preserved : goal.loop-p-preserved
loop-p-preserved c = marking_more c.loop-p.invariant _ c.loop-p-test.true refl (omega (
  arith,
  known_at _ _ c.requires.s_value c.loop-p.p-index c.loop-p-test.true,
))

pub returns : goal.returns
returns c = marking_end c.loop-p.invariant c.loop-p-test.false
