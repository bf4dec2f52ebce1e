use native.Mathlib.Omega.{arith}
use Rattle.query.proofs.WeightWords.{filled-ends}
use Rattle.query.proofs.weigh.Goals as goal

pub loop-k-init : goal.loop-k-init
loop-k-init c = filled-ends c.args.weights.now c.args.scale c.args.t.now c.args.work.now (omega (arith, c.requires.a_in_bounds, c.requires.a_nonzero.0))
