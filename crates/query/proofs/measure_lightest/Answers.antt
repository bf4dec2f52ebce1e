use Rattle.query.proofs.WeightWords.{at_end, way_hi_falls, way_lo_falls, way_hi, way_lo, goes_hi, goes_lo}
use lib.ListN.{length}
use native.Mathlib.Omega.{arith}
use mathlib.Core.Path.{ap}
use Rattle.query.proofs.measure_lightest.Goals as goal

pub loop-node-smaller-then-takes_hi : goal.loop-node-smaller-then-takes_hi
loop-node-smaller-then-takes_hi c = way_hi_falls c.requires.weighable.table c.loop-node.invariant.0 c.if-node-eq1.false c.hi-node.result c.hi-node.ensures

pub loop-node-preserved-then-takes_hi : goal.loop-node-preserved-then-takes_hi
loop-node-preserved-then-takes_hi c = (
  way_hi c.requires.weighable.table c.loop-node.invariant.0 c.if-node-eq1.false
      c.hi-node.result c.hi-node.ensures,
  omega (arith, c.loop-node.invariant.1, ap length (goes_hi c.takes_hi.ensures c.if-takes_hi.true c.hi-node.result c.hi-node.ensures)),
)

pub loop-node-smaller : goal.loop-node-smaller
loop-node-smaller c = way_lo_falls c.requires.weighable.table c.loop-node.invariant.0 c.if-node-eq1.false c.lo-node.result c.lo-node.ensures

pub loop-node-preserved : goal.loop-node-preserved
loop-node-preserved c = (
  way_lo c.requires.weighable.table c.loop-node.invariant.0 c.if-node-eq1.false
      c.lo-node.result c.lo-node.ensures (c.takes_hi.ensures.by_lo c.if-takes_hi.false).0,
  omega
      (arith, c.loop-node.invariant.1, ap length (goes_lo c.takes_hi.ensures c.if-takes_hi.false c.lo-node.result c.lo-node.ensures)),
)

pub returns : goal.returns
returns c = omega (arith, c.loop-node.invariant.1, ap length (at_end c.args.weights.now c.args.scale c.args.t.now c.loop-node.node c.if-node-eq1.true))
