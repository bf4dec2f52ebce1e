use Rattle.query.proofs.WeightWords.{at_end, way_hi_falls, way_lo_falls, way_label, way_hi, way_lo, goes_hi, goes_lo}
use Rattle.query.proofs.Pages.{page_more, page_end}
use native.Mathlib.Omega.{arith}
use Rattle.query.proofs.write_lightest.Goals as goal

pub overflow_cast-page : goal.overflow_cast-page
overflow_cast-page c = omega (arith, way_label c.requires.weighable.table c.loop-node.invariant.0 c.if-node-eq1.false c.label-p.result c.label-p.ensures)

pub loop-node-smaller-then-takes_hi : goal.loop-node-smaller-then-takes_hi
loop-node-smaller-then-takes_hi c = way_hi_falls c.requires.weighable.table c.loop-node.invariant.0 c.if-node-eq1.false c.hi-node.result c.hi-node.ensures

pub loop-node-preserved-then-takes_hi : goal.loop-node-preserved-then-takes_hi
loop-node-preserved-then-takes_hi c = (
  way_hi c.requires.weighable.table c.loop-node.invariant.0
      c.if-node-eq1.false c.hi-node.result c.hi-node.ensures,
  rw c.label-p.ensures
      (page_more (rw (goes_hi c.takes_hi.ensures c.if-takes_hi.true c.hi-node.result c.hi-node.ensures) at c.loop-node.invariant.1)),
)

pub loop-node-smaller : goal.loop-node-smaller
loop-node-smaller c = way_lo_falls c.requires.weighable.table c.loop-node.invariant.0 c.if-node-eq1.false c.lo-node.result c.lo-node.ensures

pub loop-node-preserved : goal.loop-node-preserved
loop-node-preserved c = (
  way_lo c.requires.weighable.table c.loop-node.invariant.0 c.if-node-eq1.false
      c.lo-node.result c.lo-node.ensures (c.takes_hi.ensures.by_lo c.if-takes_hi.false).0,
  rw (goes_lo c.takes_hi.ensures c.if-takes_hi.false c.lo-node.result c.lo-node.ensures) at
      c.loop-node.invariant.1,
)

pub returns : goal.returns
returns c = let e = page_end (rw (at_end c.args.weights.now c.args.scale c.args.t.now c.loop-node.node c.if-node-eq1.true) at c.loop-node.invariant.1) in
    (e.many, c.requires.a_in_bounds, e.pages)
