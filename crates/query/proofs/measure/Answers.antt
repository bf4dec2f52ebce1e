use Rattle.query.proofs.Walks.{walk_end, walk_inside, walk_hi, walk_lo, node_branch, hi_falls, lo_falls, hi_room}
use lib.ListN.{length}
use native.Mathlib.Omega.{arith}
use mathlib.Core.Path.{ap}
use Rattle.query.proofs.measure.Goals as goal

pub hi-h-requires : goal.hi-h-requires
hi-h-requires c = node_branch c.requires.readable c.loop-node.invariant.0 c.if-node-eq1.false

pub bounds-work-h : goal.bounds-work-h
bounds-work-h c = hi_room c.requires.readable c.loop-node.invariant.0 c.if-node-eq1.false c.requires.filled c.hi-h.result c.hi-h.ensures

pub loop-node-smaller-then-rest-c : goal.loop-node-smaller-then-rest-c
loop-node-smaller-then-rest-c c = hi_falls c.requires.readable c.loop-node.invariant.0 c.if-node-eq1.false c.hi-h.result c.hi-h.ensures

pub loop-node-preserved-then-rest-c : goal.loop-node-preserved-then-rest-c
loop-node-preserved-then-rest-c c = let d = walk_hi c.requires.readable c.loop-node.invariant.0 (walk_inside c.loop-node.invariant.0 c.if-node-eq1.false) c.args.work.now
    c.requires.filled c.hi-h.result c.hi-h.ensures c.if-rest-c.true in (d.next, c.loop-node.invariant.1, omega (arith, c.loop-node.invariant.2, ap length d.taken))

pub lo-node-requires : goal.lo-node-requires
lo-node-requires c = node_branch c.requires.readable c.loop-node.invariant.0 c.if-node-eq1.false

pub loop-node-smaller : goal.loop-node-smaller
loop-node-smaller c = lo_falls c.requires.readable c.loop-node.invariant.0 c.if-node-eq1.false c.lo-node.result c.lo-node.ensures

pub loop-node-preserved : goal.loop-node-preserved
loop-node-preserved c = let d = walk_lo c.requires.readable c.loop-node.invariant.0 (walk_inside c.loop-node.invariant.0 c.if-node-eq1.false)
    c.args.work.now c.requires.filled c.hi-h.result c.lo-node.result c.hi-h.ensures c.lo-node.ensures
    (omega (arith, c.ranges.k.fits, c.loop-node.invariant.1)) c.if-rest-c.false in
    (d.next, omega (arith, c.loop-node.invariant.1), omega (arith, c.loop-node.invariant.2, ap length d.left))

pub returns : goal.returns
returns c = omega (arith, c.loop-node.invariant.2, ap length (walk_end c.loop-node.invariant.0 c.if-node-eq1.true))
