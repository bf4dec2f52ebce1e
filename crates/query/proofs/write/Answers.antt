use Rattle.query.proofs.Pages.{page_room, page_more, page_end}
use Rattle.query.proofs.Walks.{walk_end, walk_inside, walk_hi, walk_lo, node_branch, hi_falls, lo_falls, hi_room, label_fits}
use native.Mathlib.Omega.{arith}
use Rattle.query.proofs.write.Goals as goal

pub hi-h-requires : goal.hi-h-requires
hi-h-requires c = node_branch c.requires.readable c.loop-node.invariant.0 c.if-node-eq1.false

pub bounds-work-h : goal.bounds-work-h
bounds-work-h c = hi_room c.requires.readable c.loop-node.invariant.0 c.if-node-eq1.false c.requires.filled c.hi-h.result c.hi-h.ensures

pub label-p-requires : goal.label-p-requires
label-p-requires c = node_branch c.requires.readable c.loop-node.invariant.0 c.if-node-eq1.false

pub overflow_cast-page : goal.overflow_cast-page
overflow_cast-page c = omega (arith, label_fits c.requires.readable c.loop-node.invariant.0 c.if-node-eq1.false c.label-p.result c.label-p.ensures)

pub bounds-page-n : goal.bounds-page-n
bounds-page-n c = let d = walk_hi c.requires.readable c.loop-node.invariant.0 (walk_inside c.loop-node.invariant.0 c.if-node-eq1.false)
    c.args.work.now c.requires.filled c.hi-h.result c.hi-h.ensures c.if-left-c.true in let r = page_room
    (rw d.taken at c.loop-node.invariant.2) in omega arith

pub loop-node-smaller-then-left-c : goal.loop-node-smaller-then-left-c
loop-node-smaller-then-left-c c = hi_falls c.requires.readable c.loop-node.invariant.0 c.if-node-eq1.false c.hi-h.result c.hi-h.ensures

pub loop-node-preserved-then-left-c : goal.loop-node-preserved-then-left-c
loop-node-preserved-then-left-c c = let d = walk_hi c.requires.readable c.loop-node.invariant.0 (walk_inside c.loop-node.invariant.0 c.if-node-eq1.false)
    c.args.work.now c.requires.filled c.hi-h.result c.hi-h.ensures c.if-left-c.true in
    (d.next, c.loop-node.invariant.1, rw c.label-p.ensures (page_more (rw d.taken at c.loop-node.invariant.2)))

pub lo-node-requires : goal.lo-node-requires
lo-node-requires c = node_branch c.requires.readable c.loop-node.invariant.0 c.if-node-eq1.false

pub loop-node-smaller : goal.loop-node-smaller
loop-node-smaller c = lo_falls c.requires.readable c.loop-node.invariant.0 c.if-node-eq1.false c.lo-node.result c.lo-node.ensures

pub loop-node-preserved : goal.loop-node-preserved
loop-node-preserved c = let d = walk_lo c.requires.readable c.loop-node.invariant.0 (walk_inside c.loop-node.invariant.0 c.if-node-eq1.false)
    c.args.work.now c.requires.filled c.hi-h.result c.lo-node.result c.hi-h.ensures c.lo-node.ensures
    (omega (arith, c.ranges.k.fits, c.loop-node.invariant.1)) c.if-left-c.false in
    (d.next, omega (arith, c.loop-node.invariant.1), rw d.left at c.loop-node.invariant.2)

pub returns : goal.returns
returns c = let e = page_end (rw (walk_end c.loop-node.invariant.0 c.if-node-eq1.true) at c.loop-node.invariant.2) in (e.many, c.requires.k_in_bounds, e.pages)
