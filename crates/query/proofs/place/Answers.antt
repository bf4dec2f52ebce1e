use Rattle.query.proofs.Seeks.{seek-none, seek-more, seek_end, spot, seek-hi, seek-lo}
use native.Mathlib.Omega.{arith}
use mathlib.Core.Path.{sym, ◌∙◌}
use Rattle.query.proofs.place.Goals as goal

pub returns-then-node-eq0 : goal.returns-then-node-eq0
returns-then-node-eq0 c = seek-none c.loop-node.invariant c.if-node-eq0.true

pub loop-node-smaller-then-goes_on : goal.loop-node-smaller-then-goes_on
loop-node-smaller-then-goes_on c = let P = spot c.requires.readable c.loop-node.invariant
    (omega (arith, c.if-node-eq0.false, c.if-node-eq1.false)) in omega (arith, P.hi-below, c.hi-h.ensures)

pub loop-node-preserved-then-goes_on : goal.loop-node-preserved-then-goes_on
loop-node-preserved-then-goes_on c = let g = c.goes_on.ensures.i_in_bounds c.if-goes_on.true in seek-hi c.requires.readable
    c.loop-node.invariant (omega (arith, c.if-node-eq0.false, c.if-node-eq1.false))
    c.hi-h.result c.hi-h.ensures g.0 (g.1 ∙ c.label-p.ensures)

pub bounds-work-h : goal.bounds-work-h
bounds-work-h c = let P = spot c.requires.readable c.loop-node.invariant (omega (arith, c.if-node-eq0.false, c.if-node-eq1.false)) in omega
    (arith, P.hi-below, c.hi-h.ensures, c.loop-node.invariant.within, c.requires.filled.room)

pub loop-node-smaller : goal.loop-node-smaller
loop-node-smaller c = let P = spot c.requires.readable c.loop-node.invariant
    (omega (arith, c.if-node-eq0.false, c.if-node-eq1.false)) in omega
    (arith, P.lo-below, c.lo-node.ensures)

pub loop-node-preserved : goal.loop-node-preserved
loop-node-preserved c = seek-lo c.requires.readable c.loop-node.invariant
    (omega (arith, c.if-node-eq0.false, c.if-node-eq1.false)) c.args.work.now
    c.requires.filled c.hi-h.result c.lo-node.result c.plus-k.result c.hi-h.ensures c.lo-node.ensures
    (λ l q. c.goes_on.ensures.fact c.if-goes_on.false l (q ∙ sym c.label-p.ensures))
    c.plus-k.ensures

pub returns-then-i-s : goal.returns-then-i-s
returns-then-i-s c = seek_end c.loop-node.invariant c.if-node-eq1.true c.if-i-s.true

pub returns : goal.returns
returns c = seek-more c.loop-node.invariant c.if-node-eq1.true c.if-i-s.false
