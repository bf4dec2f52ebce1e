use Rattle.withdraw.proofs.MarkLaws.{marking_start, marking_lo, marking_both, label_in, lo_in, hi_in}
use Prim.Native.Nat.{◌-◌}
use lib.ListN.{length-set}
use native.Mathlib.Omega.{arith}
use Rattle.withdraw.proofs.mark.Goals as goal

pub loop-i-init : goal.loop-i-init
loop-i-init c = marking_start c.args.gone.now c.list.ensures

pub bounds-work-lo : goal.bounds-work-lo
bounds-work-lo c = lo_in c.requires.sound c.loop-i.invariant (c.loop-i.i - 1) (omega arith) c.if-work-i-eq0.false c.requires.names

pub bounds-names-label : goal.bounds-names-label
bounds-names-label c = label_in c.requires.sound c.loop-i.invariant (c.loop-i.i - 1) (omega arith) c.if-work-i-eq0.false c.requires.names

pub loop-i-preserved-then-name-eq0 : goal.loop-i-preserved-then-name-eq0
loop-i-preserved-then-name-eq0 c = marking_lo c.requires.sound c.loop-i.invariant (c.loop-i.i - 1) (omega arith) c.if-work-i-eq0.false c.requires.names c.if-name-eq0.true

pub bounds-work-hi : goal.bounds-work-hi
bounds-work-hi c = simp length-set (hi_in c.requires.sound c.loop-i.invariant (c.loop-i.i - 1) (omega arith) c.if-work-i-eq0.false c.requires.names)

pub loop-i-preserved : goal.loop-i-preserved
loop-i-preserved c = marking_both c.requires.sound c.loop-i.invariant (c.loop-i.i - 1) (omega arith) c.if-work-i-eq0.false c.requires.names c.if-name-eq0.false
