use mathlib.Core.Path.{refl}
use native.Mathlib.Omega.{arith}
use Rattle.itemset.specs.Words.{value_of}
use Rattle.zdd.proofs.Words.{length-nodes}
use Rattle.support.proofs.Marking.{started, label_in, lo_small, hi_small, met_word, finished}
use Rattle.support.proofs.gather.Goals as goal

pub loop-k-init : goal.loop-k-init
unfolding value_of
loop-k-init c = started c.args.marks.now c.args.a 0 c.requires.marks_len.0 c.requires.marks_len.1 (omega (arith, c.requires.a_bound, c.requires.labelled.sound.few)) refl

pub items-requires : goal.items-requires
items-requires c = omega (arith, label_in c.requires.labelled.sound c.requires.a_bound c.loop-k.invariant (omega arith), c.requires.labelled.each)

pub bounds-marks-lo : goal.bounds-marks-lo
bounds-marks-lo c = lo_small c.requires.labelled.sound c.requires.a_bound c.loop-k.invariant (omega arith)

pub bounds-marks-hi : goal.bounds-marks-hi
bounds-marks-hi c = hi_small c.requires.labelled.sound c.requires.a_bound c.loop-k.invariant (omega arith)

pub loop-k-preserved : goal.loop-k-preserved
loop-k-preserved c = met_word c.requires.labelled.sound c.requires.a_bound c.loop-k.invariant (omega arith) c.if-not-marks-k.false (rw (c.union-items.ensures, c.items.ensures) refl)

pub returns : goal.returns
returns c = finished (omega arith) c.loop-k.invariant c.requires.labelled.sound.nodes (omega (arith, c.requires.a_bound, length-nodes c.args.t.now))
