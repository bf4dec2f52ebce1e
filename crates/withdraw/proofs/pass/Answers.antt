use Rattle.withdraw.proofs.PassLaws.{looping_start, looping_end, looping_roomy, looping_skip, looping_label, looping_lo, looping_hi, looping_more}
use native.Mathlib.Omega.{arith}
use Rattle.withdraw.proofs.pass.Goals as goal

pub loop-i-init : goal.loop-i-init
loop-i-init c = looping_start c.requires.sound c.requires.fresh c.requires.t_in_bounds c.requires.work_value

pub loop-i-preserved-then-work-i-eq0 : goal.loop-i-preserved-then-work-i-eq0
loop-i-preserved-then-work-i-eq0 c = looping_skip c.loop-i.invariant c.loop-i-test.true c.if-work-i-eq0.true

pub bounds-names-label : goal.bounds-names-label
bounds-names-label c = looping_label c.loop-i.invariant c.loop-i-test.true c.requires.names

pub bounds-work-lo : goal.bounds-work-lo
bounds-work-lo c = (looping_lo c.loop-i.invariant c.loop-i-test.true).0

pub overflow_cast-a : goal.overflow_cast-a
overflow_cast-a c = omega (arith, (looping_lo c.loop-i.invariant c.loop-i-test.true).1)

pub bounds-work-hi : goal.bounds-work-hi
bounds-work-hi c = (looping_hi c.loop-i.invariant c.loop-i-test.true).0

pub overflow_cast-b : goal.overflow_cast-b
overflow_cast-b c = omega (arith, (looping_hi c.loop-i.invariant c.loop-i-test.true).1)

pub renew-r-requires-clause-roomy : goal.renew-r-requires-clause-roomy
renew-r-requires-clause-roomy c = looping_roomy c.loop-i.invariant c.loop-i-test.true

pub loop-i-preserved : goal.loop-i-preserved
loop-i-preserved c = looping_more c.loop-i.invariant c.loop-i-test.true c.requires.names c.if-work-i-eq0.false c.renew-r.ensures

pub returns : goal.returns
returns c = looping_end c.loop-i.invariant (omega arith)
