use Rattle.guard.proofs.GuardLaws.{marked_start, not_as_long, is-inside, is-past, item_here, stray-item, item-twice, marked_more, marked_all}
use native.Mathlib.Omega.{arith}
use mathlib.Core.Path.{refl, sym, ap}
use mathlib.Core.Bool.{not}
use Rattle.guard.proofs.orderly.Goals as goal

pub returns-then-order-n : goal.returns-then-order-n
returns-then-order-n c = sym (ap not (not_as_long c.args.m c.args.order.now (λ e. omega (arith, c.if-order-n.true))))

pub loop-item-init : goal.loop-item-init
loop-item-init c = marked_start 192 refl c.requires (omega (arith, c.if-order-n.false))

pub returns-then-i-n : goal.returns-then-i-n
returns-then-i-n c = sym (ap not (stray-item c.loop-item.invariant (is-inside c.loop-item.invariant c.loop-item-test.true) (item_here c.loop-item.invariant) c.if-i-n.true))

pub returns-then-marks-i-ne0 : goal.returns-then-marks-i-ne0
returns-then-marks-i-ne0 c = sym (ap not
    (item-twice c.loop-item.invariant (is-inside c.loop-item.invariant c.loop-item-test.true) (item_here c.loop-item.invariant) (omega (arith, c.if-i-n.false)) c.if-marks-i-ne0.true))

pub loop-item-preserved : goal.loop-item-preserved
loop-item-preserved c = let a = c.loop-item.invariant in
    marked_more a (is-inside a c.loop-item-test.true) (item_here a) (omega (arith, c.if-i-n.false)) c.if-marks-i-ne0.false

pub returns : goal.returns
returns c = sym (ap not (marked_all c.loop-item.invariant (is-past c.loop-item.invariant c.loop-item-test.false)))
