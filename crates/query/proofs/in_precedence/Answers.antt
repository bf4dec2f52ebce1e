use Rattle.query.proofs.Precede.{along_end, along_unknown, along_last, along_unknown_2, along_disordered, along_more}
use mathlib.Core.Path.{refl}
use native.Mathlib.Omega.{arith}
use Rattle.query.proofs.in_precedence.Goals as goal

pub returns-then-keys-p : goal.returns-then-keys-p
returns-then-keys-p c = along_unknown c.loop-i.invariant _ c.loop-i-test.true refl c.if-keys-p.true

pub returns-then-i-s : goal.returns-then-i-s
returns-then-i-s c = along_last c.loop-i.invariant _ c.loop-i-test.true refl c.if-i-s.true c.if-keys-p.false

pub returns-then-keys-q : goal.returns-then-keys-q
returns-then-keys-q c = along_unknown_2 c.loop-i.invariant _ c.loop-i-test.true refl _
    (omega (arith, c.loop-i-test.true, c.if-i-s.false)) refl c.if-keys-q.true

pub returns-then-keys-q-2 : goal.returns-then-keys-q-2
returns-then-keys-q-2 c = along_disordered c.loop-i.invariant _ c.loop-i-test.true refl _
    (omega (arith, c.loop-i-test.true, c.if-i-s.false)) refl c.if-keys-q-2.true

pub loop-i-preserved : goal.loop-i-preserved
loop-i-preserved c = along_more c.loop-i.invariant _ c.loop-i-test.true refl _
    (omega (arith, c.loop-i-test.true, c.if-i-s.false)) refl c.if-keys-p.false
    c.if-keys-q-2.false

pub returns : goal.returns
returns c = along_end c.loop-i.invariant c.loop-i-test.false
