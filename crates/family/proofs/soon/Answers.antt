use mathlib.Core.Path.{refl}
use Prim.Native.Nat.{◌*◌, ◌-◌}
use native.Mathlib.Omega.{arith}
use Rattle.family.proofs.RestrictLaws.{label-known, soon_end_with, soon_end_without, soon_own_without, soon_other, soon-late-with, soon-late-without}
use Rattle.family.proofs.soon.Goals as goal

pub returns-then-holding : goal.returns-then-holding
returns-then-holding c = soon_end_with c.requires.sound c.requires.keys _ _ c.requires.f_bound.0 (omega arith) c.if-holding.true

pub returns-then-f-lt2 : goal.returns-then-f-lt2
returns-then-f-lt2 c = soon_end_without c.requires.sound c.requires.keys _ _ c.requires.f_bound.0 (omega arith) c.if-holding.false

pub returns-then-label-p : goal.returns-then-label-p
returns-then-label-p c = soon_own_without c.requires.sound c.requires.keys _ _ c.requires.f_bound.0 (omega (arith, c.if-f-lt2.false)) (3 * c.args.f - 5) refl
    c.if-label-p.true c.if-holding-2.false

pub bounds-keys-label : goal.bounds-keys-label
bounds-keys-label c = omega (
  arith,
  label-known c.requires.sound c.args.f
      (3 * c.args.f - 5) (omega (arith, c.if-f-lt2.false)) c.requires.f_bound.0 refl,
)

pub returns-then-holding-3 : goal.returns-then-holding-3
returns-then-holding-3 c = soon-late-with c.requires.sound c.requires.keys _ _ c.requires.f_bound.0 (omega (arith, c.if-f-lt2.false)) (3 * c.args.f - 5)
    refl (c.if-keys-p.true) c.if-holding-3.true

pub returns-then-keys-p : goal.returns-then-keys-p
returns-then-keys-p c = soon-late-without c.requires.sound c.requires.keys _ _ c.requires.f_bound.0 (omega (arith, c.if-f-lt2.false)) (3 * c.args.f - 5)
    refl (c.if-keys-p.true) c.if-holding-3.false

pub returns : goal.returns
returns c = soon_other c.requires.sound c.requires.keys _ _ c.requires.f_bound.0 (omega (arith, c.if-f-lt2.false)) (3 * c.args.f - 5) refl (λ e. omega (arith, c.if-label-p.false))
