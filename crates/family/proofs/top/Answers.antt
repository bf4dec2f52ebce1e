use mathlib.Core.Path.{refl}
use Prim.Native.Nat.{◌*◌, ◌-◌}
use native.Mathlib.Omega.{arith}
use Rattle.family.proofs.CutLaws.{top_of}
use Rattle.family.proofs.RestrictLaws.{label-known}
use Rattle.family.proofs.top.Goals as goal

pub bounds-keys-at : goal.bounds-keys-at
bounds-keys-at c = omega (
  arith,
  label-known c.requires.sound c.args.f (3 * c.args.f - 5)
      (omega (arith, c.if-f-lt2.false)) c.requires.f_bound refl,
)

pub returns : goal.returns
returns c = top_of c.requires.sound c.args.f (3 * c.args.f - 5) (omega (arith, c.if-f-lt2.false))
    c.requires.f_bound refl _ refl (omega arith)
