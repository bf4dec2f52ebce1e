use mathlib.Core.Path.{refl}
use Prim.Native.Nat.{◌*◌, ◌-◌}
use native.Mathlib.Omega.{arith}
use Rattle.family.proofs.CutLaws.{cut_left, cut_right, cut-same}
use Rattle.family.proofs.cut.Goals as goal

pub returns-then-a-b : goal.returns-then-a-b
returns-then-a-b c = cut_left c.requires.sound c.requires.keys c.requires.f_bound c.requires.two c.top-a.ensures c.top-b.ensures c.args.op c.requires.combinable
    (3 * c.args.f - 5) c.beside.result refl c.beside.ensures c.if-a-b.true

pub returns-then-b-a : goal.returns-then-b-a
returns-then-b-a c = cut_right c.requires.sound c.requires.keys c.requires.f_bound c.requires.two c.top-a.ensures c.top-b.ensures c.args.op c.requires.combinable
    (3 * c.args.g - 5) c.beside-then-b-a.result refl c.beside-then-b-a.ensures c.if-b-a.true

pub returns : goal.returns
returns c = cut-same c.requires.sound c.requires.keys c.requires.f_bound c.requires.two c.top-a.ensures c.top-b.ensures c.args.op c.requires.combinable
    (3 * c.args.f - 5) (3 * c.args.g - 5) refl refl
    (omega (arith, c.if-a-b.false, c.if-b-a.false))
