use Rattle.table.proofs.CheckLaws.{child, label_at}
use native.Mathlib.Omega.{arith}
use Prim.Native.Nat.{◌-◌}
use Rattle.table.proofs.child_fits.Goals as goal

pub bounds-keys-label : goal.bounds-keys-label
bounds-keys-label c = omega (arith, c.requires.labelled (c.args.c - 2) (omega arith), label_at c.args.t.now (c.args.c - 2) (omega arith))

pub returns : goal.returns
returns c = child c.args.keys.now c.args.t.now c.args.i c.args.key c.args.c c.requires.i_bound (omega arith) (omega arith)
