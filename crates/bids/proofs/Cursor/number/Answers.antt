use Rattle.bids.proofs.Digits.{read_none, read_more, seven}
use Prim.Native.Nat.{◌+◌, ◌-◌}
use mathlib.Core.Path.{refl}
use native.Mathlib.Omega.{arith}
use Rattle.bids.proofs.Cursor.number.Goals as goal

pub loop-i-init : goal.loop-i-init
loop-i-init c = read_none _ _ (omega arith)

pub overflow_mul-value : goal.overflow_mul-value
overflow_mul-value c = omega (arith, seven _ (omega arith) c.loop-i.invariant.small)

pub overflow_add-value-in-loop-i : goal.overflow_add-value-in-loop-i
overflow_add-value-in-loop-i c = omega (arith, seven _ (omega arith) c.loop-i.invariant.small, c.type_inv.file (c.args.self.now.at + (c.loop-i.i - 1)))

pub loop-i-preserved : goal.loop-i-preserved
loop-i-preserved c = read_more _ _ _ (omega arith) (omega arith) c.loop-i.invariant refl (omega (arith, c.type_inv.file (c.args.self.now.at + (c.loop-i.i - 1))))
