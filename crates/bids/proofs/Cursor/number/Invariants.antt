use Rattle.bids.proofs.Digits.{Read}
use Prim.Native.Nat.{◌+◌, ◌-◌}
use Rattle.bids.proofs.Cursor.number.Given as goal

abbrev pub invariant-loop-i : goal.invariant-loop-i
invariant-loop-i l = Read l.file (l.self.at + l.i) (l.width - l.i) l.value
