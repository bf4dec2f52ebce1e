use Prim.Native.Nat.{◌+◌, ◌-◌}
use mathlib.Core.Path.{◌≡◌}
use lib.Seq.{sets}
use lib.ListN.{length}
use Rattle.bids.specs.Bytes.{bytes_of}
use Rattle.conversion.proofs.put.Given as goal

abbrev pub invariant-loop-i : goal.invariant-loop-i
invariant-loop-i l = (length l.out ≡ length l.initial.out) × (sets l.out (l.at + l.i) (bytes_of (l.width - l.i) l.rest) ≡ sets l.initial.out l.at (bytes_of l.width l.v))
