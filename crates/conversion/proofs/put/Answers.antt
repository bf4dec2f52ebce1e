use Prim.Native.Nat.{◌+◌}
use mathlib.Core.Path.{sym, ◌∙◌}
use native.Mathlib.Omega.{arith}
use lib.ListN.{length-set}
use Rattle.bids.proofs.Numbers.{length_bytes}
use Rattle.conversion.proofs.Putting.{byte_put, bytes_put}
use Rattle.conversion.proofs.put.Goals as goal

pub loop-i-preserved : goal.loop-i-preserved
loop-i-preserved c = (
  simp length-set c.loop-i.invariant.0,
  byte_put c.loop-i.out c.loop-i.rest (omega arith) (omega arith) ∙ c.loop-i.invariant.1,
)

pub returns : goal.returns
returns c = record {
  stored = sym (bytes_put c.loop-i.out (c.args.at + c.loop-i.i) c.loop-i.rest (omega arith)) ∙ c.loop-i.invariant.1;
  next = rw length_bytes;
}
