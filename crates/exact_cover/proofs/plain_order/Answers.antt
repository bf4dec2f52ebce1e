use Rattle.exact_cover.proofs.LocateLaws.{counted-all}
use native.Mathlib.Omega.{arith}
use Rattle.exact_cover.proofs.plain_order.Goals as goal

pub returns : goal.returns
returns c = counted-all c.loop-i.i (omega arith) c.loop-i.invariant
