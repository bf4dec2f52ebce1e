use native.Mathlib.Omega.{arith}
use Rattle.conversion.specs.Writing.{school_bytes}
use Rattle.bids.proofs.Numbers.{length_bytes}
use Rattle.conversion.proofs.Putting.{placed, puts_both}
use Rattle.conversion.proofs.put_school.Goals as goal

pub put-requires : goal.put-requires
put-requires c = omega (arith, placed c.put-after_site.ensures (length_bytes _ _))

pub returns : goal.returns
unfolding school_bytes
returns c = puts_both c.put-after_site.ensures c.put.ensures
