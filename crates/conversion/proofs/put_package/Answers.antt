use native.Mathlib.Omega.{arith}
use Rattle.conversion.specs.Writing.{package_bytes}
use Rattle.bids.proofs.Numbers.{length_bytes}
use Rattle.conversion.proofs.Written.{length_school}
use Rattle.conversion.proofs.Putting.{placed, puts_both}
use Rattle.conversion.proofs.put_package.Goals as goal

pub put-after_slots-requires : goal.put-after_slots-requires
put-after_slots-requires c = omega (arith, placed c.put_school-after_school.ensures (length_school _ _))

pub put-requires : goal.put-requires
put-requires c = omega (arith, placed c.put_school-after_school.ensures (length_school _ _), placed c.put-after_slots.ensures (length_bytes 8 _))

pub returns : goal.returns
unfolding package_bytes
returns c = puts_both c.put_school-after_school.ensures (puts_both c.put-after_slots.ensures c.put.ensures)
