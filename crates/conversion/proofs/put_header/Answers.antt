use native.Mathlib.Omega.{arith}
use Rattle.conversion.specs.Writing.{header_bytes}
use Rattle.bids.proofs.Numbers.{length_bytes}
use Rattle.conversion.proofs.Putting.{placed, mark-put, puts_both, puts_length}
use Rattle.conversion.proofs.put_header.Goals as goal

pub put-after_schools-requires : goal.put-after_schools-requires
put-after_schools-requires c =
    let mark = puts_length (mark-put c.args.out.now (omega arith) c.copy_from_slice.ensures.after) in
    omega (arith, mark, placed c.put-after_version.ensures (length_bytes 2 _), c.requires.1.header)

pub put-after_slots-requires : goal.put-after_slots-requires
put-after_slots-requires c =
    let mark = puts_length (mark-put c.args.out.now (omega arith) c.copy_from_slice.ensures.after) in
    let version = placed c.put-after_version.ensures (length_bytes 2 _) in
    omega (arith, mark, version, placed c.put-after_schools.ensures (length_bytes 1 _), c.requires.1.header)

pub put-after_packages-requires : goal.put-after_packages-requires
put-after_packages-requires c =
    let mark = puts_length (mark-put c.args.out.now (omega arith) c.copy_from_slice.ensures.after) in
    let version = placed c.put-after_version.ensures (length_bytes 2 _) in
    let schools = placed c.put-after_schools.ensures (length_bytes 1 _) in
    omega (arith, mark, version, schools, placed c.put-after_slots.ensures (length_bytes 1 _), c.requires.1.header)

pub put-requires : goal.put-requires
put-requires c =
    let mark = puts_length (mark-put c.args.out.now (omega arith) c.copy_from_slice.ensures.after) in
    let version = placed c.put-after_version.ensures (length_bytes 2 _) in
    let schools = placed c.put-after_schools.ensures (length_bytes 1 _) in
    let slots = placed c.put-after_slots.ensures (length_bytes 1 _) in
    let packages = placed c.put-after_packages.ensures (length_bytes 2 _) in
    omega (arith, mark, version, schools, slots, packages, c.requires.1.header)

pub returns : goal.returns
unfolding header_bytes
returns c = puts_both (mark-put _ (omega (arith, c.requires.1.header)) c.copy_from_slice.ensures.after)
    (puts_both c.put-after_version.ensures (puts_both c.put-after_schools.ensures
    (puts_both c.put-after_slots.ensures (puts_both c.put-after_packages.ensures c.put.ensures))))
