use native.Mathlib.Omega.{arith}
use Rattle.bids.specs.Format.{school_place, package_place}
use Rattle.bids.proofs.Places.{header_before, school_before}
use Rattle.conversion.proofs.Putting.{schools-inside, header_placed, schools-long, placed, body_put}
use Rattle.conversion.proofs.put_body.Goals as goal

pub optional_slots-optional-requires-clause-header_in_bounds : goal.optional_slots-optional-requires-clause-header_in_bounds
optional_slots-optional-requires-clause-header_in_bounds c =
    let h = c.args.h in
    omega (arith, c.requires.header_post.1.long, header_before c.args.from h.schools, school_before c.args.from h.schools h.packages)

pub put_header-after_header-requires : goal.put_header-after_header-requires
put_header-after_header-requires c =
    let h = c.args.h in
    let room = c.requires.packages_in_bounds in
    (omega (arith, room.0, header_before c.args.to h.schools, school_before c.args.to h.schools h.packages), room.1)

pub put_schools-after_schools-requires-clause-file_in_bounds : goal.put_schools-after_schools-requires-clause-file_in_bounds
put_schools-after_schools-requires-clause-file_in_bounds c =
    (schools-inside c.args.from c.requires.header_post.1, c.requires.header_post.1.counts.0)

pub put_schools-after_schools-requires-clause-s_in_bounds : goal.put_schools-after_schools-requires-clause-s_in_bounds
unfolding school_place package_place
put_schools-after_schools-requires-clause-s_in_bounds c =
    let room = c.requires.packages_in_bounds in
    omega (arith, room.0, header_placed c.args.from c.args.to c.requires.header_post.0 room.1 _ _ _ _ c.put_header-after_header.ensures)

pub put_packages-requires-clause-n_in_bounds_2 : goal.put_packages-requires-clause-n_in_bounds_2
unfolding school_place package_place
put_packages-requires-clause-n_in_bounds_2 c =
    let room = c.requires.packages_in_bounds in
    let p = c.requires.header_post.0 in
    let header = header_placed c.args.from c.args.to p room.1 _ _ _ _ c.put_header-after_header.ensures in
    omega (arith, room.0, header, placed c.put_schools-after_schools.ensures (schools-long c.args.from c.args.to p))

pub returns : goal.returns
returns c =
    body_put c.args.from c.args.to c.requires.header_post.0 c.optional_slots-optional.ensures c.put_header-after_header.ensures
    c.put_schools-after_schools.ensures c.put_packages.ensures
