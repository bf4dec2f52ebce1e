use Rattle.bids.proofs.Records.{school_told, school_hit, no_school}
use Rattle.bids.proofs.Places.{school_first, school_next, school_inside}
use Rattle.bids.proofs.Laws.{first-zero, first_more}
use Rattle.bids.specs.Format.{schools_in}
use Rattle.bids.specs.Contents.{school_in, school_twice}
use borrow.Author.Tests.{lt-ltb, le-ltb}
use mathlib.Core.Path.{sym}
use native.Mathlib.Omega.{arith}
use Rattle.bids.proofs.school_twice.Goals as goal

pub loop-j-init : goal.loop-j-init
loop-j-init c = (sym (school_first c.args.layout), first-zero _)

pub school_record-school-requires-clause-site_in_bounds : goal.school_record-school-requires-clause-site_in_bounds
school_record-school-requires-clause-site_in_bounds c =
    omega (arith, school_inside c.args.layout c.loop-j-test.true, c.loop-j.invariant.0, c.requires.s_in_bounds)

pub school_index-before-requires-clause-n_in_bounds : goal.school_index-before-requires-clause-n_in_bounds
school_index-before-requires-clause-n_in_bounds c = (omega (arith, school_inside c.args.layout c.loop-j-test.true, c.requires.s_in_bounds), omega arith)

pub returns-then-before-j : goal.returns-then-before-j
unfolding school_twice
returns-then-before-j c =
    let j = c.loop-j.j in
    let found = school_told c.args.layout c.args.file.now (school_in (schools_in c.args.layout c.args.file.now) j) j c.loop-j.invariant.0 (omega arith)
    c.school_record-school.ensures c.school_index-before.ensures in
    school_hit c.args.layout c.args.file.now _ j c.loop-j.invariant.1 (omega arith) (rw found (lt-ltb _ _ c.if-before-j.true))

pub loop-j-preserved : goal.loop-j-preserved
loop-j-preserved c =
    let j = c.loop-j.j in
    let found = school_told c.args.layout c.args.file.now (school_in (schools_in c.args.layout c.args.file.now) j) j c.loop-j.invariant.0 (omega arith)
    c.school_record-school.ensures c.school_index-before.ensures in (
      omega (arith, school_next c.args.layout j, c.school_record-school.ensures.next),
      first_more _ j c.loop-j.invariant.1 (rw found (le-ltb _ _ c.if-before-j.false)),
    )

pub returns : goal.returns
unfolding school_twice
returns c = no_school c.args.layout c.args.file.now _ c.loop-j.j c.loop-j.invariant.1 (omega arith)
