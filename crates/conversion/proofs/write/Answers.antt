use native.Mathlib.Omega.{arith}
use Rattle.conversion.proofs.Putting.{body_long, file-long, file-put, placed, puts_start}
use Rattle.conversion.proofs.write.Goals as goal

pub check-sum-requires : goal.check-sum-requires
check-sum-requires c = let body = body_long c.args.from c.args.to c.requires.header_post.0 c.requires.packages_in_bounds.1 in
    omega (arith, placed c.put_body-end.ensures body, c.requires.packages_in_bounds.0)

pub put-requires : goal.put-requires
put-requires c = let body = body_long c.args.from c.args.to c.requires.header_post.0 c.requires.packages_in_bounds.1 in
    omega (arith, placed c.put_body-end.ensures body, c.requires.packages_in_bounds.0)

pub returns : goal.returns
returns c = let body = body_long c.args.from c.args.to c.requires.header_post.0 c.requires.packages_in_bounds.1 in
    let whole = file-long c.args.from c.args.to c.requires.header_post.0 c.requires.packages_in_bounds.1 in
    puts_start (file-put _ _ c.put_body-end.ensures (omega (arith, body, c.requires.packages_in_bounds.0)) c.check-sum.ensures c.put.ensures)
    (omega (arith, whole, c.requires.packages_in_bounds.0))
