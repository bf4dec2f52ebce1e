use Rattle.table.proofs.RollLaws.{wiped, wiped_none, rolled}
use Rattle.std.proofs.Common.{rules, ◌+◌, ◌*◌}
use native.Mathlib.Omega.{arith}
use Rattle.zdd.specs.Table.{count}
use Rattle.table.proofs.rollback.Goals as goal
use Rattle.table.proofs.rollback.Goals.{then-start-end, else-start-end}

pub returns : goal.returns
returns c =
    let start = 3 * c.args.n + 1 in
    let end = 3 * count c.args.t.now + 1 in
    elim c.if-start-end.branch [
      | then-start-end w ↦ rw w.t-is (rolled c.args.n (wiped c.args.t.now _ start end (omega arith) (omega arith) (search rules)) c.requires (omega arith) (omega arith))
      | else-start-end w ↦ rw w.t-is (rolled c.args.n (wiped_none c.args.t.now start) c.requires (omega arith) (omega arith))
    ]
