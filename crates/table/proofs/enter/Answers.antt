use Rattle.table.proofs.IndexLaws.{more}
use Rattle.table.proofs.CheckLaws.{node_at, entered_twice, entered_new}
use Rattle.zdd.proofs.Words.{at-word}
use native.Mathlib.Omega.{arith}
use Prim.Native.Nat.{◌+◌, ◌*◌}
use mathlib.Core.Path.{refl}
use Rattle.table.proofs.enter.Goals as goal

pub returns-then-find-ne0 : goal.returns-then-find-ne0
returns-then-find-ne0 c = entered_twice _ c.find.ensures (omega arith) (node_at c.args.t.now c.args.i c.requires.i_bound)

pub returns : goal.returns
returns c =
    let n = node_at c.args.t.now c.args.i c.requires.i_bound in
    rw c.insert.ensures
    (entered_new c.find.ensures c.if-find-ne0.false n
    (more c.args.i c.hash-h.result _ (at-word c.args.t.now (1 + 3 * c.args.i)) c.requires.indexed_to refl (omega (arith, c.requires.room.few)) c.hash-h.ensures.1 c.hash-h.ensures.0 n))
