use borrow.Author.Tests.{eqb-true, eq-eqb}
use Rattle.base.proofs.Bools.{never}
use Rattle.table.proofs.CheckLaws.{tells_no, third, node_at}
use Rattle.zdd.specs.Table.{Node, node}
use Prim.Native.Nat.{◌+◌, ◌*◌}
use lib.ListN.{get_or}
use mathlib.Core.Path.{sym, ap, ◌∙◌}
use Rattle.table.proofs.is_node.Goals as goal
use Rattle.table.proofs.is_node.Goals.{then-t-w, else-t-w}

pub returns-then-t-w-2 : goal.returns-then-t-w-2
returns-then-t-w-2 c = elim c.if-t-w.branch [
  | then-t-w w ↦ third c.args.t.now c.args.i (node c.args.label c.args.lo c.args.hi) c.requires.i_bound w.if-t-w.true (eqb-true _ _ (sym w.value-is ∙ c.if-t-w-2.true))
  | else-t-w w ↦ absurd (w.if-t-w.false (eqb-true _ _ (sym w.value-is ∙ c.if-t-w-2.true)))
]

pub returns-else-t-w-2 : goal.returns-else-t-w-2
returns-else-t-w-2 c =
    let n = node_at c.args.t.now c.args.i c.requires.i_bound in
    rw c.if-t-w-2.false
    (tells_no (λ e. elim c.if-t-w.branch [
      | then-t-w w ↦ never (eq-eqb (get_or c.args.t.now (1 + 3 * c.args.i + 1) 0) c.args.lo (ap (λ (y : Node). y.lo) (sym n ∙ e))) (sym w.value-is ∙ c.if-t-w-2.false)
      | else-t-w w ↦ w.if-t-w.false (ap (λ (y : Node). y.label) (sym n ∙ e))
    ]))
