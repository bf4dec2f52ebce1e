use borrow.Author.Tests.{eq-eqb, not-true}
use Rattle.base.proofs.Bools.{never}
use Rattle.table.proofs.CheckLaws.{no_label, no_hi, no_lo, by_hi}
use native.Mathlib.Omega.{arith}
use Prim.Native.Nat.{◌+◌, ◌*◌}
use lib.ListN.{get_or}
use mathlib.Core.Path.{sym, ◌∙◌}
use Rattle.table.proofs.node_fits.Goals as goal
use Rattle.table.proofs.node_fits.Goals.{then-hi-ne0, else-hi-ne0}

pub returns-then-label-keys : goal.returns-then-label-keys
returns-then-label-keys c = no_label c.args.keys.now c.args.t.now c.args.i c.requires.i_bound (omega arith)

pub returns-then-child_fits : goal.returns-then-child_fits
returns-then-child_fits c = elim c.if-hi-ne0.branch [
  | then-hi-ne0 w ↦ by_hi c.args.keys.now c.args.t.now c.args.i c.requires.i_bound (omega arith) (omega arith)
      (w.child_fits.ensures.yes (sym w.value-is ∙ c.if-child_fits.true)) c.child_fits-then-child_fits.ensures
  | else-hi-ne0 w ↦ absurd (never (eq-eqb (get_or c.args.t.now (1 + 3 * c.args.i + 2) 0) 0 w.if-hi-ne0.false) (not-true _ (sym w.value-is ∙ c.if-child_fits.true)))
]

pub returns-else-child_fits : goal.returns-else-child_fits
returns-else-child_fits c =
    rw c.if-child_fits.false
    (elim c.if-hi-ne0.branch [
      | then-hi-ne0 w ↦ no_lo c.args.keys.now c.args.t.now c.args.i c.requires.i_bound (w.child_fits.ensures.no (sym w.value-is ∙ c.if-child_fits.false))
      | else-hi-ne0 w ↦ no_hi c.args.keys.now c.args.t.now c.args.i c.requires.i_bound (omega arith)
    ])
