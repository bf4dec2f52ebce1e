use Rattle.table.proofs.CheckLaws.{refused, not_fine, not-once, decided}
use borrow.Author.Tests.{eqb-true}
use Rattle.std.proofs.lemmas.List.{take_rest}
use native.Mathlib.Omega.{arith}
use mathlib.Core.Path.{sym, refl}
use lib.ListN.{length}
use Rattle.table.proofs.check.Goals as goal

pub returns-then-is_empty : goal.returns-then-is_empty
returns-then-is_empty c = refused _ _ _ (λ s. omega (arith, s.room, eqb-true (length c.args.t.now) 0 (sym c.if-is_empty.ensures)))

pub returns-then-n-gt65534 : goal.returns-then-n-gt65534
returns-then-n-gt65534 c = refused _ _ _ (λ s. omega (arith, s.few))

pub returns-then-n-t : goal.returns-then-n-t
returns-then-n-t c = refused _ _ _ (λ s. omega (arith, s.room))

pub returns-then-not-node_fits : goal.returns-then-not-node_fits
returns-then-not-node_fits c = refused _ _ _ (not_fine (omega arith) (c.node_fits.ensures.no c.if-not-node_fits.true))

pub returns-then-not-enter : goal.returns-then-not-enter
returns-then-not-enter c = refused _ _ _ (not-once (omega arith) c.enter.ensures c.if-not-enter.true)

pub returns : goal.returns
returns c = decided c.loop-i.invariant (record { fit = omega arith; few = omega arith }) (omega arith) refl (rw take_rest at c.zeros.ensures)
