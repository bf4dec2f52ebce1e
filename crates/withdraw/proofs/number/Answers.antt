use Rattle.zdd.proofs.Ranks.{rank_most}
use Rattle.withdraw.proofs.NameLaws.{number_start, number_gone, number_stays}
use native.Mathlib.Omega.{arith}
use mathlib.Core.Path.{refl}
use Rattle.withdraw.proofs.number.Goals as goal
use Rattle.withdraw.proofs.number.Goals.{then-name-ne0, else-name-ne0}

pub loop-name-init : goal.loop-name-init
loop-name-init c = number_start c.requires.struck

pub overflow_add-c : goal.overflow_add-c
overflow_add-c c = omega (arith, c.loop-name.invariant.counted, rank_most c.args.gone.now c.loop-name.name-index, c.requires.names_len_bound)

pub loop-name-preserved : goal.loop-name-preserved
loop-name-preserved c = elim c.if-name-ne0.branch [
  | then-name-ne0 w ↦ rw (w.names-is, w.c-is) (number_gone c.loop-name.invariant (omega arith) w.if-name-ne0.true)
  | else-name-ne0 w ↦ rw (w.names-is, w.c-is) (number_stays c.loop-name.invariant (omega arith) _ refl (omega arith))
]
