use Rattle.guard.proofs.GuardLaws.{Marked}
use Rattle.guard.proofs.orderly.Given as goal

abbrev pub invariant-loop-item : goal.invariant-loop-item
invariant-loop-item l = Marked l.m l.order l.item-index l.marks
