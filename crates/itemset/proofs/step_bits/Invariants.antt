use Rattle.itemset.proofs.Places.{Shifted}
use Rattle.itemset.proofs.step_bits.Given as goal

abbrev pub invariant-loop-i : goal.invariant-loop-i
invariant-loop-i l = Shifted l.r l.w l.p l.i l.s
