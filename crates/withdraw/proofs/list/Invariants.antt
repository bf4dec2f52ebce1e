use Rattle.withdraw.specs.State.{ListedTo}
use Rattle.withdraw.proofs.list.Given as goal

abbrev pub invariant-loop-a : goal.invariant-loop-a
invariant-loop-a l = ListedTo l.answers l.m l.a-index l.work
