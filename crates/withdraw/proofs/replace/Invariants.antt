use Rattle.withdraw.specs.State.{ReplacedTo}
use Rattle.withdraw.proofs.replace.Given as goal

abbrev pub invariant-loop-a : goal.invariant-loop-a
invariant-loop-a l = ReplacedTo l.work l.initial.answers l.a-index l.answers
