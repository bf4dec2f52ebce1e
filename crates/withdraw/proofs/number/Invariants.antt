use Rattle.withdraw.specs.State.{NumberedTo}
use lib.ListN.{length}
use Rattle.withdraw.proofs.number.Given as goal

abbrev pub invariant-loop-name : goal.invariant-loop-name
invariant-loop-name l = NumberedTo l.gone (length l.initial.names) l.name-index l.c l.names
