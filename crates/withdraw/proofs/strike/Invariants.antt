use Rattle.withdraw.specs.State.{Struck}
use lib.ListN.{length}
use Rattle.withdraw.proofs.strike.Given as goal

abbrev pub invariant-loop-p : goal.invariant-loop-p
invariant-loop-p l = Struck l.gone l.p-index (length l.initial.names) l.names
