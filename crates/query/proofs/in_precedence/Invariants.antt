use Rattle.query.proofs.Precede.{Along}
use Rattle.query.proofs.in_precedence.Given as goal

abbrev pub invariant-loop-i : goal.invariant-loop-i
invariant-loop-i l = Along l.keys l.s l.i
