use Rattle.exact_cover.proofs.LocateLaws.{InverseTo}
use Rattle.exact_cover.proofs.invert.Given as goal

abbrev pub invariant-loop-j : goal.invariant-loop-j
invariant-loop-j l = InverseTo l.order l.j l.inverse
