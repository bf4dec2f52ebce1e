use Rattle.exact_cover.proofs.Shortening.{Moved}
use Rattle.exact_cover.proofs.shorten.Given as goal

abbrev pub invariant-loop-p : goal.invariant-loop-p
invariant-loop-p l = Moved l.initial.packages l.gone l.packages l.j l.r l.p
