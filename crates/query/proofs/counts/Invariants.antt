use Rattle.query.specs.Reading.{Filled, count_word}
use Rattle.query.proofs.counts.Given as goal

abbrev pub invariant-loop-k : goal.invariant-loop-k
invariant-loop-k l = Filled (count_word l.t) l.k l.work
