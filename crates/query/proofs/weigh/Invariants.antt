use Rattle.query.specs.Reading.{Filled, weight_word}
use Rattle.query.proofs.weigh.Given as goal

abbrev pub invariant-loop-k : goal.invariant-loop-k
invariant-loop-k l = Filled (weight_word l.weights l.scale l.t) l.k l.work
