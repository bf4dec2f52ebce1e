use Rattle.query.proofs.WeightWords.{Way}
use Rattle.query.specs.Questions.{family_at}
use Rattle.query.specs.Reading.{lightest}
use lib.ListN.{length}
use Prim.Native.Nat.{◌+◌}
use mathlib.Core.Path.{◌≡◌}
use Rattle.query.proofs.measure_lightest.Given as goal

abbrev pub invariant-loop-node : goal.invariant-loop-node
invariant-loop-node l = Way l.t l.a l.node l.n × (length (lightest l.weights l.scale (family_at l.t l.a)) ≡ l.n + length (lightest l.weights l.scale (family_at l.t l.node)))

abbrev pub decreases-loop-node : goal.decreases-loop-node
decreases-loop-node l = l.node
