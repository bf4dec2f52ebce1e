use Rattle.query.proofs.Walks.{PickWalk}
use Rattle.query.specs.Questions.{family_at, nth}
use lib.ListN.{length}
use Prim.Native.Nat.{◌+◌, ◌≤◌}
use mathlib.Core.Path.{◌≡◌}
use Rattle.query.proofs.measure.Given as goal

abbrev pub invariant-loop-node : goal.invariant-loop-node
invariant-loop-node l = PickWalk l.t l.a l.node l.rest l.n × (l.rest ≤ l.k) × (length (nth (family_at l.t l.a) l.k) ≡ l.n + length (nth (family_at l.t l.node) l.rest))

abbrev pub decreases-loop-node : goal.decreases-loop-node
decreases-loop-node l = l.node
