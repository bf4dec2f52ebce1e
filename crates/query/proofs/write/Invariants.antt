use Rattle.query.proofs.Pages.{Page}
use Rattle.query.proofs.Walks.{PickWalk}
use Rattle.query.specs.Questions.{family_at, nth}
use Prim.Native.Nat.{◌≤◌}
use Rattle.query.proofs.write.Given as goal

abbrev pub invariant-loop-node : goal.invariant-loop-node
invariant-loop-node l = PickWalk l.t l.a l.node l.left l.n × (l.left ≤ l.k) × Page (nth (family_at l.t l.a) l.k) l.initial.page l.page l.n (nth (family_at l.t l.node) l.left)

abbrev pub decreases-loop-node : goal.decreases-loop-node
decreases-loop-node l = l.node
