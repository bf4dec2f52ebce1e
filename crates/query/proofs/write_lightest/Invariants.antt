use Rattle.query.proofs.WeightWords.{Way}
use Rattle.query.proofs.Pages.{Page}
use Rattle.query.specs.Questions.{family_at}
use Rattle.query.specs.Reading.{lightest}
use Rattle.query.proofs.write_lightest.Given as goal

abbrev pub invariant-loop-node : goal.invariant-loop-node
invariant-loop-node l = Way l.t l.a l.node l.n × Page (lightest l.weights l.scale (family_at l.t l.a)) l.initial.page l.page l.n (lightest l.weights l.scale (family_at l.t l.node))

abbrev pub decreases-loop-node : goal.decreases-loop-node
decreases-loop-node l = l.node
