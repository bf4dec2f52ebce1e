use Rattle.query.proofs.Differences.{lightest-cheapest, weight-cheapest}
use Rattle.query.proofs.cheapest.Goals as goal

pub returns : goal.returns
returns c = rw (weight-cheapest c.args.costs.now _, lightest-cheapest c.args.costs.now _) at c.lightest.ensures
