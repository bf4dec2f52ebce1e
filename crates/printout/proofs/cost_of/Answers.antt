use Rattle.printout.proofs.Putting.{cost-none, cost-more}
use native.Mathlib.Omega.{arith}
use Rattle.printout.proofs.cost_of.Goals as goal

pub loop-p-init : goal.loop-p-init
loop-p-init c = (cost-none c.args.costs.now c.args.list.now, omega arith)

pub loop-p-preserved : goal.loop-p-preserved
loop-p-preserved c = (
  omega (arith, c.loop-p.invariant.0, c.price-sum.ensures.0, cost-more c.args.costs.now c.args.list.now c.loop-p.p-index c.loop-p-test.true),
  omega (arith, c.price-sum.ensures.1),
)
