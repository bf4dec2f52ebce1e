use Rattle.engine.proofs.Withdrawing.{rising_start, rising_falls, rising-unknown, rising-more, rising_end}
use Rattle.statement.specs.Refusals.{not_rising}
use Rattle.itemset.specs.Words.{sets_of}
use mathlib.Core.Path.{refl, sym}
use native.Mathlib.Omega.{arith}
use Rattle.engine.proofs.not_rising.Goals as goal

pub loop-package-init : goal.loop-package-init
loop-package-init c = rising_start (sets_of c.args.packages.now) c.args.gone.now

pub returns-then-p-least : goal.returns-then-p-least
unfolding not_rising
returns-then-p-least c optional order = sym (rising_falls c.loop-package.invariant _ c.loop-package-test.true refl c.if-p-least.true)

pub returns-then-n-p : goal.returns-then-n-p
unfolding not_rising
returns-then-n-p c optional order = sym (rising-unknown c.loop-package.invariant _ c.loop-package-test.true refl (omega (arith, c.if-p-least.false)) (omega (arith, c.number-n.ensures, c.if-n-p.true)))

pub loop-package-preserved : goal.loop-package-preserved
loop-package-preserved c = rising-more c.loop-package.invariant _ c.loop-package-test.true refl (omega (arith, c.if-p-least.false)) (omega (arith, c.number-n.ensures, c.if-n-p.false))

pub returns : goal.returns
unfolding not_rising
returns c optional order = sym (rising_end c.loop-package.invariant c.loop-package-test.false)
