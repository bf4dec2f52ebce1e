use Rattle.history.proofs.Requests.{stop, goes}
use Rattle.history.specs.Script.{runs}
use borrow.Author.Tests.{lt-ltb, le-ltb}
use mathlib.Core.Path.{sym, ◌∙◌}
use Rattle.history.proofs.ready.Goals as goal

pub returns-then-i-script : goal.returns-then-i-script
unfolding runs
returns-then-i-script c = stop _ (le-ltb _ _ c.if-i-script.true)

pub returns-then-i-places : goal.returns-then-i-places
unfolding runs
returns-then-i-places c = goes _ (lt-ltb _ _ c.if-i-script.false) (stop _ (le-ltb _ _ c.if-i-places.true))

pub returns-then-not-fits : goal.returns-then-not-fits
unfolding runs
returns-then-not-fits c = goes _ (lt-ltb _ _ c.if-i-script.false)
    (goes _ (lt-ltb _ _ c.if-i-places.false) (stop _ (rw c.asked-q.ensures at (sym c.fits.ensures ∙ c.if-not-fits.true))))

pub returns : goal.returns
unfolding runs
returns c = goes _ (lt-ltb _ _ c.if-i-script.false)
    (goes _ (lt-ltb _ _ c.if-i-places.false)
    (goes _ (rw c.asked-q.ensures at (sym c.fits.ensures ∙ c.if-not-fits.false))
    (rw (c.asked-q.ensures, c.nodes-n.ensures) at c.operands_pass.ensures)))
