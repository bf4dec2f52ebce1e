use Rattle.history.specs.Script.{possible}
use Rattle.history.proofs.Requests.{stop, goes, or_skip}
use Rattle.base.proofs.Bools.{or_left}
use mathlib.Core.Path.{sym}
use borrow.Author.Tests.{lt-ltb, le-ltb, le-leb, lt-leb, eq-eqb, ne_eqb}
use Rattle.history.proofs.fits.Goals as goal

pub returns-then-q-ge4294967296 : goal.returns-then-q-ge4294967296
unfolding possible
returns-then-q-ge4294967296 c = stop _ (le-ltb _ _ c.if-q-ge4294967296.true)

pub returns-then-q-ge4294967296-2 : goal.returns-then-q-ge4294967296-2
unfolding possible
returns-then-q-ge4294967296-2 c = goes _ (lt-ltb _ _ c.if-q-ge4294967296.false) (stop _ (le-ltb _ _ c.if-q-ge4294967296-2.true))

pub returns-then-q-room : goal.returns-then-q-room
unfolding possible
returns-then-q-room c = goes _ (lt-ltb _ _ c.if-q-ge4294967296.false) (goes _ (lt-ltb _ _ c.if-q-ge4294967296-2.false) (stop _ (lt-leb _ _ c.if-q-room.true)))

pub returns-then-q-eq0 : goal.returns-then-q-eq0
unfolding possible
returns-then-q-eq0 c = goes _ (lt-ltb _ _ c.if-q-ge4294967296.false)
    (goes _ (lt-ltb _ _ c.if-q-ge4294967296-2.false) (goes _ (le-leb _ _ c.if-q-room.false) (sym (or_left _ _ (eq-eqb _ _ c.if-q-eq0.true)))))

pub returns : goal.returns
unfolding possible
returns c = goes _ (lt-ltb _ _ c.if-q-ge4294967296.false)
    (goes _ (lt-ltb _ _ c.if-q-ge4294967296-2.false) (goes _ (le-leb _ _ c.if-q-room.false) (or_skip _ (ne_eqb _ _ c.if-q-eq0.false))))
