use mathlib.Core.List.{[], ◌∷◌}
use Rattle.itemset.proofs.Three.{no_others}
use Rattle.memo.proofs.Storing.{stored_low, stored-all}
use Rattle.memo.proofs.store.Goals as goal

pub returns-then-x : goal.returns-then-x
returns-then-x c = stored_low c.args.places c.args.memo.now c.args.at c.args.x.w0 c.args.number (c.args.x.w1 ∷ c.args.x.w2 ∷ []) c.requires.places_in_bounds c.requires.at_lt_places
    c.ranges.number.fits (no_others c.args.x c.if-x.true)

pub returns : goal.returns
returns c = stored-all c.args.places c.args.memo.now c.args.at c.args.x.w0 c.args.x.w1 c.args.x.w2 c.args.number c.requires.places_in_bounds c.requires.at_lt_places
    c.ranges.number.fits
