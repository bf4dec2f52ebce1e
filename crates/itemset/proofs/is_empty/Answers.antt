use mathlib.Core.Path.{ap, ◌∙◌}
use lib.Dec.{eqb}
use Rattle.itemset.specs.Words.{value}
use Rattle.itemset.proofs.Three.{known, equal_is, zero_known, default_is}
use Rattle.itemset.proofs.is_empty.Goals as goal

pub returns : goal.returns
returns c = let none = c.default.result in c.eq.ensures ∙ equal_is c.args.x none (known c.args.x c.well_formed.0) (zero_known none c.default.ensures)
    ∙ ap (eqb (value c.args.x)) (default_is none c.default.ensures)
