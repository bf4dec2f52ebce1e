use mathlib.Core.Path.{ap, ◌∙◌}
use Prim.Native.Nat.{ℕ}
use lib.Dec.{eqb}
use Rattle.itemset.specs.Items.{insideb}
use Rattle.itemset.specs.Words.{value}
use Rattle.itemset.proofs.Three.{known, equal_is}
use Rattle.itemset.proofs.inside.Goals as goal

pub returns : goal.returns
unfolding insideb
returns c = c.eq.ensures ∙ equal_is c.both.result c.args.p (known c.both.result c.both.type_inv) (known c.args.p c.well_formed.0)
    ∙ ap (λ (n : ℕ). eqb n (value c.args.p)) c.both.ensures
