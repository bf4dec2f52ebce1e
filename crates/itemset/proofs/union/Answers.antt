use mathlib.Core.Path.{sym}
use Rattle.itemset.specs.Items.{union}
use Rattle.itemset.proofs.Lists.{zip, union_words}
use Rattle.itemset.proofs.Three.{pairs, known}
use Rattle.itemset.proofs.union.Goals as goal

pub returns : goal.returns
unfolding union zip
returns c = sym (union_words (pairs c.args.x c.args.y (known c.args.x c.well_formed.0) (known c.args.y c.well_formed.1.0)))
