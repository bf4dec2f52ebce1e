use mathlib.Core.Path.{sym}
use Rattle.itemset.proofs.Lists.{zip, both_words}
use Rattle.itemset.proofs.Three.{pairs, known}
use Rattle.itemset.proofs.both.Goals as goal

pub returns : goal.returns
unfolding zip
returns c = sym (both_words (pairs c.args.x c.args.y (known c.args.x c.well_formed.0) (known c.args.y c.well_formed.1.0)))
