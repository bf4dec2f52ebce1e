use mathlib.Core.Path.{sym}
use Rattle.itemset.specs.Items.{without}
use Rattle.itemset.proofs.Lists.{zip, without_words}
use Rattle.itemset.proofs.Three.{pairs, known}
use Rattle.itemset.proofs.without.Goals as goal

pub returns : goal.returns
unfolding without zip
returns c = sym (without_words (pairs c.args.a c.args.p (known c.args.a c.well_formed.0) (known c.args.p c.well_formed.1.0)))
