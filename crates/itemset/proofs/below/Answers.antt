use mathlib.Core.Path.{sym, ◌∙◌}
use Rattle.itemset.proofs.Lists.{below_words_lem}
use Rattle.itemset.proofs.Three.{words, known, below_three}
use Rattle.itemset.proofs.below.Goals as goal

pub returns : goal.returns
returns c = (cc) ∙ below_three c.args.x c.args.m ∙ sym (below_words_lem (words c.args.x (known c.args.x c.well_formed.0)) c.args.m)
