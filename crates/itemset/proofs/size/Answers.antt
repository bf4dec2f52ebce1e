use native.Mathlib.Omega.{arith}
use Rattle.itemset.proofs.Laws.{size_ones}
use Rattle.itemset.proofs.Lists.{size_words, size_words_lem}
use Rattle.itemset.proofs.Three.{words, known}
use Rattle.itemset.proofs.size.Goals as goal

pub returns : goal.returns
unfolding size_words
returns c = omega (arith, size_words_lem (words c.args.x (known c.args.x c.well_formed.0)), size_ones c.args.x.w0, size_ones c.args.x.w1, size_ones c.args.x.w2)
