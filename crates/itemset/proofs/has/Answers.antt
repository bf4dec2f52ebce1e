use mathlib.Core.Path.{sym, ap, ◌∙◌}
use Prim.Native.Nat.{◌%◌}
use native.Mathlib.Omega.{arith}
use Rattle.itemset.specs.Items.{holds}
use Rattle.itemset.proofs.Laws.{holds-shift}
use Rattle.itemset.proofs.Lists.{width_is, holds_words}
use Rattle.itemset.proofs.Three.{words, known}
use Rattle.itemset.proofs.has.Goals as goal

pub word-requires : goal.word-requires
word-requires c = omega (arith, width_is, c.requires)

pub returns : goal.returns
returns c = holds-shift (c.args.i % 64) c.word.result ∙ ap (holds (c.args.i % 64)) c.word.ensures ∙ sym (holds_words (words c.args.x (known c.args.x c.well_formed.0)) c.args.i)
