use mathlib.Core.Path.{sym}
use native.Mathlib.Nat.{lt_of_lt_of_le}
use lib.Pow.{pow_mono}
use Rattle.itemset.proofs.Laws.{lt_below, below-shift}
use Rattle.itemset.proofs.below_word.Goals as goal

pub returns-then-m-ge64 : goal.returns-then-m-ge64
returns-then-m-ge64 c = sym (lt_below c.args.x c.args.m (lt_of_lt_of_le c.ranges.x.fits (pow_mono c.if-m-ge64.true)))

pub returns : goal.returns
returns c = below-shift c.args.x c.args.m
