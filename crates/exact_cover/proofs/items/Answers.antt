use Rattle.itemset.proofs.Stored.{length-sets_of, sets_of-at}
use native.Mathlib.Omega.{arith}
use mathlib.Core.Path.{sym, ◌∙◌}
use Rattle.exact_cover.proofs.items.Goals as goal

pub overflow_mul-k : goal.overflow_mul-k
overflow_mul-k c = omega (arith, length-sets_of c.args.packages.now, c.requires)

pub read-requires : goal.read-requires
read-requires c = omega (arith, length-sets_of c.args.packages.now, c.requires)

pub returns : goal.returns
returns c = c.read.ensures ∙ sym (sets_of-at c.args.packages.now c.args.k (omega (arith, length-sets_of c.args.packages.now, c.requires)))
