use Rattle.itemset.proofs.Stored.{length-sets_of}
use mathlib.Core.Path.{sym}
use Rattle.exact_cover.proofs.number.Goals as goal

pub returns : goal.returns
returns c = sym (length-sets_of c.args.packages.now)
