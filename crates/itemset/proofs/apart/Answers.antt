use Rattle.itemset.specs.Items.{apartb}
use Rattle.itemset.proofs.apart.Goals as goal

pub returns : goal.returns
unfolding apartb
returns c = cc
