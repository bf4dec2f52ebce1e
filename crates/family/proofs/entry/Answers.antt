use Rattle.family.specs.Memo.{entry_at}
use Rattle.family.proofs.entry.Goals as goal

pub returns : goal.returns
unfolding entry_at
returns c = c.choose.ensures
