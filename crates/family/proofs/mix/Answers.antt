use Rattle.family.specs.Memo.{mixed}
use borrow.Author.Rules.{rules}
use Rattle.family.proofs.mix.Goals as goal

pub returns : goal.returns
unfolding mixed
returns c = search rules
