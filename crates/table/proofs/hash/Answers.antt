use Rattle.table.specs.State.{hash_of}
use borrow.Author.Rules.{rules}
use Rattle.table.proofs.hash.Goals as goal

pub returns : goal.returns
unfolding hash_of
returns c = search rules
