use Rattle.family.specs.Memo.{place_of}
use borrow.Author.Rules.{rules}
use Rattle.family.proofs.place.Goals as goal

pub returns : goal.returns
unfolding place_of
returns c = search rules
