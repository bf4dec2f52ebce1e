use Rattle.bids.specs.Format.{school_place, package_place}
use borrow.Author.Rules.{rules}
use Rattle.bids.proofs.file_length.Goals as goal

pub returns : goal.returns
unfolding school_place package_place
returns c = search rules
