use Rattle.bids.specs.Format.{optional_slots}
use borrow.Author.Rules.{rules}
use Rattle.bids.proofs.optional_slots.Goals as goal

pub returns : goal.returns
unfolding optional_slots
returns c = search rules
