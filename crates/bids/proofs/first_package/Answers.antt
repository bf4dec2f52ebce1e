use mathlib.Core.Path.{sym}
use Rattle.bids.specs.Format.{school_place}
use Rattle.bids.proofs.Places.{package_first}
use Rattle.bids.proofs.first_package.Goals as goal

pub returns : goal.returns
unfolding school_place
returns c = sym (package_first c.args.layout c.args.s)
