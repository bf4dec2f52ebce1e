use borrow.Author.Tests.{lt-ltb, le-ltb}
use Rattle.conversion.specs.Contract.{says2}
use Rattle.bids.specs.Format.{cut}
use Rattle.conversion.proofs.says_2.Goals as goal

pub returns-then-file-lt13 : goal.returns-then-file-lt13
unfolding says2 cut
returns-then-file-lt13 c = rw (lt-ltb _ 13 c.if-file-lt13.true)

pub returns : goal.returns
unfolding says2 cut
returns c = rw (le-ltb _ 13 c.if-file-lt13.false, c.read_header-h.ensures.version)
