use mathlib.Core.Path.{◌∙◌}
use borrow.Author.Tests.{ne_eqb}
use Rattle.bids.specs.Contents.{same_school}
use Rattle.bids.proofs.Records.{other_slots, same-slots}
use Rattle.bids.proofs.same_package.Goals as goal

pub returns-then-a-b : goal.returns-then-a-b
unfolding same_school
returns-then-a-b c = c.eq.ensures ∙ same-slots c.args.a c.args.b c.if-a-b.true

pub returns-else-a-b : goal.returns-else-a-b
returns-else-a-b c = ne_eqb _ _ c.if-a-b.false ∙ other_slots c.args.a c.args.b c.if-a-b.false
