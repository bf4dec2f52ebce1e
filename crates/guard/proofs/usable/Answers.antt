use Rattle.guard.proofs.GuardLaws.{tested}
use Rattle.guard.proofs.usable.Goals as goal

pub returns : goal.returns
returns c = tested c.requires.rows c.keys.ensures (rw c.keys.ensures.are at (rw c.number-n.ensures at c.check.ensures))
