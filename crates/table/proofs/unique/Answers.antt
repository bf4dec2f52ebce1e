use Rattle.table.proofs.UniqueLaws.{made_old}
use native.Mathlib.Omega.{arith}
use Rattle.table.proofs.unique.Goals as goal

pub returns-then-old-ne0 : goal.returns-then-old-ne0
returns-then-old-ne0 c = made_old c.requires c.find-old.ensures (omega arith)
