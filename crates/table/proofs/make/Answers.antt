use Rattle.table.proofs.UniqueLaws.{made_none, made_new, full_few, full-long}
use native.Mathlib.Omega.{arith}
use Rattle.table.proofs.make.Goals as goal

pub returns-then-n-ge65534 : goal.returns-then-n-ge65534
returns-then-n-ge65534 c = made_none c.requires.indexed c.requires.absent (full_few c.requires.indexed.room (omega arith))

pub returns-then-t-n : goal.returns-then-t-n
returns-then-t-n c = made_none c.requires.indexed c.requires.absent (full-long c.requires.indexed.room (omega arith))

pub returns : goal.returns
returns c = made_new c.requires.absent (omega arith, omega arith) c.append.ensures
