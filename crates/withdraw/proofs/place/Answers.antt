use Rattle.withdraw.proofs.PlaceLaws.{placed_old, placed_new}
use native.Mathlib.Omega.{arith}
use Rattle.withdraw.proofs.place.Goals as goal

pub returns-then-old-ne0 : goal.returns-then-old-ne0
returns-then-old-ne0 c = placed_old c.requires.indexed c.find-old.ensures (omega arith)

pub returns : goal.returns
returns c = placed_new c.requires.roomy c.find-old.ensures c.if-old-ne0.false c.append.ensures
