use native.Mathlib.Omega.{arith}
use Rattle.family.proofs.CombineLaws.{joins_left_one, joins_right_one, joins_open}
use Rattle.family.proofs.ended_join.Goals as goal

pub returns-then-f-eq1 : goal.returns-then-f-eq1
returns-then-f-eq1 c = joins_left_one c.args.f c.args.g c.if-f-eq1.true

pub returns-then-g-eq1 : goal.returns-then-g-eq1
returns-then-g-eq1 c = joins_right_one c.args.f c.args.g c.if-g-eq1.true

pub returns : goal.returns
returns c = joins_open _ _ (omega (arith, c.requires.0, c.if-f-eq1.false)) (omega (arith, c.requires.1, c.if-g-eq1.false))
