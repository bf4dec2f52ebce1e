use mathlib.Core.Path.{refl}
use Rattle.guard.proofs.GuardLaws.{blank}
use Rattle.engine.proofs.check.Goals as goal

pub admit-requires : goal.admit-requires
admit-requires c = blank 512 131072 refl refl
