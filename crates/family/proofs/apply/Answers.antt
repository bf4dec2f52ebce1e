use mathlib.Core.Path.{refl}
use Rattle.family.proofs.GivesLaws.{produced_done, produced_full}
use Rattle.family.proofs.apply.Goals as goal

pub returns-in_default : goal.returns-in_default
returns-in_default c = produced_full c.in_default.ensures c.requires.operable.sound refl c.rollback.ensures

pub returns : goal.returns
returns c = produced_done c.in-Some.ensures
