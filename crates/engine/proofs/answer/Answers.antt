use Rattle.engine.proofs.Combining.{same-call}
use Rattle.engine.proofs.Covering.{cover-call}
use Rattle.engine.proofs.answer.Goals as goal

pub returns-in-Cover : goal.returns-in-Cover
returns-in-Cover c = same-call _ _ _ _ c.in-Cover.is
    (cover-call _ _ _ _ _ _ c.cover.ensures)
