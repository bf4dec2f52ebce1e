use mathlib.Core.Path.{refl}
use Rattle.support.proofs.Marking.{unmarked}
use Rattle.support.proofs.support.Goals as goal

pub gather-requires-clause-marks_len : goal.gather-requires-clause-marks_len
gather-requires-clause-marks_len c = (refl, λ k. unmarked 65536 k)
