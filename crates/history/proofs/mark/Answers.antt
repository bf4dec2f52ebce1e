use mathlib.Core.Path.{refl}
use Rattle.history.proofs.mark.Goals as goal

pub bounds-given-answer : goal.bounds-given-answer
bounds-given-answer c = let low = rw c.in-Ok.is at c.requires in low _ refl
