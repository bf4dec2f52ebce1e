use Rattle.std.proofs.Common.{◌≡◌}
use Rattle.kiosk.specs.Flat.{filled}
use Rattle.kiosk.proofs.flatten.Given as goal

abbrev pub invariant-loop-i : goal.invariant-loop-i
invariant-loop-i l = l.words ≡ filled l.initial.words l.nodes l.i
