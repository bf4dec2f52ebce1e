use Rattle.std.proofs.Common.{◌+◌}
use Rattle.family.proofs.+combine.Given as goal

abbrev pub decreases-combine : goal.decreases-combine
decreases-combine l = l.f + l.g
