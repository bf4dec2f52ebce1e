use Rattle.bids.specs.Bytes.{fnv}
use lib.ListN.{take}
use mathlib.Core.Path.{◌≡◌}
use Rattle.bids.proofs.check.Given as goal

abbrev pub invariant-loop-byte : goal.invariant-loop-byte
invariant-loop-byte l = l.h ≡ fnv (take l.byte-index l.file)
