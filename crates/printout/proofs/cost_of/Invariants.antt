use Rattle.query.specs.Questions.{cost}
use lib.ListN.{take}
use Prim.Native.Nat.{◌≤◌, ◌*◌}
use mathlib.Core.Path.{◌≡◌}
use Rattle.printout.proofs.cost_of.Given as goal

abbrev pub invariant-loop-p : goal.invariant-loop-p
invariant-loop-p l = (l.sum ≡ cost l.costs (take l.p-index l.list)) × (l.sum ≤ 65535 * l.p-index)
