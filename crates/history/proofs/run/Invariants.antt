use Rattle.history.proofs.Running.{Running}
use lib.ListN.{length}
use Prim.Native.Nat.{◌/◌, ◌-◌}
use mathlib.Core.Path.{◌≡◌}
use Rattle.itemset.specs.Words.{value}
use Rattle.exact_cover.specs.Problem.{problem_of}
use Rattle.history.proofs.run.Given as goal

abbrev pub invariant-loop-optional : goal.invariant-loop-optional
invariant-loop-optional l = (Running (problem_of l.packages (value l.optional) l.order) l.script l.room l.initial.t l.initial.out l.i l.given l.t l.out) × (length l.work ≡ length l.initial.work)

abbrev pub decreases-loop-optional : goal.decreases-loop-optional
decreases-loop-optional l = length l.initial.out / 3 - l.i
