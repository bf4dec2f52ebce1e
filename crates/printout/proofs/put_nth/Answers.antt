use Rattle.printout.proofs.Asking.{picked_page}
use Rattle.printout.proofs.Putting.{adds_same}
use Rattle.printout.specs.Text.{timetable_line}
use Prim.Native.Nat.{ℕ}
use mathlib.Core.List.{List}
use native.Mathlib.Omega.{arith}
use mathlib.Core.Path.{ap}
use Rattle.printout.proofs.put_nth.Goals as goal

pub returns : goal.returns
returns c = let g = picked_page c.requires.listable c.pick-picked.result c.requires.k_in_bounds (omega arith) c.pick-picked.ensures
    c.unwrap_or-n.ensures in adds_same (ap (λ (u : List ℕ). timetable_line c.args.week.now.costs.now c.args.k u) g.1)
    c.put_timetable.ensures
