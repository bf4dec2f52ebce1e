use Rattle.printout.proofs.Putting.{adds_then, adds_same}
use Rattle.printout.specs.Text.{timetable_line, decimal, field, cost_word, packages_text, newline}
use Prim.Native.Nat.{ℕ}
use mathlib.Core.List.{[], ◌∷◌, ◌++◌}
use mathlib.Core.Path.{ap}
use Rattle.printout.proofs.Writer.put_timetable.Goals as goal

pub returns : goal.returns
unfolding timetable_line
returns c = adds_same (ap (λ (x : ℕ). decimal c.args.k ++ (field cost_word x ++ ((58 ∷ []) ++ (packages_text c.args.list.now ++ newline)))) c.cost_of-cost.ensures)
    (adds_then (decimal c.args.k) c.put_decimal.ensures
    (adds_then (field cost_word c.cost_of-cost.result) c.put_field.ensures
    (adds_then (58 ∷ []) c.put.ensures
    (adds_then (packages_text c.args.list.now) c.put_packages.ensures c.put-2.ensures))))
