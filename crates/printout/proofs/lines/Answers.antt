use Rattle.exact_cover.specs.Problem.{Problem}
use Rattle.exact_cover.proofs.Orders.{length-count}
use lib.Seq.{length-take-le}
use lib.ListN.{length}
use native.Mathlib.Omega.{arith}
use mathlib.Core.Path.{refl, sym, ap, ap₂, ◌∙◌}
use Rattle.printout.proofs.Sheets.{from_start, holds_same, read-said, read_gave, read_problem}
use Rattle.printout.proofs.Room.{whole}
use Rattle.bids.specs.Contract.{read_reply}
use Rattle.printout.specs.Program.{solved}
use Rattle.printout.specs.Text.{refused_line}
use Rattle.printout.proofs.lines.Goals as goal

pub overflow_mul-packages : goal.overflow_mul-packages
overflow_mul-packages c = let g = read_gave c.read-reading.ensures (ap read_reply c.in-Ok.is) in omega (arith, g.few)

pub slice_bounds-packages-end : goal.slice_bounds-packages-end
slice_bounds-packages-end c = let g = read_gave c.read-reading.ensures (ap read_reply c.in-Ok.is) in
    omega (arith, g.few, c.packages-2-1.given)

pub slice_bounds-week-end : goal.slice_bounds-week-end
slice_bounds-week-end c = let g = read_gave c.read-reading.ensures (ap read_reply c.in-Ok.is) in
    sym (length-take-le _ c.read-reading.new.packages (omega (arith, g.few, c.packages-2-1.given)))

pub slice_bounds-order-end : goal.slice_bounds-order-end
slice_bounds-order-end c = let g = read_gave c.read-reading.ensures (ap read_reply c.in-Ok.is) in
    omega (arith, g.small, ap length c.plain_order-order.ensures, length-count 0 192)

pub slice_bounds-week-end-in-Ok : goal.slice_bounds-week-end-in-Ok
slice_bounds-week-end-in-Ok c = let g = read_gave c.read-reading.ensures (ap read_reply c.in-Ok.is) in
    sym (length-take-le _ c.plain_order-order.result (omega (arith, g.small, ap length c.plain_order-order.ensures, length-count 0 192)))

pub slice_bounds-costs-end : goal.slice_bounds-costs-end
slice_bounds-costs-end c = let g = read_gave c.read-reading.ensures (ap read_reply c.in-Ok.is) in
    omega (arith, g.few, c.costs-2-1.given)

pub slice_bounds-week-end-in-Ok-2 : goal.slice_bounds-week-end-in-Ok-2
slice_bounds-week-end-in-Ok-2 c = let g = read_gave c.read-reading.ensures (ap read_reply c.in-Ok.is) in
    sym (length-take-le _ c.read-reading.new.costs (omega (arith, g.few, c.costs-2-1.given)))

pub put_solution-requires-clause-costs_len : goal.put_solution-requires-clause-costs_len
put_solution-requires-clause-costs_len c = let g = read_gave c.read-reading.ensures (ap read_reply c.in-Ok.is) in
    ap length g.costs ∙ g.same-long ∙ sym (ap (λ (Q : Problem). length Q.packages) g.problem)

pub put_solution-requires-clause-t_bound : goal.put_solution-requires-clause-t_bound
put_solution-requires-clause-t_bound c = let g = read_gave c.read-reading.ensures (ap read_reply c.in-Ok.is) in g.small

pub returns-in-Err : goal.returns-in-Err
returns-in-Err c = whole _ (omega (arith, c.put_refused.auto))
    (holds_same (ap refused_line c.number.ensures ∙ read-said c.read-reading.ensures (ap read_reply c.in-Err.is))
    (from_start c.put_refused.ensures))

pub returns-in-Ok : goal.returns-in-Ok
returns-in-Ok c = let g = read_gave c.read-reading.ensures (ap read_reply c.in-Ok.is) in
    let problem = read_problem g _ _ refl c.plain_order-order.ensures in
    whole _ (omega (arith, c.put_solution.ensures.long)) (holds_same (ap₂ (solved _ _) problem g.costs ∙ g.text) (from_start c.put_solution.ensures.puts))
