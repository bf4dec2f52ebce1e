use lib.Seq.{length-take-le}
use Rattle.printout.proofs.Sheets.{last_none, last_some}
use Rattle.printout.proofs.Asking.{priced_page, place_gives, unwrapped}
use Rattle.printout.proofs.Putting.{adds_then, adds_same}
use Rattle.printout.specs.Text.{cheapest_line, field, cheapest_word}
use Rattle.query.specs.Questions.{family_at, position, cheapest}
use lib.ListN.{length}
use Prim.Native.Nat.{◌<◌}
use native.Mathlib.Omega.{arith}
use mathlib.Core.Path.{◌≡◌, sym, ap, ◌∙◌}
use Rattle.printout.proofs.put_last.Goals as goal

pub returns-then-count-eq0 : goal.returns-then-count-eq0
returns-then-count-eq0 c = adds_same (last_none c.args.week.now.costs.now (family_at c.args.t.now c.args.a)
    (sym c.if-count-eq0.true ∙ c.requires.count_value))
    c.put.ensures

pub slice_bounds-page-end : goal.slice_bounds-page-end
slice_bounds-page-end c = let l : 0 < length (family_at c.args.t.now c.args.a) = omega (arith, c.if-count-eq0.false, c.requires.count_value) in
    let g = priced_page c.requires.listable c.args.week.now.costs.now c.requires.costs_len l (omega arith) c.cheapest-p.ensures c.priced-n.ensures in
    omega (arith, g.0, c.page-2-1.given)

pub slice_bounds-place-end : goal.slice_bounds-place-end
slice_bounds-place-end c = let l : 0 < length (family_at c.args.t.now c.args.a) = omega (arith, c.if-count-eq0.false, c.requires.count_value) in
    let g = priced_page c.requires.listable c.args.week.now.costs.now c.requires.costs_len l (omega arith) c.cheapest-p.ensures c.priced-n.ensures in
    sym (length-take-le c.priced-n.result c.cheapest-p.new.page (omega (arith, g.0, c.page-2-1.given)))

pub returns : goal.returns
unfolding cheapest_line
returns c = let F = family_at c.args.t.now c.args.a in
    let l : 0 < length F = omega (arith, c.if-count-eq0.false, c.requires.count_value) in
    let g = priced_page c.requires.listable c.args.week.now.costs.now c.requires.costs_len l (omega arith) c.cheapest-p.ensures c.priced-n.ensures in
    let e : c.unwrap_or-k.result ≡ position (cheapest c.args.week.now.costs.now F) F = c.unwrap_or-k.ensures ∙ unwrapped _
    (place_gives c.requires.listable c.args.week.now.costs.now c.requires.costs_len l g.1 (omega (arith, c.work-1.given)) c.place-placed.ensures) in
    adds_same (ap cheapest_line e ∙ last_some c.args.week.now.costs.now F l)
    (adds_then (field cheapest_word c.unwrap_or-k.result) c.put_field.ensures c.put-2.ensures)
