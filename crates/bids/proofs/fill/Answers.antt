use Rattle.bids.proofs.Places.{package_next, package_inside, school_before}
use Rattle.bids.proofs.Laws.{over_zero, over-more, length-listed, packed_zero, packed_more, length_packed}
use Rattle.bids.proofs.Answers.{stored, items_there, cost_there, items-listed, costs-listed, school_listed, items_fit, fit_there, items-written, cost-written}
use mathlib.Core.Path.{◌≡◌}
use native.Mathlib.Omega.{arith}
use Rattle.bids.proofs.fill.Goals as goal

pub loop-k-init : goal.loop-k-init
loop-k-init c = (c.first_package-cursor.ensures, packed_zero _ _, over_zero _ _)

pub package_record-bid-requires-clause-site_in_bounds : goal.package_record-bid-requires-clause-site_in_bounds
package_record-bid-requires-clause-site_in_bounds c =
    omega (arith, package_inside c.args.layout c.args.s c.loop-k-test.true, c.loop-k.invariant.0, c.requires.fillable.sized.long)

pub school_index-j-requires-clause-n_in_bounds : goal.school_index-j-requires-clause-n_in_bounds
school_index-j-requires-clause-n_in_bounds c =
    let sized = c.requires.fillable.sized in
    (omega (arith, school_before c.args.layout c.args.s c.args.n, sized.long), omega (arith, sized.counts.0))

pub items_of-requires-clause-j_lt_s : goal.items_of-requires-clause-j_lt_s
items_of-requires-clause-j_lt_s c =
    school_listed c.requires.fillable c.loop-k.invariant.0 c.loop-k-test.true c.package_record-bid.ensures c.school_index-j.ensures

pub items_of-requires-clause-s_bound : goal.items_of-requires-clause-s_bound
items_of-requires-clause-s_bound c =
    items_fit c.requires.fillable c.loop-k.invariant.0 c.loop-k-test.true c.package_record-bid.ensures c.school_index-j.ensures

pub loop-k-preserved : goal.loop-k-preserved
loop-k-preserved c =
    let k = c.loop-k.k in
    let z = c.requires.fillable in
    let at = c.loop-k.invariant.0 in
    let bid = c.package_record-bid.ensures in
    let sought = c.school_index-j.ensures in
    let inside = c.loop-k-test.true in (
      omega (arith, package_next c.args.layout c.args.s k, bid.next),
      packed_more (items_there c.args.layout c.args.file.now) c.args.packages.now k (items-written z at inside bid sought c.items_of.ensures)
          (fit_there z at inside bid sought) c.loop-k.invariant.1 c.write.ensures,
      rw c.loop-k.invariant.2
          (over-more (cost_there c.args.layout c.args.file.now) c.args.costs.now k c.package_record-bid.result.cost (cost-written z at inside bid sought)),
    )

pub returns-clause-packages_after : goal.returns-clause-packages_after
returns-clause-packages_after c =
    let all : c.loop-k.k ≡ c.args.n = omega arith in
    let words = stored _ c.args.packages.now (length_packed (items_there c.args.layout c.args.file.now) c.args.n) (rw all at c.loop-k.invariant.1)
    c.requires.n_in_bounds.0 in
    rw (items-listed c.args.layout c.args.file.now c.requires.fillable.sized.counts.1.1) at words

pub returns-clause-costs_after : goal.returns-clause-costs_after
returns-clause-costs_after c =
    let all : c.loop-k.k ≡ c.args.n = omega arith in
    let costs = stored _ c.args.costs.now (length-listed (cost_there c.args.layout c.args.file.now) c.args.n) (rw all at c.loop-k.invariant.2)
    c.requires.n_in_bounds.1 in
    rw (costs-listed c.args.layout c.args.file.now c.requires.fillable.sized.counts.1.1) at costs
