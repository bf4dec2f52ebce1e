use Rattle.exact_cover.proofs.Orders.{order_below}
use Rattle.exact_cover.proofs.LocateLaws.{inverse_start, inverse_more}
use Rattle.itemset.proofs.Lists.{width_is}
use native.Mathlib.Omega.{arith}
use Rattle.exact_cover.proofs.invert.Goals as goal

pub loop-j-init : goal.loop-j-init
loop-j-init c = inverse_start c.args.order.now c.requires.inverse_len c.requires.by_index

pub overflow_cast-inverse : goal.overflow_cast-inverse
overflow_cast-inverse c = omega (arith, width_is, c.requires.order_len_bound, c.loop-j-test.true)

pub bounds-inverse-item : goal.bounds-inverse-item
bounds-inverse-item c = omega (arith, width_is, c.requires.order_len_bound, order_below c.args.order.now c.requires.order_value c.loop-j.j c.loop-j-test.true)

pub loop-j-preserved : goal.loop-j-preserved
loop-j-preserved c = inverse_more c.args.order.now c.requires.order_value c.requires.order_len_bound c.loop-j.j c.loop-j-test.true c.loop-j.invariant
