use Rattle.exact_cover.proofs.LocateLaws.{moved_start, moved_more, moved_all, some_left, none_left, rest_falls}
use Rattle.itemset.proofs.Lists.{width_is}
use Rattle.itemset.proofs.Three.{default_is}
use Rattle.itemset.specs.Words.{value}
use native.Mathlib.Omega.{arith}
use mathlib.Core.Path.{refl}
use Rattle.exact_cover.proofs.permute.Goals as goal

pub loop-rest-init : goal.loop-rest-init
loop-rest-init c = rw (default_is c.default-r.result c.default-r.ensures) (moved_start c.args.order.now (value c.args.x) c.requires.x_bound)

pub bounds-inverse-i : goal.bounds-inverse-i
bounds-inverse-i c = omega (arith, width_is, c.lowest-i.ensures.upper_bound)

pub loop-rest-smaller : goal.loop-rest-smaller
loop-rest-smaller c = rw (c.without-rest.ensures, c.single-in-loop-rest.ensures)
    (rest_falls (value c.loop-rest.rest) c.lowest-i.result (some_left c.is_empty.ensures c.loop-rest-test.true) c.lowest-i.ensures.value)

pub loop-rest-preserved : goal.loop-rest-preserved
loop-rest-preserved c = rw (c.without-rest.ensures, c.single-in-loop-rest.ensures, c.union-r.ensures, c.single.ensures)
    (moved_more c.args.order.now c.requires.order_value c.args.inverse.now c.requires.inverse c.lowest-i.result _ (some_left c.is_empty.ensures c.loop-rest-test.true)
    c.lowest-i.ensures.value refl c.loop-rest.invariant)

pub returns : goal.returns
returns c = moved_all (none_left c.is_empty.ensures c.loop-rest-test.false) c.loop-rest.invariant
