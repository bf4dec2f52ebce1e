use mathlib.Core.Path.{◌≡◌, ap, ◌∙◌}
use native.Mathlib.Omega.{arith}
use Rattle.bids.specs.Format.{packages, package_at, packages_in}
use Rattle.bids.proofs.Places.{package_next, package_inside}
use Rattle.conversion.proofs.Written.{length_package}
use Rattle.conversion.proofs.Putting.{none-put, more-put, room-left}
use Rattle.conversion.proofs.put_packages.Goals as goal

pub loop-init : goal.loop-init
loop-init c = (c.first_package-cursor.ensures, none-put _ _ _ _)

pub package_record-bid-requires-clause-site_in_bounds : goal.package_record-bid-requires-clause-site_in_bounds
package_record-bid-requires-clause-site_in_bounds c =
    omega (arith, package_inside c.args.from c.args.s c.loop-test.true, c.loop.invariant.0, c.requires.n_in_bounds)

pub put_package-next-requires : goal.put_package-next-requires
put_package-next-requires c = room-left _ (length_package c.args.to) _ c.loop.counter c.loop.invariant.1 c.loop-test.true c.requires.n_in_bounds_2

pub loop-preserved : goal.loop-preserved
loop-preserved c = let bid = c.package_record-bid.ensures.bid ∙ ap (package_at c.args.from c.args.file.now) (rw c.requires.n_in_bounds.1.0 at c.loop.invariant.0) in (
  omega (arith, package_next c.args.from c.args.s c.loop.counter, c.package_record-bid.ensures.next),
  more-put _ _ c.loop.counter c.loop.invariant.1 bid c.put_package-next.ensures,
)

pub returns : goal.returns
unfolding packages_in
returns c = let e : c.loop.counter ≡ packages c.args.file.now = omega (arith, c.requires.n_in_bounds) in rw e at c.loop.invariant.1
