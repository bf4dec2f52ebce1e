use Rattle.bids.specs.Format.{package_place, packages_in}
use Rattle.bids.specs.Contents.{package_in}
use mathlib.Core.Path.{◌≡◌}
use Rattle.bids.proofs.package_index.Given as goal

abbrev pub invariant-loop-k : goal.invariant-loop-k
invariant-loop-k l = (l.cursor.at ≡ package_place l.layout l.s l.k) × (package_in (packages_in l.layout l.file) l.k l.wanted ≡ l.k)
