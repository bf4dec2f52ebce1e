use Rattle.bids.specs.Format.{package_place, packages_in}
use Rattle.bids.specs.Contents.{nth_package, package_in}
use Rattle.bids.specs.Ranges.{first}
use lib.Dec.{ltb}
use mathlib.Core.Path.{◌≡◌}
use Rattle.bids.proofs.package_twice.Given as goal

abbrev pub invariant-loop-k : goal.invariant-loop-k
invariant-loop-k l = (l.cursor.at ≡ package_place l.layout l.s l.k) ×
    (first (λ i. ltb (package_in (packages_in l.layout l.file) i (nth_package (packages_in l.layout l.file) i)) i) l.k ≡ l.k)
