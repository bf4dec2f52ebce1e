use Rattle.bids.specs.Format.{package_place, schools_in, packages_in, slots}
use Rattle.bids.specs.Contents.{nth_package, strayb}
use Rattle.bids.specs.Ranges.{first}
use mathlib.Core.Path.{◌≡◌}
use Rattle.bids.proofs.stray.Given as goal

abbrev pub invariant-loop : goal.invariant-loop
invariant-loop l = (l.cursor.at ≡ package_place l.layout l.s l.counter)
    × (first (λ i. strayb (schools_in l.layout l.file) (slots l.file) (nth_package (packages_in l.layout l.file) i)) l.counter ≡ l.counter)
