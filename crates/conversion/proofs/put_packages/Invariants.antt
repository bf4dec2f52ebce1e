use mathlib.Core.Path.{◌≡◌}
use Rattle.bids.specs.Format.{schools, package_at, package_place}
use Rattle.bids.specs.Ranges.{listed}
use Rattle.conversion.specs.Contract.{PutPost}
use Rattle.conversion.specs.Writing.{package_bytes, joined}
use Rattle.conversion.proofs.put_packages.Given as goal

abbrev pub invariant-loop : goal.invariant-loop
invariant-loop l = (l.cursor.at ≡ package_place l.from l.s l.counter)
    × PutPost l.initial.out l.at (joined (package_bytes l.to) (listed (λ i. package_at l.from l.file (package_place l.from (schools l.file) i)) l.counter)) l.out l.next
