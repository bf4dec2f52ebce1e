use Rattle.bids.specs.Format.{school_place, schools_in}
use Rattle.bids.specs.Contents.{nth_school, school_in}
use Rattle.bids.specs.Ranges.{first}
use lib.Dec.{ltb}
use mathlib.Core.Path.{◌≡◌}
use Rattle.bids.proofs.school_twice.Given as goal

abbrev pub invariant-loop-j : goal.invariant-loop-j
invariant-loop-j l = (l.cursor.at ≡ school_place l.layout l.j) × (first (λ i. ltb (school_in (schools_in l.layout l.file) i (nth_school (schools_in l.layout l.file) i)) i) l.j ≡ l.j)
