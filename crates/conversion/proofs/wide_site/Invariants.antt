use mathlib.Core.Bool.{not}
use mathlib.Core.Path.{◌≡◌}
use Rattle.itemset.specs.Items.{belowb}
use Rattle.bids.specs.Format.{school_place, schools_in}
use Rattle.bids.specs.Contents.{nth_school}
use Rattle.bids.specs.Ranges.{first}
use Rattle.conversion.proofs.wide_site.Given as goal

abbrev pub invariant-loop : goal.invariant-loop
invariant-loop l = (l.cursor.at ≡ school_place l.from l.counter) × (first (λ i. not (belowb (nth_school (schools_in l.from l.file) i).site l.bits)) l.counter ≡ l.counter)
