use Rattle.bids.proofs.Laws.{over}
use Rattle.bids.proofs.Answers.{items_there, cost_there}
use Rattle.bids.specs.Format.{package_place}
use Rattle.bids.specs.Ranges.{listed}
use Rattle.itemset.specs.Words.{spread}
use mathlib.Core.Path.{◌≡◌}
use Rattle.bids.proofs.fill.Given as goal

abbrev pub invariant-loop-k : goal.invariant-loop-k
invariant-loop-k l = (l.cursor.at ≡ package_place l.layout l.s l.k) × (l.packages ≡ over (spread 3 (listed (items_there l.layout l.file) l.k)) l.initial.packages) ×
    (l.costs ≡ over (listed (cost_there l.layout l.file) l.k) l.initial.costs)
