use Rattle.bids.specs.Format.{school_place, schools_in}
use Rattle.bids.specs.Contents.{school_in}
use mathlib.Core.Path.{◌≡◌}
use Rattle.bids.proofs.school_index.Given as goal

abbrev pub invariant-loop-j : goal.invariant-loop-j
invariant-loop-j l = (l.cursor.at ≡ school_place l.layout l.j) × (school_in (schools_in l.layout l.file) l.j l.wanted ≡ l.j)
