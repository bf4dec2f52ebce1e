use mathlib.Core.Path.{◌≡◌}
use Rattle.bids.specs.Format.{school_at, school_place}
use Rattle.bids.specs.Ranges.{listed}
use Rattle.conversion.specs.Contract.{PutPost}
use Rattle.conversion.specs.Writing.{school_bytes, joined}
use Rattle.conversion.proofs.put_schools.Given as goal

abbrev pub invariant-loop : goal.invariant-loop
invariant-loop l = (l.cursor.at ≡ school_place l.from l.counter)
    × PutPost l.initial.out l.at (joined (school_bytes l.to) (listed (λ i. school_at l.from l.file (school_place l.from i)) l.counter)) l.out l.next
