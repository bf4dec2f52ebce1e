-- What the C interface's structs say: a refusal of 0 is an answer with the other fields' values, any other is document 01's number. So an entry promises word
-- for word what the engine's call promises, of the reply that its struct says. The fields that carry nothing are 0 (`Blank..`). Assumes nothing.
use Rattle.std.specs.Prelude.{◌≡◌, List, [], ◌∷◌, ℕ, ◌<◌, get_or}
use Rattle.itemset.specs.Words.{value_of}
use Rattle.statement.specs.Replies.{Reply, reply, Report as Said}
use Rattle.capi.specs.declared.Report.{Report}
use Rattle.capi.specs.declared.Number.{Number}
use Rattle.capi.specs.declared.Timetable.{Timetable}
use Rattle.capi.specs.declared.Comparison.{Comparison}
use Rattle.capi.specs.declared.Bids.{Bids}

-- the calls that make an answer
abbrev pub shown : Report → Said
shown r = record { outcome = reply r.refusal r.answer; steps = r.steps; made = r.made }

-- count, measure, place, withdraw and the converters. (The soundness check returns its refusal alone, 0: sound)
abbrev pub numbered : Number → Reply ℕ
numbered r = reply r.refusal r.value

-- pick
abbrev pub packages_in : Timetable → Reply ℕ
packages_in r = reply r.refusal r.packages

-- cheapest
abbrev pub priced_in : Timetable → Reply (ℕ × ℕ)
priced_in r = reply r.refusal (r.packages, r.cost)

-- closest
abbrev pub compared_in : Comparison → Reply (ℕ × ℕ)
compared_in r = reply r.refusal (r.packages, r.difference)

-- the readers of bids files
abbrev pub read_in : Bids → Reply (ℕ × (ℕ × (ℕ × ℕ)))
read_in r = reply r.refusal (r.schools, (r.slots, (r.packages, value_of r.optional)))

-- ---- the fields that carry nothing

abbrev pub BlankReport : Report → Type 0
BlankReport r = 0 < r.refusal → r.answer ≡ 0

abbrev pub BlankNumber : Number → Type 0
BlankNumber r = 0 < r.refusal → r.value ≡ 0

abbrev pub BlankTimetable : Timetable → Type 0
BlankTimetable r = 0 < r.refusal → (r.packages ≡ 0) × (r.cost ≡ 0)

-- pick has no cost
abbrev pub BlankPick : Timetable → Type 0
BlankPick r = (r.cost ≡ 0) × (0 < r.refusal → r.packages ≡ 0)

abbrev pub BlankComparison : Comparison → Type 0
BlankComparison r = 0 < r.refusal → (r.packages ≡ 0) × (r.difference ≡ 0)

abbrev pub BlankBids : Bids → Type 0
BlankBids r = 0 < r.refusal → (r.schools ≡ 0) × (r.slots ≡ 0) × (r.packages ≡ 0) × (r.optional ≡ (0 ∷ 0 ∷ 0 ∷ []))
