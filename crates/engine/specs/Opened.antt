-- What the calls that read an answer establish first. Q is the problem, m is M, t has the table's words, a is the answer, C has the costs.
-- Assumes nothing.
use Rattle.std.specs.Prelude.{◌≡◌, Bool, List, ℕ, ◌+◌, ◌<◌, length}
use Rattle.zdd.specs.Table.{count}
use Rattle.exact_cover.specs.Problem.{Problem}
use Rattle.query.specs.Questions.{family_at}
use Rattle.query.specs.Reading.{Readable, Comparable, Filled, count_word}
use Rattle.statement.specs.Refusals.{first_of, list_tests, priced_tests, measure_refusal}
use Rattle.guard.specs.Admitted.{Usable}

-- the table is good, the keys are computed, and the table knows the answer
pub record Known (Q : Problem) (t keys : List ℕ) (a : ℕ) : Type 0 where
  pub index : List ℕ
  pub usable : Usable Q t keys index
  pub known : a < count t + 2

-- r is the refusal by the tests ts; where it is 0, none, the answer can be read
pub record Opened (ts : List (Bool × ℕ)) (Q : Problem) (t keys : List ℕ) (a r : ℕ) : Type 0 where
  pub says : r ≡ first_of ts
  pub ready : r ≡ 0 → Known Q t keys a

-- by those of cheapest
abbrev pub OpenedPriced : (Q : Problem) (m : ℕ) (C t keys : List ℕ) (a r : ℕ) → Type 0
OpenedPriced Q m C t keys a = Opened (priced_tests Q m C t a) Q t keys a

-- ---- the k-th timetable of the answer

-- it can be walked to: the table is good and knows the answer, there is a k-th, and the working words w have the counts
pub record Reachable (t : List ℕ) (a k : ℕ) (w : List ℕ) : Type 0 where
  pub readable : Readable t
  pub known : a < count t + 2
  pub inside : k < length (family_at t a)
  pub counted : Filled (count_word t) (a + 1) w

-- r is the refusal by the tests of measure; where it is 0, none, the k-th timetable can be walked to
pub record OpenedAt (Q : Problem) (m : ℕ) (t : List ℕ) (a k words : ℕ) (w : List ℕ) (r : ℕ) : Type 0 where
  pub says : r ≡ measure_refusal Q m t a k words
  pub ready : r ≡ 0 → Reachable t a k w

-- ---- a list of packages

-- it can be compared with the timetables of the answer: the table is good and knows the answer, the list is in precedence, and the working words have room
pub record Ready (t : List ℕ) (a : ℕ) (s : List ℕ) (words : ℕ) : Type 0 where
  pub comparable : Comparable t s
  pub known : a < count t + 2
  pub room : a < words

-- r is the refusal by the tests of a list; where it is 0, none, the list can be compared
pub record OpenedList (Q : Problem) (m : ℕ) (t : List ℕ) (a : ℕ) (s : List ℕ) (words r : ℕ) : Type 0 where
  pub says : r ≡ first_of (list_tests Q m t a s words)
  pub ready : r ≡ 0 → Ready t a s words
