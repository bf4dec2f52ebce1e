-- What the contracts of the runner's own functions cite. Assumes nothing.
use Rattle.std.specs.Prelude.{◌≡◌, Bool, ◌&&◌, ◌||◌, List, ℕ, ◌+◌, ◌*◌, eqb, ltb, length, get_or, set, take, drop}
use Rattle.statement.specs.Replies.{Report, Reply, refused, gives}
use Rattle.history.specs.Script.{report_at, beyond}

-- ---- the numbers given, as marks: a word for each number, 1 where it was given

-- x may be an operand by the marks g, on a table of n nodes
abbrev pub marked : List ℕ → ℕ → ℕ → Bool
marked g n x = beyond n x || (ltb x 65536 && eqb (get_or g x 0) 1)

-- the marks after a call: an answer is marked
abbrev pub noted : Reply ℕ → List ℕ → List ℕ
noted (refused n) g = g
noted (gives a) g = set g a 1

-- ---- reports

-- the report r of call i is written: its three words say it, and no other word changes
pub record Stored (out : List ℕ) (i : ℕ) (r : Report) (out' : List ℕ) : Type 0 where
  pub says : report_at out' i ≡ r
  pub front : take (3 * i) out' ≡ take (3 * i) out
  pub behind : drop (3 * i + 3) out' ≡ drop (3 * i + 3) out
  pub as_long : length out' ≡ length out
