-- What the inner functions of the calls that make an answer ensure. Assumes nothing.
use Rattle.std.specs.Prelude.{◌≡◌, Bool, true, false, ◌||◌, List, [], ◌∷◌, ℕ, ◌+◌, ◌-◌, ◌<◌, Option, Some, None}
use Rattle.zdd.specs.Table.{count}
use Rattle.exact_cover.specs.Problem.{Problem}
use Rattle.compile.specs.declared.Failure.{Failure}
use Rattle.compile.specs.declared.Failure.TheVariants.{Spent, Full}
use Rattle.family.specs.declared.Operation.{Operation}
use Rattle.family.specs.declared.Operation.TheVariants.{Union, Intersection, Difference, Join as JoinOf}
use Rattle.statement.specs.declared.Call.{Call}
use Rattle.statement.specs.declared.Call.TheVariants.{Either, Both, Only, With, Without, Join}
use Rattle.statement.specs.Replies.{Report, gives}
use Rattle.statement.specs.Calls.{join_least}
use Rattle.statement.specs.Refusals.{first_of, unknown_answer, overlap, short_work}
use Rattle.statement.specs.Postconditions.{Declined}

-- 9: the search met its limit; 10: the table had no room
abbrev pub failure_number : Failure → ℕ
failure_number Spent = 9
failure_number Full = 10

-- k is the answer's number, and the table has grown from `before` nodes; or there was no room for it, refusal 10 [document 01: full]
abbrev pub Reported : (t : List ℕ) (before : ℕ) → Option ℕ → Report → Type 0
Reported t before (Some k) r = (r.outcome ≡ gives k) × (r.steps ≡ 0) × (r.made ≡ count t - before)
Reported t before None r = Declined 10 t r t

-- ---- the calls of one shape: union, intersection, difference and join of two answers

abbrev pub pair_call : Operation → (a b : ℕ) → Call
pair_call Union a b = Either a b
pair_call Intersection a b = Both a b
pair_call Difference a b = Only a b
pair_call JoinOf a b = Join a b

-- their tests in front of 10: those of join behind 5, and those of all four
abbrev pub join_front : (Q : Problem) (t : List ℕ) (a b words : ℕ) → List (Bool × ℕ)
join_front Q t a b words = (overlap Q t a b, 35) ∷ (short_work (join_least a b) words, 8) ∷ []

abbrev pub own_front : (Q : Problem) (t : List ℕ) → Operation → (a b words : ℕ) → List (Bool × ℕ)
own_front Q t Union a b words = (short_work 2 words, 8) ∷ []
own_front Q t Intersection a b words = (short_work 2 words, 8) ∷ []
own_front Q t Difference a b words = (short_work 2 words, 8) ∷ []
own_front Q t JoinOf a b words = join_front Q t a b words

abbrev pub pair_front : (Q : Problem) (t : List ℕ) → Operation → (a b words : ℕ) → List (Bool × ℕ)
pair_front Q t op a b words = (unknown_answer t a || unknown_answer t b, 5) ∷ own_front Q t op a b words

-- r is their refusal; where it is 0, none, the table knows both answers, and those of a join do not overlap
pub record PairTested (Q : Problem) (t : List ℕ) (op : Operation) (a b words r : ℕ) : Type 0 where
  pub says : r ≡ first_of (pair_front Q t op a b words)
  pub known : r ≡ 0 → (a < count t + 2) × (b < count t + 2)
  pub apart : r ≡ 0 → op ≡ JoinOf → overlap Q t a b ≡ false

-- the timetables of an answer that hold a package, or those that do not
abbrev pub part_call : Bool → (a p : ℕ) → Call
part_call true a p = With a p
part_call false a p = Without a p
