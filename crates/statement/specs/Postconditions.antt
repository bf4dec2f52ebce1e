-- The contracts: for each public call one record, which its `ensures` cites and which determines the result, the table and the page. Free are the
-- working words after the call and which number a new node gets. Arguments: Q the problem, m is M, t and t' the table's words before and after,
-- `words` the number of working words, r what the call returns, page and page' the page before and after. No call has a `requires`. Assumes nothing.
use Rattle.std.specs.Prelude.{◌≡◌, ◌↔◌, true, List, ◌++◌, ℕ, zero, suc, ◌+◌, ◌≤◌, ◌<◌, length, get_or, take, drop}
use Rattle.zdd.specs.Table.{Family, count, nodes_of, soundb, ◌∈◌}
use Rattle.zdd.specs.Below.{Below, new_below}
use Rattle.zdd.specs.Withdrawal.{withdrawn}
use Rattle.exact_cover.specs.Problem.{Problem}
use Rattle.exact_cover.specs.Cover.{keys_of, covering}
use Rattle.exact_cover.specs.Steps.{steps}
use Rattle.exact_cover.specs.Shortened.{shorten}
use Rattle.statement.specs.declared.Call.{Call}
use Rattle.statement.specs.declared.Call.TheVariants.{Either, Both, Only, With, Without, Join}
use Rattle.statement.specs.Replies.{Reply, refused, gives, reply, Report}
use Rattle.query.specs.Questions.{family_at, nth, position, cost, cheapest, difference, closest}
use Rattle.statement.specs.Calls.{family_of, steps_of, call_refusal, cover_refusal}
use Rattle.statement.specs.Refusals.{places, check_refusal, count_refusal, pick_refusal, measure_refusal, place_refusal, cheapest_refusal, closest_refusal, withdraw_refusal}

-- ---- the calls that make an answer: cover, either, both, only, with, without, join

-- the call is refused with the number n: 0 steps, no node made, and the table is as before
pub record Declined (n : ℕ) (t : List ℕ) (r : Report) (t' : List ℕ) : Type 0 where
  pub outcome : r.outcome ≡ refused n
  pub steps : r.steps ≡ 0
  pub made : r.made ≡ 0
  pub table : t' ≡ t

-- the call answers, and its answer holds the family F after s steps
pub record Answered (K : List ℕ) (F : Family) (s : ℕ) (t : List ℕ) (r : Report) (t' : List ℕ) : Type 0 where
  -- the answer's number, one that the table knows, and what it holds
  pub number : ℕ
  pub outcome : r.outcome ≡ gives number
  pub known : number < count t' + 2
  pub holds : family_at t' number ≡ F
  pub steps : r.steps ≡ s
  -- the table is as long as before, and sound; the old nodes stand first and unchanged
  pub long : length t' ≡ length t
  pub sound : soundb K t' ≡ true
  pub old : take (count t) (nodes_of t') ≡ nodes_of t
  -- the nodes made are the growth of word 0, and exactly the branch nodes of the answer that the table did not hold: the numbers below the answer,
  -- its own included, that the table did not have (`proofs/Made`: as many as were missing for the family, by which 'full' goes)
  pub grown : count t' ≡ count t + r.made
  pub made : r.made ≡ length (new_below (count t) (nodes_of t') number)

-- the contract of a call whose refusal is n (0: none), and that makes the family F in s steps
pub record Makes (K : List ℕ) (n : ℕ) (F : Family) (s : ℕ) (t : List ℕ) (r : Report) (t' : List ℕ) : Type 0 where
  pub declined : 0 < n → Declined n t r t'
  pub answered : n ≡ 0 → Answered K F s t r t'

-- the contract of every call that makes an answer
abbrev pub AnswerPost : (Q : Problem) (m : ℕ) (t : List ℕ) → Call → ℕ → Report → List ℕ → Type 0
AnswerPost Q m t c words r t' = Makes (keys_of Q) (call_refusal Q m t c words) (family_of Q t c) (steps_of Q c words) t r t'

-- cover d: the timetables covering d, an item set as a number, with the step limit `limit` [document 01: B]
abbrev pub CoverPost : (Q : Problem) (m : ℕ) (t : List ℕ) (d limit words : ℕ) → Report → List ℕ → Type 0
CoverPost Q m t d limit words r t' = Makes (keys_of Q) (cover_refusal Q m t d limit words) (covering Q d) (steps Q (places words) d) t r t'

-- either: union
abbrev pub EitherPost : (Q : Problem) (m : ℕ) (t : List ℕ) (a b words : ℕ) → Report → List ℕ → Type 0
EitherPost Q m t a b words = AnswerPost Q m t (Either a b) words

-- both: intersection
abbrev pub BothPost : (Q : Problem) (m : ℕ) (t : List ℕ) (a b words : ℕ) → Report → List ℕ → Type 0
BothPost Q m t a b words = AnswerPost Q m t (Both a b) words

-- only: those of the first not in the second
abbrev pub OnlyPost : (Q : Problem) (m : ℕ) (t : List ℕ) (a b words : ℕ) → Report → List ℕ → Type 0
OnlyPost Q m t a b words = AnswerPost Q m t (Only a b) words

-- with p: those that hold p
abbrev pub WithPost : (Q : Problem) (m : ℕ) (t : List ℕ) (a p words : ℕ) → Report → List ℕ → Type 0
WithPost Q m t a p words = AnswerPost Q m t (With a p) words

-- without p: those that do not
abbrev pub WithoutPost : (Q : Problem) (m : ℕ) (t : List ℕ) (a p words : ℕ) → Report → List ℕ → Type 0
WithoutPost Q m t a p words = AnswerPost Q m t (Without a p) words

-- join: every union of a timetable of the first and one of the second
abbrev pub JoinPost : (Q : Problem) (m : ℕ) (t : List ℕ) (a b words : ℕ) → Report → List ℕ → Type 0
JoinPost Q m t a b words = AnswerPost Q m t (Join a b) words

-- ---- the questions. They are lent the table for reading only

-- the page after a call whose refusal is n: the timetable s at its start and the rest unchanged, or all unchanged
abbrev pub written : ℕ → List ℕ → List ℕ → List ℕ
written zero s page = s ++ drop (length s) page
written (suc n) s page = page

-- the soundness check
pub record CheckPost (Q : Problem) (m : ℕ) (t : List ℕ) (r : Reply (Unit {0})) : Type 0 where
  pub result : r ≡ reply (check_refusal Q m t) tt

-- count: how many timetables the answer a holds
pub record CountPost (Q : Problem) (m : ℕ) (t : List ℕ) (a words : ℕ) (r : Reply ℕ) : Type 0 where
  pub result : r ≡ reply (count_refusal Q m t a words) (length (family_at t a))

-- pick k: the k-th timetable of the answer a, written to the page, and how many packages it has
pub record PickPost (Q : Problem) (m : ℕ) (t : List ℕ) (a k words : ℕ) (page : List ℕ) (r : Reply ℕ) (page' : List ℕ) : Type 0 where
  pub result : r ≡ reply (pick_refusal Q m t a k words page) (length (nth (family_at t a) k))
  pub pages : page' ≡ written (pick_refusal Q m t a k words page) (nth (family_at t a) k) page

-- measure k: how many packages the k-th timetable of the answer a has
pub record MeasurePost (Q : Problem) (m : ℕ) (t : List ℕ) (a k words : ℕ) (r : Reply ℕ) : Type 0 where
  pub result : r ≡ reply (measure_refusal Q m t a k words) (length (nth (family_at t a) k))

-- place: where the timetable s stands in the listing of the answer a
pub record PlacePost (Q : Problem) (m : ℕ) (t : List ℕ) (a : ℕ) (s : List ℕ) (words : ℕ) (r : Reply ℕ) : Type 0 where
  pub result : r ≡ reply (place_refusal Q m t a s words) (position s (family_at t a))

-- cheapest: of the timetables of the answer a with the least cost the first listed, written to the page; how many packages it has, and its cost
pub record CheapestPost (Q : Problem) (m : ℕ) (C t : List ℕ) (a words : ℕ) (page : List ℕ) (r : Reply (ℕ × ℕ)) (page' : List ℕ) : Type 0 where
  pub result :
      r ≡ reply (cheapest_refusal Q m C t a words page) (length (cheapest C (family_at t a)), cost C (cheapest C (family_at t a)))
  pub pages : page' ≡ written (cheapest_refusal Q m C t a words page) (cheapest C (family_at t a)) page

-- closest: of the timetables of the answer a that differ from s in the fewest packages the first listed, written to the page; how many packages it has, and
-- the difference
pub record ClosestPost (Q : Problem) (m : ℕ) (t : List ℕ) (a : ℕ) (s : List ℕ) (words : ℕ) (page : List ℕ) (r : Reply (ℕ × ℕ)) (page' : List ℕ) : Type 0 where
  pub result :
      r ≡ reply (closest_refusal Q m t a s words page) (length (closest s (family_at t a)), difference s (closest s (family_at t a)))
  pub pages : page' ≡ written (closest_refusal Q m t a s words page) (closest s (family_at t a)) page

-- ---- the withdrawal. gone lists the withdrawn packages; answers and answers' are the lent list of answers before and after [document 02, No. 8]

-- the nodes of t are just those below the answers l, their own included: of the numbers from 2 on it has just those. (Below 0 and 1 there is none of them)
abbrev pub Needed : (l t : List ℕ) → Type 0
Needed l t = (k : ℕ) → 2 ≤ k → (k < count t + 2) ↔ ((a : ℕ) × (a ∈ l) × Below (nodes_of t) a k)

-- it is refused with the number n: table and list are as before
pub record Unmoved (n : ℕ) (t answers : List ℕ) (r : Reply ℕ) (t' answers' : List ℕ) : Type 0 where
  pub reply : r ≡ refused n
  pub table : t' ≡ t
  pub list : answers' ≡ answers

-- it is not
pub record Withdrawn (Q : Problem) (gone t answers : List ℕ) (r : Reply ℕ) (t' answers' : List ℕ) : Type 0 where
  -- it returns how many nodes are left
  pub reply : r ≡ gives (count t')
  -- the table is as long as before, and sound for the shortened list of packages; so every word behind the nodes left is 0
  pub long : length t' ≡ length t
  pub sound : soundb (keys_of (shorten Q gone)) t' ≡ true
  -- each entry is replaced by a number that the table knows: its timetables are those of the old entry that hold no withdrawn package, in the new numbers
  pub listed : length answers' ≡ length answers
  pub known : (j : ℕ) → j < length answers → get_or answers' j 0 < count t' + 2
  pub holds : (j : ℕ) → j < length answers → family_at t' (get_or answers' j 0) ≡ withdrawn gone (family_at t (get_or answers j 0))
  -- the nodes left are just those below the entries, their own included
  pub needed : Needed answers' t'

pub record WithdrawPost (Q : Problem) (m : ℕ) (t gone answers : List ℕ) (words : ℕ) (r : Reply ℕ) (t' answers' : List ℕ) : Type 0 where
  pub declined : 0 < withdraw_refusal Q m t gone answers words → Unmoved (withdraw_refusal Q m t gone answers words) t answers r t' answers'
  pub done : withdraw_refusal Q m t gone answers words ≡ 0 → Withdrawn Q gone t answers r t' answers'
