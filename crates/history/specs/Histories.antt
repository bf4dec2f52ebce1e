-- The third demand, and which nodes a table has: two claims about every history of calls, over the contracts and nothing of the code. Assumes nothing:
-- these are definitions; `proofs/Demand.antt` proves `Demand3`, and `proofs/Spare.antt` `NoSpareNode`.
use Rattle.std.specs.Prelude.{◌≡◌, ◌↔◌, Bool, true, false, cond, not, ◌&&◌, ◌||◌, List, [], ◌∷◌, ◌++◌, ℕ, ◌+◌, ◌≤◌, ◌<◌, eqb, length, drop, replicate}
use Rattle.itemset.specs.Words.{value}
use Rattle.zdd.specs.Table.{Family, count, nodes_of, sets, elem, filter, has, ◌∈◌}
use Rattle.zdd.specs.Operations.{unites}
use Rattle.zdd.specs.Below.{Below}
use Rattle.exact_cover.specs.Problem.{Problem}
use Rattle.exact_cover.specs.Cover.{keys_of, covers}
use Rattle.statement.specs.declared.Call.{Call}
use Rattle.statement.specs.declared.Call.TheVariants.{Cover, Either, Both, Only, With, Without, Join}
use Rattle.statement.specs.Replies.{Report, Reply, refused, gives}
use Rattle.query.specs.Questions.{nth}
use Rattle.statement.specs.Calls.{operands}
use Rattle.statement.specs.Postconditions.{AnswerPost, PickPost, MeasurePost}

-- ---- calls

-- a call as it was made: its M, the call, and the number of working words
pub record Entry : Type 0 where
  pub m : ℕ
  pub call : Call
  pub words : ℕ

abbrev pub entry : ℕ → Call → ℕ → Entry
entry m c words = record { m = m; call = c; words = words }

-- on the table t it reports r and leaves t': its contract, and nothing else
abbrev pub Step : (Q : Problem) (t : List ℕ) → Entry → Report → List ℕ → Type 0
Step Q t e = AnswerPost Q e.m t e.call e.words

-- ---- histories

-- the calls with their reports, the latest first
abbrev pub Calls : Type 0
Calls = List (Entry × Report)

-- the numbers that the calls gave, behind 0 and 1
abbrev pub give : Reply ℕ → List ℕ → List ℕ
give (refused n) l = l
give (gives a) l = a ∷ l

abbrev pub given : Calls → List ℕ
given [] = 0 ∷ 1 ∷ []
given (e ∷ h) = give e.1.outcome (given h)

-- an operand of a call that answers is 0, 1 or an answer given earlier; a refused call may have any
abbrev pub Allowed : Calls → Entry → Reply ℕ → Type 0
Allowed h c (refused n) = Unit {0}
Allowed h c (gives a) = (x : ℕ) → x ∈ operands c.call → x ∈ given h

-- a history of the problem Q that leaves the table t: it starts from an empty table, of any length, and each call gets the table that the last left
pub data History (Q : Problem) : Calls → List ℕ → Type 0 where
  start : (n : ℕ) → History Q [] (replicate n 0)
  next : {h : Calls} {t : List ℕ} → History Q h t → (c : Entry) (r : Report) (t' : List ℕ)
      → Allowed h c r.outcome → Step Q t c r t' → History Q ((c, r) ∷ h) t'

-- ---- the ledger, computed from the calls' arguments and answers alone

-- a set of timetables, by its test
abbrev pub Chosen : Type 0
Chosen = List ℕ → Bool

-- its timetables in listing order
abbrev pub listing : Problem → Chosen → Family
listing Q X = filter X (sets (keys_of Q))

-- two sets are equal: they have the same timetables
abbrev pub SameSet : Problem → Chosen → Chosen → Type 0
SameSet Q X Y = (s : List ℕ) → elem s (sets (keys_of Q)) ≡ true → X s ≡ Y s

-- no timetable; only the empty one
abbrev pub no_timetable : Chosen
no_timetable s = false

abbrev pub empty_timetable : Chosen
empty_timetable [] = true
empty_timetable (p ∷ s) = false

-- the set that a call's line makes, from D by the definition of covering, or from p and the sets `of x` of its operands; a join's by its words: of all
-- timetables, one of a and one of b have the union s
abbrev pub makes : Problem → (ℕ → Chosen) → Call → Chosen
makes Q of (Cover d limit) s = covers Q (value d) s
makes Q of (Either a b) s = of a s || of b s
makes Q of (Both a b) s = of a s && of b s
makes Q of (Only a b) s = of a s && not (of b s)
makes Q of (With a p) s = of a s && has p s
makes Q of (Without a p) s = of a s && not (has p s)
makes Q of (Join a b) s = unites (keys_of Q) (of a) (of b) s

-- a number with a set of timetables
pub record Posting : Type 0 where
  pub number : ℕ
  pub set : Chosen

-- the set of the latest posting with the number x
abbrev pub latest : List Posting → ℕ → Chosen
latest [] x = no_timetable
latest (p ∷ ps) x = cond (eqb x p.number) p.set (latest ps x)

-- a call that answers adds a posting, and a refused one nothing
abbrev pub post : Problem → Entry → Reply ℕ → List Posting → List Posting
post Q c (refused n) ps = ps
post Q c (gives a) ps = record { number = a; set = makes Q (latest ps) c.call } ∷ ps

-- the latest posting stands first; the first postings are 0 with none and 1 with only the empty one
abbrev pub ledger : Problem → Calls → List Posting
ledger Q [] = record { number = 0; set = no_timetable } ∷ record { number = 1; set = empty_timetable } ∷ []
ledger Q (e ∷ h) = post Q e.0 e.1.outcome (ledger Q h)

-- ---- the demand

-- the M of each call that answered
abbrev pub count_in : ℕ → Reply ℕ → List ℕ → List ℕ
count_in m (refused n) l = l
count_in m (gives a) l = m ∷ l

abbrev pub answered_with : Calls → List ℕ
answered_with [] = []
answered_with (e ∷ h) = count_in e.0.m e.1.outcome (answered_with h)

-- pick returns the timetable s: its packages are at the start of the page, and the rest of the page is unchanged
abbrev pub Returns : List ℕ → List ℕ → Reply ℕ → List ℕ → Type 0
Returns s page r page' = (r ≡ gives (length s)) × (page' ≡ s ++ drop (length s) page)

-- pick is refused with n, and the page is unchanged
abbrev pub Refuses : ℕ → List ℕ → Reply ℕ → List ℕ → Type 0
Refuses n page r page' = (r ≡ refused n) × (page' ≡ page)

pub record Demanded (Q : Problem) (h : Calls) (t : List ℕ) : Type 0 where
  -- any two postings have equal numbers exactly when they have equal sets
  pub numbers : (p q : Posting) → p ∈ ledger Q h → q ∈ ledger Q h → (p.number ≡ q.number) ↔ SameSet Q p.set q.set
  -- where a posting's set has at most 18446744073709551615 timetables, pick gives the k-th for each k below their count, and 12 for each other k.
  -- It gets the packages of the history, the M of a call that answered, and the room that 8 and 15 ask
  pub picks : (p : Posting) → p ∈ ledger Q h → length (listing Q p.set) ≤ 18446744073709551615
      → (m : ℕ) → m ∈ answered_with h → (words : ℕ) → p.number + 1 ≤ words
      → (k : ℕ) (page : List ℕ) (r : Reply ℕ) (page' : List ℕ) → PickPost Q m t p.number k words page r page'
      → (k < length (listing Q p.set) → length (nth (listing Q p.set) k) ≤ length page → Returns (nth (listing Q p.set) k) page r page')
      × (length (listing Q p.set) ≤ k → Refuses 12 page r page')
  -- and measure gives how many packages the k-th has for each k below their count, and 12 for each other k
  pub measures : (p : Posting) → p ∈ ledger Q h → length (listing Q p.set) ≤ 18446744073709551615
      → (m : ℕ) → m ∈ answered_with h → (words : ℕ) → p.number + 1 ≤ words
      → (k : ℕ) (r : Reply ℕ) → MeasurePost Q m t p.number k words r
      → (k < length (listing Q p.set) → r ≡ gives (length (nth (listing Q p.set) k)))
      × (length (listing Q p.set) ≤ k → r ≡ refused 12)

abbrev pub Demand3 : Type 0
Demand3 = (Q : Problem) (h : Calls) (t : List ℕ) → History Q h t → Demanded Q h t

-- ---- the nodes

-- the table consists of the nodes below the answers given, their own included, and no others [document 02, No. 6]: of the numbers from 2 on it has just
-- those. (Below 0 and 1, which count as given, there is none of them)
abbrev pub Needed : Calls → List ℕ → Type 0
Needed h t = (k : ℕ) → 2 ≤ k → (k < count t + 2) ↔ ((a : ℕ) × (a ∈ given h) × Below (nodes_of t) a k)

abbrev pub NoSpareNode : Type 0
NoSpareNode = (Q : Problem) (h : Calls) (t : List ℕ) → History Q h t → Needed h t
