-- A script of calls as words, the reports that running it writes, and what the runner promises: the third demand of what it ran, and no spare node.
-- Assumes nothing: these are definitions.
use Rattle.std.specs.Prelude.{◌≡◌, Bool, true, false, cond, ◌&&◌, ◌||◌, List, [], ◌∷◌, ℕ, zero, suc, ◌+◌, ◌-◌, ◌*◌, ◌/◌, ◌≤◌, ◌<◌, eqb, leb, ltb, length, get_or, drop}
use Rattle.itemset.specs.declared.Items.{Items}
use Rattle.zdd.specs.Table.{count, has}
use Rattle.exact_cover.specs.Problem.{Problem}
use Rattle.statement.specs.declared.Call.{Call}
use Rattle.statement.specs.declared.Call.TheVariants.{Cover, Either, Both, Only, With, Without, Join}
use Rattle.statement.specs.Calls.{operands}
use Rattle.statement.specs.Replies.{Reply, refused, gives, Report}
use Rattle.history.specs.declared.Request.{Request}
use Rattle.history.specs.Histories.{Entry, entry, Calls, given, History, Demanded, Needed}

-- ---- a script: seven words a call

-- its kind, M, two arguments, the first of three words, and the number of working words. Kind 0 is cover of D = x with the step limit y
-- [document 01: B]; 1, 2 and 3 are either, both and only of the answers x and y; 4 is with, and 5 without, of the answer x and the package y; 6 and above
-- is join of the answers x and y.
-- An answer x is the lowest of its three words, and the others mean nothing
abbrev pub call_of : (kind : ℕ) (x : Items) (y : ℕ) → Call
call_of zero x y = Cover x y
call_of (suc zero) x y = Either x.w0 y
call_of (suc (suc zero)) x y = Both x.w0 y
call_of (suc (suc (suc zero))) x y = Only x.w0 y
call_of (suc (suc (suc (suc zero)))) x y = With x.w0 y
call_of (suc (suc (suc (suc (suc zero))))) x y = Without x.w0 y
call_of (suc (suc (suc (suc (suc (suc k)))))) x y = Join x.w0 y

-- the call that a request of the code asks
abbrev pub request_entry : Request → Entry
request_entry q = entry q.m (call_of q.kind q.x q.y) q.words

-- call i of the script, from 0: its seven words, and the call
abbrev pub request_at : List ℕ → ℕ → Request
request_at script i = record {
  kind = get_or script (7 * i) 0;
  m = get_or script (7 * i + 1) 0;
  x = record { w0 = get_or script (7 * i + 2) 0; w1 = get_or script (7 * i + 3) 0; w2 = get_or script (7 * i + 4) 0 };
  y = get_or script (7 * i + 5) 0;
  words = get_or script (7 * i + 6) 0;
}

abbrev pub call_at : List ℕ → ℕ → Entry
call_at script i = request_entry (request_at script i)

-- ---- the reports: three words a call

-- the word of an outcome: the answer's number, or 4294967296 more than the refusal's
abbrev pub outcome_of : ℕ → Reply ℕ
outcome_of w = cond (ltb w 4294967296) (gives w) (refused (w - 4294967296))

-- the report of call i: the outcome's word, the steps, the nodes made
abbrev pub report_at : List ℕ → ℕ → Report
report_at out i = record { outcome = outcome_of (get_or out (3 * i) 0); steps = get_or out (3 * i + 1) 0; made = get_or out (3 * i + 2) 0 }

-- the first n calls of the script with the reports written, the latest first
unfoldable pub calls : (script out : List ℕ) → ℕ → Calls
calls script out zero = []
calls script out (suc i) = (call_at script i, report_at out i) ∷ calls script out i

-- ---- which call may be run next

-- M, operands, p and B have 32 bits in the engine's calls
abbrev pub narrow : ℕ → Bool
narrow x = ltb x 4294967296

-- the call can be made at all: each of its numbers but D has 32 bits, and as many working words are lent as it asks
unfoldable pub possible : ℕ → Request → Bool
possible room q = narrow q.m && (narrow q.y && (leb q.words room && (eqb q.kind 0 || narrow q.x.w0)))

-- x is unknown to a table of n nodes: n + 2 or more
abbrev pub beyond : ℕ → ℕ → Bool
beyond n x = leb (n + 2) x

-- x may be an operand after the calls h, which left the table t: it is 0, 1 or an answer given earlier; or the table does not know it, so that the call
-- is refused whatever else holds, and a refused call may have any operands
abbrev pub passes : Calls → List ℕ → ℕ → Bool
passes h t x = has x (given h) || beyond (count t) x

-- each of a list passes the test
unfoldable pub every : (ℕ → Bool) → List ℕ → Bool
every P [] = true
every P (x ∷ xs) = P x && every P xs

-- the script has a call i, there is a place for its report, it can be made, and each operand passes the test P
unfoldable pub runs : (script : List ℕ) (places room i : ℕ) → (ℕ → Bool) → Bool
unfolding possible every
runs script places room i P =
    ltb i (length script / 7)
    && (ltb i places
    && (possible room (request_at script i)
    && every P (operands (call_at script i).call)))

-- call i may be run next, on the table t that the calls before it left
abbrev pub runnable : (script out : List ℕ) (room : ℕ) (t : List ℕ) (i : ℕ) → Bool
runnable script out room t i = runs script (length out / 3) room i (passes (calls script out i) t)

-- ---- what the runner promises

-- the first n calls of the script were run from an empty table as long as t, and their reports written to the first words of out; t' and out' are the
-- table and the words after that, and `room` is the number of working words lent
pub record Ran (Q : Problem) (script : List ℕ) (room : ℕ) (t out : List ℕ) (n : ℕ) (t' out' : List ℕ) : Type 0 where
  -- the calls run are a history, the third demand's conclusion holds of it, and the table has just the nodes that its answers need
  pub history : History Q (calls script out' n) t'
  pub demanded : Demanded Q (calls script out' n) t'
  pub needed : Needed (calls script out' n) t'
  -- the table is as long as before; the words behind the reports are unchanged
  pub long : length t' ≡ length t
  pub wide : length out' ≡ length out
  pub rest : drop (3 * n) out' ≡ drop (3 * n) out
  -- the script has these calls, and there was a place for each report
  pub asked : n ≤ length script / 7
  pub placed : n ≤ length out / 3
  -- each of these calls could be run, on whatever table the calls before it left; the next one may not be run, or there is none
  pub ready : (i : ℕ) → i < n → (u : List ℕ) → History Q (calls script out' i) u → runnable script out' room u i ≡ true
  pub stopped : runnable script out' room t' n ≡ false
