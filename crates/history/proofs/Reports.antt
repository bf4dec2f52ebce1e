-- The words of a report, and the calls that the reports tell: laws over plain lists. Assumes nothing.
use mathlib.Core.Path.{◌≡◌, refl, sym, ap, ap₂, ◌∙◌}
use mathlib.Core.Bool.{Bool, cond}
use mathlib.Core.List.{List, [], ◌∷◌}
use Prim.Native.Nat.{ℕ, zero, suc, ◌+◌, ◌-◌, ◌*◌, ◌/◌, ◌≤◌, ◌<◌}
use native.Mathlib.Numerals.{add-one}
use native.Mathlib.Omega.{arith}
use lib.ListN.{length, get_or, set, take, length-set}
use lib.Seq.{get_or-set_same, get_or-set_other, take-set-le, drop-set-lt, get_or-take}
use borrow.Author.Tests.{lt-ltb, le-ltb}
use Rattle.statement.specs.Replies.{refused, gives, Report}
use Rattle.history.specs.Histories.{Calls}
use Rattle.history.specs.Script.{call_at, outcome_of, report_at, calls}
use Rattle.history.specs.Parts.{Stored}

pub answer_word : (a : ℕ) → a < 4294967296 → outcome_of a ≡ gives a
answer_word a h = ap (λ (b : Bool). cond b (gives a) (refused (a - 4294967296))) (lt-ltb a 4294967296 h)

pub refused-word : (n : ℕ) → outcome_of (n + 4294967296) ≡ refused n
refused-word n =
    ap (λ (b : Bool). cond b (gives (n + 4294967296)) (refused (n + 4294967296 - 4294967296))) (le-ltb (n + 4294967296) 4294967296 (omega arith))
    ∙ ap refused (omega arith)

pub stored : (out : List ℕ) (i w : ℕ) (r : Report) → i < length out / 3 → outcome_of w ≡ r.outcome
    → Stored out i r (set (set (set out (3 * i) w) (3 * i + 1) r.steps) (3 * i + 2) r.made)
stored out i w r h e =
    let o1 = set out (3 * i) w in
    let o2 = set o1 (3 * i + 1) r.steps in
    let l1 : length o1 ≡ length out = length-set out (3 * i) w in
    let l2 : length o2 ≡ length o1 = length-set o1 (3 * i + 1) r.steps in
    let g0 : get_or (set o2 (3 * i + 2) r.made) (3 * i) 0 ≡ w =
    get_or-set_other o2 (3 * i + 2) (3 * i) r.made 0 (λ z. omega arith)
    ∙ get_or-set_other o1 (3 * i + 1) (3 * i) r.steps 0 (λ z. omega arith)
    ∙ get_or-set_same out (3 * i) w 0 (omega arith) in
    let g1 : get_or (set o2 (3 * i + 2) r.made) (3 * i + 1) 0 ≡ r.steps =
    get_or-set_other o2 (3 * i + 2) (3 * i + 1) r.made 0 (λ z. omega arith)
    ∙ get_or-set_same o1 (3 * i + 1) r.steps 0 (omega arith) in
    let g2 : get_or (set o2 (3 * i + 2) r.made) (3 * i + 2) 0 ≡ r.made = get_or-set_same o2 (3 * i + 2) r.made 0 (omega arith) in
    record {
      says = rw (g0, g1, g2, e);
      front = take-set-le (3 * i) o2 (3 * i + 2) r.made (omega arith) ∙ take-set-le (3 * i) o1 (3 * i + 1) r.steps (omega arith)
          ∙ take-set-le (3 * i) out (3 * i) w (omega arith);
      behind = drop-set-lt (3 * i + 3) o2 (3 * i + 2) r.made (omega arith) ∙ drop-set-lt (3 * i + 3) o1 (3 * i + 1) r.steps (omega arith)
          ∙ drop-set-lt (3 * i + 3) out (3 * i) w (omega arith);
      as_long = length-set o2 (3 * i + 2) r.made ∙ l2 ∙ l1;
    }

-- equal reports, equal calls
pub calls_reported : (script out out' : List ℕ) (n : ℕ) → ((i : ℕ) → i < n → report_at out i ≡ report_at out' i) → calls script out n ≡ calls script out' n
unfolding calls
calls_reported script out out' zero e = refl
calls_reported script out out' (suc n) e =
    ap₂ (λ (r : Report) (h : Calls). (call_at script n, r) ∷ h) (e n (omega arith)) (calls_reported script out out' n (λ i l. e i (omega arith)))

-- the first reports are read off the first words
pub calls_same : (script out out' : List ℕ) (n i : ℕ) → 3 * i ≤ n → take n out' ≡ take n out → calls script out' i ≡ calls script out i
calls_same script out out' n i h e = calls_reported script out' out i (λ j l.
    rw (word (3 * j) (omega arith), word (3 * j + 1) (omega arith), word (3 * j + 2) (omega arith)))
  where
    word : (j : ℕ) → j < n → get_or out' j 0 ≡ get_or out j 0
    word j l = sym (get_or-take n out' j 0 l) ∙ ap (λ (x : List ℕ). get_or x j 0) e ∙ get_or-take n out j 0 l

pub calls-none : (script out : List ℕ) → calls script out 0 ≡ []
unfolding calls
calls-none script out = refl

pub calls-next : (script out : List ℕ) (i : ℕ) → calls script out (i + 1) ≡ (call_at script i, report_at out i) ∷ calls script out i
unfolding calls
calls-next script out i = ap (calls script out) (add-one i)
