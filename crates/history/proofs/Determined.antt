-- How many calls the runner runs is determined: the reports tell it. Assumes nothing.
use mathlib.Core.Path.{◌≡◌, sym, ap₂, ◌∙◌, subst}
use mathlib.Core.Bool.{true}
use mathlib.Core.List.{List}
use Prim.Native.Nat.{ℕ, zero, suc, ◌/◌, ◌<◌}
use native.Mathlib.Nat.{not-suc-le-zero}
use native.Mathlib.Omega.{arith}
use borrow.Author.Count.{below_more}
use lib.ListN.{length}
use Rattle.base.proofs.Bools.{never}
use Rattle.exact_cover.specs.Problem.{Problem}
use Rattle.history.specs.Histories.{Calls, History, next}
use Rattle.history.specs.Script.{report_at, calls, passes, runs, runnable, Ran}
use Rattle.history.proofs.Reports.{calls_reported}

-- the first i of n calls are a history where all n are
earlier : {Q : Problem} (script out : List ℕ) (n : ℕ) {t : List ℕ} → History Q (calls script out n) t
    → (i : ℕ) → i < n → (u : List ℕ) × History Q (calls script out i) u
unfolding calls
earlier script out zero H i l = absurd (not-suc-le-zero l)
earlier {Q} script out (suc n) (next {t} H c r t' a s) i l =
    below_more (λ (j : ℕ). (u : List ℕ) × History Q (calls script out j) u) n (earlier script out n H) (t, H) i (omega arith)

module _ {Q : Problem} {script : List ℕ} {room : ℕ} {t out : List ℕ} {n : ℕ} {t' out' : List ℕ} (P : Ran Q script room t out n t' out') where
  -- a run does not stop before another one with the same reports
  not_before : {u w : List ℕ} {m : ℕ} {u' w' : List ℕ} → Ran Q script room u w m u' w' → length out ≡ length w
      → ((i : ℕ) → i < n → i < m → report_at out' i ≡ report_at w' i) → n < m → ⊥
  not_before {w} {m} {w'} R l e h =
      let same : calls script out' n ≡ calls script w' n = calls_reported script out' w' n (λ i k. e i k (omega arith)) in
      let long : length w' ≡ length out' = omega (arith, P.wide, R.wide) in
      never (R.ready n (omega arith) t' (subst (λ (c : Calls). History Q c t') same P.history))
      (ap₂ (λ (k : ℕ) (c : Calls). runs script (k / 3) room n (passes c t')) long (sym same) ∙ P.stopped)

  -- THEOREM: each call that was run got a table, left by the calls before it, on which it could be run
  pub table_got : (i : ℕ) → i < n → (u : List ℕ) × History Q (calls script out' i) u × (runnable script out' room u i ≡ true)
  table_got i l = let e = earlier script out' n P.history i l in (e.0, e.1, P.ready i (omega arith) e.0 e.1)

-- THEOREM: two runs of one script whose reports agree ran equally many calls, whatever tables they were lent, and whatever stood in the words lent for
-- the reports, equally many to both
pub same_number : {Q : Problem} {script : List ℕ} {room : ℕ} {t out : List ℕ} {n : ℕ} {t' out' u w : List ℕ} {m : ℕ} {u' w' : List ℕ}
    → Ran Q script room t out n t' out' → Ran Q script room u w m u' w'
    → length out ≡ length w → ((i : ℕ) → i < n → i < m → report_at out' i ≡ report_at w' i) → n ≡ m
same_number P R l e = omega (arith, not_before P R l e, not_before R P (sym l) (λ i a b. sym (e i b a)))
