-- The runner's loop: what holds before each call, and why it holds after the call. Assumes nothing.
use mathlib.Core.Path.{◌≡◌, refl, sym, ap, ◌∙◌, subst⁻¹}
use mathlib.Core.Logic.{⊎_elim}
use mathlib.Core.Bool.{true, false}
use mathlib.Core.List.{List, [], ◌∷◌}
use Prim.Native.Nat.{ℕ, ◌+◌, ◌*◌, ◌/◌, ◌≤◌, ◌<◌}
use native.Mathlib.Nat.{not-suc-le-zero}
use native.Mathlib.Omega.{arith}
use lib.Dec.{leb}
use lib.ListN.{length, set, drop, replicate, length-set, length-replicate}
use lib.Seq.{drop-drop}
use borrow.Author.Count.{below_more}
use borrow.Author.Tests.{leb-true}
use Rattle.base.proofs.Bools.{or_cases}
use Rattle.zdd.specs.Table.{count, has, ◌∈◌}
use Rattle.zdd.proofs.Member.{has_in}
use Rattle.statement.specs.Replies.{Report, Reply, refused, gives}
use Rattle.exact_cover.specs.Problem.{Problem}
use Rattle.statement.specs.Calls.{operands}
use Rattle.history.specs.Histories.{Entry, Step, Calls, given, Allowed, History, start, next}
use Rattle.history.specs.Script.{call_at, calls, passes, every, runs, runnable, Ran}
use Rattle.history.specs.Parts.{marked, noted, Stored}
use Rattle.history.proofs.Contract.{operand_known, answer-below, as_long, nodes-made}
use Rattle.history.proofs.Demand.{demand3}
use Rattle.history.proofs.Spare.{no_spare_node}
use Rattle.history.proofs.Requests.{every-at, every-same, Runs, may_run, runs_same}
use Rattle.history.proofs.Reports.{calls-none, calls_same, calls-next}
use Rattle.history.proofs.Marks.{Marks, marks_none, marks_more, marks_give, marked-passes}

-- call j can be run on each table that the calls h leave
abbrev pub Runnable : (Q : Problem) (script : List ℕ) (places room j : ℕ) → Calls → Type 0
Runnable Q script places room j h = (u : List ℕ) → History Q h u → runs script places room j (passes h u) ≡ true

-- after i calls: t and out are the table and the words of the reports, g has the marks; t₀ and out₀ are those before the first
pub record Running (Q : Problem) (script : List ℕ) (room : ℕ) (t₀ out₀ : List ℕ) (i : ℕ) (g t out : List ℕ) : Type 0 where
  pub history : History Q (calls script out i) t
  pub marks : Marks g (given (calls script out i))
  pub numbers : length g ≡ 65536
  pub long : length t ≡ length t₀
  pub wide : length out ≡ length out₀
  pub rest : drop (3 * i) out ≡ drop (3 * i) out₀
  pub asked : i ≤ length script / 7
  pub placed : i ≤ length out₀ / 3
  pub ready : (j : ℕ) → j < i → Runnable Q script (length out₀ / 3) room j (calls script out j)

pub running_start : (Q : Problem) (script : List ℕ) (room : ℕ) (t out g : List ℕ) (words n : ℕ) → n ≡ 65536 → g ≡ set (set (replicate n 0) 1 1) 0 1 → t ≡ replicate words 0
    → Running Q script room t out 0 g t out
running_start Q script room t out g words n z q e = record {
  history = subst⁻¹ (λ (h : Calls). History Q h t) (calls-none script out) (subst⁻¹ (λ (u : List ℕ). History Q [] u) e (start words));
  marks = subst⁻¹ (λ (h : Calls). Marks g (given h)) (calls-none script out)
      (subst⁻¹ (λ (u : List ℕ). Marks u (0 ∷ 1 ∷ [])) q
      (marks_more g1 (1 ∷ []) 0 (omega (arith, l1, l0)) (marks_more (replicate n 0) [] 1 (omega (arith, l0)) (marks_none n))));
  numbers = ap length q ∙ length-set {A = ℕ} g1 0 1 ∙ l1 ∙ l0 ∙ z;
  long = refl;
  wide = refl;
  rest = refl;
  asked = omega arith;
  placed = omega arith;
  ready = λ j l. absurd (not-suc-le-zero l);
}
  where
    g1 : List ℕ
    g1 = set (replicate n 0) 1 1

    l0 : length (replicate {A = ℕ} n 0) ≡ n
    l0 = length-replicate {A = ℕ} n 0

    l1 : length g1 ≡ length (replicate {A = ℕ} n 0)
    l1 = length-set {A = ℕ} (replicate n 0) 1 1

-- an operand that passes the test and is known was given
allowed : (h : Calls) (t : List ℕ) (c : Entry) (o : Reply ℕ) → every (passes h t) (operands c.call) ≡ true
    → ((a : ℕ) → o ≡ gives a → (x : ℕ) → x ∈ operands c.call → x < count t + 2) → Allowed h c o
allowed h t c (refused n) e k = tt
allowed h t c (gives a) e k = λ x i. ⊎_elim
    (λ (p : has x (given h) ≡ true). has_in x (given h) p)
    (λ (p : leb (count t + 2) x ≡ true). absurd (omega (arith, leb-true (count t + 2) x p, k a refl x i)))
    (or_cases (has x (given h)) (leb (count t + 2) x) (every-at (passes h t) (operands c.call) e x i))

module _ {Q : Problem} {script : List ℕ} {room : ℕ} {t₀ out₀ : List ℕ} {i : ℕ} {g t out : List ℕ} (R : Running Q script room t₀ out₀ i g t out) where
  -- the marks test what the promise says
  same_test : (u : List ℕ) → runs script (length out₀ / 3) room i (marked g (count u)) ≡ runs script (length out₀ / 3) room i (passes (calls script out i) u)
  same_test u = runs_same script (length out₀ / 3) room i _ _ (marked-passes g u (calls script out i) R.numbers R.marks)

  pub running_next : {r : Report} {t' out' g' : List ℕ} → runs script (length out₀ / 3) room i (marked g (count t)) ≡ true
      → Step Q t (call_at script i) r t' → Stored out i r out' → g' ≡ noted r.outcome g
      → Running Q script room t₀ out₀ (i + 1) g' t' out'
  running_next {r} {t'} {out'} {g'} test step put wrote = record {
    history = subst⁻¹ (λ (h : Calls). History Q h t') after (next R.history (call_at script i) r t'
        (allowed (calls script out i) t (call_at script i) r.outcome
        (sym (every-same (marked g (count t)) (passes (calls script out i) t) (operands (call_at script i).call) (marked-passes g t (calls script out i) R.numbers R.marks)) ∙ ok.pass)
        (operand_known Q t (call_at script i) r t' step)) step);
    marks = subst⁻¹ (λ (h : Calls). Marks g' (given h)) after (subst⁻¹ (λ (u : List ℕ). Marks u (given ((call_at script i, r) ∷ calls script out i))) wrote
        (marks_give g (given (calls script out i)) r.outcome (λ a e. omega (arith, R.numbers, answer-below Q t (call_at script i) r t' step a e)) R.marks));
    numbers = ap length wrote ∙ mark-long r.outcome ∙ R.numbers;
    long = as_long Q t (call_at script i) r t' step ∙ R.long;
    wide = put.as_long ∙ R.wide;
    rest = rw (three) (put.behind ∙ sym (drop-drop 3 (3 * i) out) ∙ ap (drop 3) R.rest ∙ drop-drop 3 (3 * i) out₀);
    asked = omega (arith, ok.there);
    placed = omega (arith, ok.placed);
    ready = below_more (λ (j : ℕ). Runnable Q script (length out₀ / 3) room j (calls script out' j)) i
        (λ j l. subst⁻¹ (Runnable Q script (length out₀ / 3) room j) (kept j (omega arith)) (R.ready j l))
        (subst⁻¹ (Runnable Q script (length out₀ / 3) room i) (kept i (omega arith)) now_ready);
  }
    where
      ok : Runs script (length out₀ / 3) room i (marked g (count t))
      ok = may_run script (length out₀ / 3) room i (marked g (count t)) test

      now_ready : Runnable Q script (length out₀ / 3) room i (calls script out i)
      now_ready u H =
          sym (same_test u)
          ∙ ap (λ (n : ℕ). runs script (length out₀ / 3) room i (marked g n)) (nodes-made H ∙ sym (nodes-made R.history))
          ∙ test

      kept : (j : ℕ) → j ≤ i → calls script out' j ≡ calls script out j
      kept j l = calls_same script out out' (3 * i) j (omega arith) put.front

      three : 3 * (i + 1) ≡ 3 * i + 3
      three = omega arith

      after : calls script out' (i + 1) ≡ (call_at script i, r) ∷ calls script out i
      after =
          calls-next script out' i
          ∙ ap (λ (x : Report). (call_at script i, x) ∷ calls script out' i) put.says
          ∙ ap (λ (h : Calls). (call_at script i, r) ∷ h) (kept i (omega arith))

      mark-long : (o : Reply ℕ) → length (noted o g) ≡ length g
      mark-long (refused n) = refl
      mark-long (gives a) = length-set g a 1

  pub ran : (t₁ : List ℕ) → length t₀ ≡ length t₁ → runs script (length out₀ / 3) room i (marked g (count t)) ≡ false → Ran Q script room t₁ out₀ i t out
  ran t₁ l e = record {
    history = R.history;
    demanded = demand3 Q (calls script out i) t R.history;
    needed = no_spare_node Q (calls script out i) t R.history;
    long = R.long ∙ l;
    wide = R.wide;
    rest = R.rest;
    asked = R.asked;
    placed = R.placed;
    ready = λ j h u H. places j u ∙ R.ready j (omega arith) u H;
    stopped = places i t ∙ sym (same_test t) ∙ e;
  }
    where
      places : (j : ℕ) (u : List ℕ) → runnable script out room u j ≡ runs script (length out₀ / 3) room j (passes (calls script out j) u)
      places j u = ap (λ (n : ℕ). runs script (n / 3) room j (passes (calls script out j) u)) R.wide
