-- The withdrawal. THEOREMS: what passes where it is not refused (`admits`); the shortened problem passes the tests of the packages where the old one does
-- (`fit_shorten`); afterwards two entries are one number exactly where what is left of their sets is equal (`entries_equal`), and a cover that a listed answer
-- held is found there again (`finds_entry`), for which there is always room (`finds_room`). Assumes nothing.
use mathlib.Core.Path.{◌≡◌, sym, ap, ap₂, ◌∙◌, subst, subst⁻¹}
use mathlib.Core.Logic.{◌↔◌}
use mathlib.Core.Bool.{Bool, true, false, not, ◌||◌}
use mathlib.Core.List.{List, [], ◌++◌, append-nil}
use Prim.Native.Nat.{ℕ, ◌+◌, ◌-◌, ◌≤◌, ◌<◌}
use native.Mathlib.Omega.{arith}
use lib.ListN.{length, get_or}
use borrow.Author.Tests.{ltb-false, leb-false, le-ltb, not-false}
use Rattle.base.specs.Lists.{any}
use Rattle.base.proofs.Bools.{or_neither}
use Rattle.itemset.specs.declared.Items.{Items}
use Rattle.itemset.specs.Words.{width, value}
use Rattle.zdd.specs.Table.{Node, Family, count, capacity, nodes_of, family, soundb, Nodes}
use Rattle.zdd.specs.Branches.{missing}
use Rattle.zdd.specs.Withdrawal.{withdrawn}
use Rattle.zdd.proofs.Words.{length-nodes}
use Rattle.zdd.proofs.Tested.{sound_of}
use Rattle.zdd.proofs.Canon.{canonical}
use Rattle.zdd.proofs.Below.{least_growth}
use Rattle.exact_cover.specs.Problem.{Problem, done}
use Rattle.exact_cover.specs.Cover.{keys_of, covering}
use Rattle.exact_cover.specs.Shortened.{rising, remaining, shorten}
use Rattle.exact_cover.proofs.Shortened.{shorten_few, shorten-row, old_known, covering-shorten}
use Rattle.query.specs.Questions.{family_at, any_unknown}
use Rattle.query.proofs.Precede.{known_at}
use Rattle.statement.specs.declared.Call.TheVariants.{Cover}
use Rattle.statement.specs.Replies.{Report, Reply, gives}
use Rattle.statement.specs.Refusals.{oversize, stray_package, stray, stray_optional, nothing_compulsory, unsound, unknown_answer, not_rising, short_work, full, Fit, withdraw_refusal}
use Rattle.statement.specs.Calls.{call_refusal}
use Rattle.statement.specs.Postconditions.{AnswerPost, Withdrawn, WithdrawPost}
use Rattle.statement.proofs.FirstOf.{passed}
use Rattle.statement.proofs.TestLaws.{within_limits, package_passes, none_of}
use Rattle.statement.proofs.Admission.{fit_of, packages_fit}
use Rattle.statement.proofs.Made.{found_number, found-made}

-- ---- the shortened problem

-- THEOREM: none of 1, 2, 29, 30 and 34 applies to it where none did
pub fit_shorten : (Q : Problem) (m : ℕ) (gone : List ℕ) → Fit Q m → Fit (shorten Q gone) m
unfolding oversize stray stray_optional nothing_compulsory done shorten
fit_shorten Q m gone f = record {
  sized = ap₂ ◌||◌ (le-ltb width m limits.0) (le-ltb 512 (length (shorten Q gone).packages) (omega (arith, limits.1, shorten_few Q gone)));
  clean = each (stray_package m) f.clean;
  known = f.known;
  due = each (done Q) f.due;
  ordered = f.ordered;
}
  where
    limits : (m ≤ width) × (length Q.packages ≤ 512)
    limits = within_limits m Q.packages f.sized

    each : (P : ℕ → Bool) → any P Q.packages ≡ false → any P (shorten Q gone).packages ≡ false
    each P e =
        none_of P (shorten Q gone).packages (λ q b.
        ap P (shorten-row Q gone q b) ∙ package_passes P Q.packages e (get_or (remaining Q gone) q 0) (old_known Q gone q b))

-- ---- what passes

-- no test of a withdrawal holds
pub record Admits (Q : Problem) (m : ℕ) (t gone answers : List ℕ) (words : ℕ) : Type 0 where
  pub fit : Fit Q m
  pub sound : soundb (keys_of Q) t ≡ true
  pub answers_known : (j : ℕ) → j < length answers → get_or answers j 0 < count t + 2
  pub gone_known : (j : ℕ) → j < length gone → get_or gone j 0 < length Q.packages
  pub rises : rising gone ≡ true
  pub enough : count t + 2 ≤ words

pub admits : (Q : Problem) (m : ℕ) (t gone answers : List ℕ) (words : ℕ) → withdraw_refusal Q m t gone answers words ≡ 0 → Admits Q m t gone answers words
unfolding withdraw_refusal unsound unknown_answer not_rising short_work
admits Q m t gone answers words e =
    let p = fit_of {Q = Q} {m = m} _ e in
    let a = passed _ 3 _ p.1 in
    let b = passed _ 4 _ a.1 in
    let c = passed _ 35 _ b.1 in
    let d = passed _ 7 _ c.1 in
    let n = or_neither (any_unknown Q.packages gone) (not (rising gone)) c.0 in
    record {
      fit = p.0;
      sound = not-false (soundb (keys_of Q) t) a.0;
      answers_known = λ j h. leb-false (count t + 2) (get_or answers j 0) (package_passes (unknown_answer t) answers b.0 j h);
      gone_known = known_at Q.packages gone n.0;
      rises = not-false (rising gone) n.1;
      enough = ltb-false words (count t + 2) d.0;
    }

pub fit_withdraw : (Q : Problem) (m : ℕ) (t gone answers : List ℕ) (words : ℕ) → withdraw_refusal Q m t gone answers words ≡ 0 → Fit Q m
fit_withdraw Q m t gone answers words e = (admits Q m t gone answers words e).fit

-- ---- after it

module _ {Q : Problem} {gone t answers : List ℕ} {r : Reply ℕ} {t' answers' : List ℕ} (W : Withdrawn Q gone t answers r t' answers') where
  -- THEOREM: two entries are one number exactly where what is left of their sets is equal
  pub entries_equal : (i j : ℕ) → i < length answers → j < length answers
      → (get_or answers' i 0 ≡ get_or answers' j 0) ↔ (withdrawn gone (family_at t (get_or answers i 0)) ≡ withdrawn gone (family_at t (get_or answers j 0)))
  entries_equal i j hi hj = (
    λ e. sym (W.holds i hi) ∙ ap (family_at t') e ∙ W.holds j hj,
    λ e. canonical (sound_of (keys_of (shorten Q gone)) t' W.sound).nodes (get_or answers' i 0) (get_or answers' j 0)
        (omega (arith, W.known i hi, length-nodes t')) (omega (arith, W.known j hj, length-nodes t')) (W.holds i hi ∙ e ∙ sym (W.holds j hj)),
  )

-- THEOREM: there is room for what the table holds, so that full is not said to a call for it
pub held_fits : (K t : List ℕ) → soundb K t ≡ true → (a : ℕ) → a < count t + 2 → full t (family_at t a) ≡ false
unfolding full
held_fits K t s a h =
    let ns = nodes_of t in
    let n : Nodes K (ns ++ []) = subst⁻¹ (Nodes K) (append-nil ns) (sound_of K t s).nodes in
    let g : missing ns (family (ns ++ []) a) ≤ 0 = least_growth ns [] n a (omega (arith, length-nodes t, ap length (append-nil ns))) in
    le-ltb (capacity t - count t) (missing ns (family_at t a)) (omega (arith, subst (λ (l : List Node). missing ns (family l a) ≤ 0) (append-nil ns) g))

-- after a withdrawal that was not refused, whose entry j held the covering of d
module _ {Q : Problem} {m : ℕ} {t gone answers : List ℕ} {words : ℕ} {r : Reply ℕ} {t' answers' : List ℕ} (P : WithdrawPost Q m t gone answers words r t' answers')
    (z : withdraw_refusal Q m t gone answers words ≡ 0) (d : Items) (j : ℕ) (h : j < length answers) (e : family_at t (get_or answers j 0) ≡ covering Q (value d)) where
  -- it holds that of the shortened list
  held : family_at t' (get_or answers' j 0) ≡ covering (shorten Q gone) (value d)
  held =
      (P.done z).holds j h ∙ ap (withdrawn gone) e
      ∙ sym (covering-shorten Q gone (packages_fit (fit_withdraw Q m t gone answers words z)) (value d))

  -- THEOREM: a cover of d answers with the entry, and makes no node
  pub finds_entry : (limit work : ℕ) (r' : Report) (t'' : List ℕ) → AnswerPost (shorten Q gone) m t' (Cover d limit) work r' t''
      → call_refusal (shorten Q gone) m t' (Cover d limit) work ≡ 0 → (r'.outcome ≡ gives (get_or answers' j 0)) × (r'.made ≡ 0)
  finds_entry limit work r' t'' C y =
      let A = C.answered y in
      let known = (P.done z).known j h in
      (A.outcome ∙ ap gives (found_number A (get_or answers' j 0) known held), found-made A (get_or answers' j 0) known held)

  -- THEOREM: full is not said to it
  pub finds_room : full t' (covering (shorten Q gone) (value d)) ≡ false
  finds_room = subst (λ (F : Family). full t' F ≡ false) held (held_fits (keys_of (shorten Q gone)) t' (P.done z).sound (get_or answers' j 0) ((P.done z).known j h))
