-- THEOREMS, from the contracts of measure and pick: pick replies what measure replies on every page that is long enough, on a shorter one it is refused
-- with 15, and measure of 0, 1, 2, .. gives the lengths of the listing, then is past the end. Assumes nothing.
use mathlib.Core.Path.{◌≡◌, refl, sym, ap, ◌∙◌}
use mathlib.Core.List.{List, [], ◌∷◌}
use Prim.Native.Nat.{ℕ, zero, suc, ◌+◌, ◌≤◌, ◌<◌}
use native.Mathlib.Omega.{arith}
use lib.ListN.{length}
use Rattle.exact_cover.specs.Problem.{Problem}
use Rattle.query.specs.Questions.{family_at, nth}
use Rattle.statement.specs.Replies.{refused, gives, reply, Reply}
use Rattle.statement.specs.Refusals.{first_of, past_end, short_page, pick_refusal, measure_tests, measure_refusal}
use Rattle.statement.specs.Postconditions.{PickPost, MeasurePost, written}
use Rattle.statement.proofs.FirstOf.{pass, hit, none, front, behind}
use Rattle.statement.proofs.Admission.{table-passes}
use Rattle.statement.proofs.TestLaws.{was_given, enough, not_past, is_past, page_fits, page_short}
use Rattle.statement.proofs.Undo.{Answerable}

-- ---- pick's tests are measure's, and behind them 15

module _ (Q : Problem) (m : ℕ) (t : List ℕ) (a k words : ℕ) where
  -- where measure is not refused, the page decides
  pub pick_last : (page : List ℕ) → measure_refusal Q m t a k words ≡ 0 → pick_refusal Q m t a k words page ≡ first_of ((short_page page (nth (family_at t a) k), 15) ∷ [])
  unfolding pick_refusal measure_refusal
  pick_last page e = behind (measure_tests Q m t a k words) ((short_page page (nth (family_at t a) k), 15) ∷ []) tt e

  -- a refusal of measure is pick's, whatever the page
  pub pick_before : (page : List ℕ) {r : ℕ} → measure_refusal Q m t a k words ≡ r → (r ≡ 0 → ⊥) → pick_refusal Q m t a k words page ≡ r
  unfolding pick_refusal measure_refusal
  pick_before page e f = front (measure_tests Q m t a k words) _ (λ z. f (sym e ∙ z)) ∙ e

-- ---- the two calls, with the same arguments

module _ {Q : Problem} {m : ℕ} {t : List ℕ} {a k words : ℕ} {r : Reply ℕ} (M : MeasurePost Q m t a k words r)
    {page : List ℕ} {p : Reply ℕ} {page' : List ℕ} (P : PickPost Q m t a k words page p page') where
  s : List ℕ
  s = nth (family_at t a) k

  picked : {n : ℕ} → pick_refusal Q m t a k words page ≡ n → p ≡ reply n (length s)
  unfolding s
  picked e = P.result ∙ ap (λ (i : ℕ). reply i (length s)) e

  measured : {n : ℕ} → measure_refusal Q m t a k words ≡ n → r ≡ reply n (length s)
  unfolding s
  measured e = M.result ∙ ap (λ (i : ℕ). reply i (length s)) e

  -- THEOREM: on a page with room for what measure gives, if it gives a number, pick replies the same
  pub pick_as_measured : ((c : ℕ) → r ≡ gives c → c ≤ length page) → p ≡ r
  unfolding s
  pick_as_measured room = go (measure_refusal Q m t a k words) refl
    where
      go : (n : ℕ) → measure_refusal Q m t a k words ≡ n → p ≡ r
      go zero e =
          let fits : length s ≤ length page = room (length s) (measured e) in
          picked (pick_last Q m t a k words page e ∙ pass 15 _ (page_fits page s fits) ∙ none) ∙ sym (measured e)
      go (suc n) e = picked (pick_before Q m t a k words page e (λ z. omega arith)) ∙ sym (measured e)

  -- THEOREM: on a page with room for less, pick is refused with 15 and leaves it as it was
  pub pick_shorter : {c : ℕ} → r ≡ gives c → length page < c → (p ≡ refused 15) × (page' ≡ page)
  unfolding s
  pick_shorter {c} e l =
      let z = was_given c (measure_refusal Q m t a k words) (length s) (sym e ∙ M.result) in
      let n15 = pick_last Q m t a k words page z.0 ∙ hit 15 _ (page_short page s (omega (arith, z.1))) in
      (picked n15, P.pages ∙ ap (λ (n : ℕ). written n s page) n15)

-- ---- the listing

module _ {Q : Problem} {m : ℕ} {t : List ℕ} {a words : ℕ} (R : Answerable Q m t a) (w : a + 1 ≤ words) where
  only_end : (k : ℕ) → measure_refusal Q m t a k words ≡ first_of ((past_end (family_at t a) k, 12) ∷ [])
  unfolding measure_refusal
  only_end k = table-passes t _ R.fit R.sound ∙ pass 5 _ R.known ∙ pass 8 _ (enough (a + 1) words w) ∙ pass 11 _ R.counted

  -- THEOREM: measure of k gives how many packages the k-th timetable of the listing has, for each k below their count, and 12 for each other k
  pub measure_lists : {k : ℕ} {r : Reply ℕ} → MeasurePost Q m t a k words r
      → (k < length (family_at t a) → r ≡ gives (length (nth (family_at t a) k))) × (length (family_at t a) ≤ k → r ≡ refused 12)
  measure_lists {k} {r} M = (
    λ l. M.result ∙ ap (λ (n : ℕ). reply n (length (nth (family_at t a) k))) (only_end k ∙ pass 12 _ (not_past (family_at t a) k l) ∙ none),
    λ l. M.result ∙ ap (λ (n : ℕ). reply n (length (nth (family_at t a) k))) (only_end k ∙ hit 12 _ (is_past (family_at t a) k l)),
  )
