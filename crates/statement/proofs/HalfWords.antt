-- THEOREMS: document 02's No. 10 moved the limit under 8 of cheapest, from 2 × (a + 1) working words to a + 1, and nothing else. What was answered is answered
-- with the same timetable, cost and page, every refusal but 8 is the same, and 8 is said exactly where no test before it holds and there are fewer than a + 1
-- words. Assumes nothing.
use mathlib.Core.Path.{◌≡◌, refl, sym, ap, ◌∙◌}
use mathlib.Core.Logic.{◌⊎◌, inl, inr, ⊎_elim}
use mathlib.Core.Bool.{Bool}
use mathlib.Core.List.{List, [], ◌∷◌, ◌++◌}
use Prim.Native.Nat.{ℕ, zero, suc, ◌+◌, ◌*◌, ◌≤◌, ◌<◌}
use native.Mathlib.Omega.{arith}
use native.Mathlib.Decide.{dec_lt}
use lib.ListN.{length}
use borrow.Author.Tests.{ltb-true}
use Rattle.exact_cover.specs.Problem.{Problem}
use Rattle.query.specs.Questions.{family_at, cost, cheapest}
use Rattle.statement.specs.Replies.{refused, gives, reply, Reply}
use Rattle.statement.specs.Refusals.{first_of, package_tests, priced_tests, unpriced, unsound, unknown_answer, short_work, nothing, short_page, cheapest_refusal}
use Rattle.statement.specs.Postconditions.{CheapestPost, written}
use Rattle.statement.proofs.FirstOf.{pass, hit, front, behind, only-there}
use Rattle.statement.proofs.TestLaws.{was_given, was_refused, reply-refused, enough, too_few}

-- ---- what was

-- document 01's list of tests
unfoldable pub old_cheapest_refusal : (Q : Problem) (m : ℕ) (C : List ℕ) (t : List ℕ) (a words : ℕ) (page : List ℕ) → ℕ
old_cheapest_refusal Q m C t a words page =
    first_of (package_tests Q m (
    (unpriced Q C, 3) ∷
    (unsound Q t, 4) ∷
    (unknown_answer t a, 5) ∷
    (short_work (2 * (a + 1)) words, 8) ∷
    (nothing a, 13) ∷
    (short_page page (cheapest C (family_at t a)), 15) ∷
    []))

-- the contract that went by it: `CheapestPost`, but for the list
pub record OldCheapestPost (Q : Problem) (m : ℕ) (C t : List ℕ) (a words : ℕ) (page : List ℕ) (r : Reply (ℕ × ℕ)) (page' : List ℕ) : Type 0 where
  pub result :
      r ≡ reply (old_cheapest_refusal Q m C t a words page) (length (cheapest C (family_at t a)), cost C (cheapest C (family_at t a)))
  pub pages : page' ≡ written (old_cheapest_refusal Q m C t a words page) (cheapest C (family_at t a)) page

-- ---- the two lists

module _ (Q : Problem) (m : ℕ) (C t : List ℕ) (a words : ℕ) (page : List ℕ) where
  -- the tests behind 8
  abbrev pub last_tests : List (Bool × ℕ)
  last_tests = (nothing a, 13) ∷ (short_page page (cheapest C (family_at t a)), 15) ∷ []

  -- the refusal by a list that says 8 below so many words
  abbrev pub with_least : ℕ → ℕ
  with_least least = first_of (priced_tests Q m C t a ++ ((short_work least words, 8) ∷ last_tests))

  -- THEOREM: the two lists differ under 8 alone
  pub new_list : cheapest_refusal Q m C t a words page ≡ with_least (a + 1)
  unfolding cheapest_refusal
  new_list = refl

  pub old_list : old_cheapest_refusal Q m C t a words page ≡ with_least (2 * (a + 1))
  unfolding old_cheapest_refusal
  old_list = refl

  -- where no test before 8 holds
  module _ (e : first_of (priced_tests Q m C t a) ≡ 0) {least : ℕ} where
    short : words < least → with_least least ≡ 8
    short w = behind (priced_tests Q m C t a) ((short_work least words, 8) ∷ last_tests) tt e ∙ hit 8 last_tests (too_few least words w)

    served : least ≤ words → with_least least ≡ first_of last_tests
    served w = behind (priced_tests Q m C t a) ((short_work least words, 8) ∷ last_tests) tt e ∙ pass 8 last_tests (enough least words w)

  -- 8 was said to words that are enough now, and the tests behind it decide
  pub record Moved : Type 0 where
    pub was : old_cheapest_refusal Q m C t a words page ≡ 8
    pub enough_now : a + 1 ≤ words
    pub too_few_then : words < 2 * (a + 1)
    pub says : cheapest_refusal Q m C t a words page ≡ first_of last_tests

  -- THEOREM: but for that the refusal is what it was
  pub same_or_moved : (cheapest_refusal Q m C t a words page ≡ old_cheapest_refusal Q m C t a words page) ⊎ Moved
  same_or_moved = go (first_of (priced_tests Q m C t a)) refl (dec_lt words (a + 1)) (dec_lt words (2 * (a + 1)))
    where
      go : (n : ℕ) → first_of (priced_tests Q m C t a) ≡ n → Dec (words < a + 1) → Dec (words < 2 * (a + 1))
          → (cheapest_refusal Q m C t a words page ≡ old_cheapest_refusal Q m C t a words page) ⊎ Moved
      go (suc n) e d d' =
          let f : first_of (priced_tests Q m C t a) ≡ 0 → ⊥ = λ z. omega (arith, e, z) in
          inl (new_list ∙ front (priced_tests Q m C t a) _ f ∙ sym (old_list ∙ front (priced_tests Q m C t a) _ f))
      go zero e (yes w) d' = inl (new_list ∙ short e w ∙ sym (old_list ∙ short e (omega arith)))
      go zero e (no w) (yes w') =
          let l : a + 1 ≤ words = omega arith in
          inr (record { was = old_list ∙ short e w'; enough_now = l; too_few_then = w'; says = new_list ∙ served e l })
      go zero e (no w) (no w') = inl (new_list ∙ served e (omega arith) ∙ sym (old_list ∙ served e (omega arith)))

-- ---- the contracts, with the same arguments

-- THEOREM: 8 is said exactly where no test before it holds and there are fewer than a + 1 words
pub short_exactly : {Q : Problem} {m : ℕ} {C t : List ℕ} {a words : ℕ} {page : List ℕ} {r : Reply (ℕ × ℕ)} {page' : List ℕ} → CheapestPost Q m C t a words page r page'
    → (r ≡ refused 8 → (first_of (priced_tests Q m C t a) ≡ 0) × (words < a + 1))
    × (first_of (priced_tests Q m C t a) ≡ 0 → words < a + 1 → r ≡ refused 8)
unfolding short_work
short_exactly {Q} {m} {C} {t} {a} {words} {page} P = (
  λ e.
      let n = was_refused 8 (cheapest_refusal Q m C t a words page) _ (sym e ∙ P.result) in
      let z = only-there (priced_tests Q m C t a) (last_tests Q m C t a words page) 8 tt tt tt (sym (new_list Q m C t a words page) ∙ n.0) in
      (z.0, ltb-true words (a + 1) z.1),
  λ e w. P.result ∙ sym (reply-refused 8 _ (new_list Q m C t a words page ∙ short Q m C t a words page e w) (λ z. omega arith)),
)

module _ {Q : Problem} {m : ℕ} {C t : List ℕ} {a words : ℕ} {page : List ℕ} {r₀ : Reply (ℕ × ℕ)} {page₀ : List ℕ} (P₀ : OldCheapestPost Q m C t a words page r₀ page₀)
    {r : Reply (ℕ × ℕ)} {page' : List ℕ} (P : CheapestPost Q m C t a words page r page') where
  abbrev s : List ℕ
  s = cheapest C (family_at t a)

  -- THEOREM: reply and page are what they were, but where 8 was said to words that are enough now
  pub only_limit_moved : ((r ≡ r₀) × (page' ≡ page₀)) ⊎ Moved Q m C t a words page
  only_limit_moved = ⊎_elim
      (λ (e : cheapest_refusal Q m C t a words page ≡ old_cheapest_refusal Q m C t a words page). inl (
        P.result ∙ ap (λ (n : ℕ). reply n (length s, cost C s)) e ∙ sym P₀.result,
        P.pages ∙ ap (λ (n : ℕ). written n s page) e ∙ sym P₀.pages,
      ))
      (λ (z : Moved Q m C t a words page). inr z)
      (same_or_moved Q m C t a words page)

  same : {n : ℕ} → old_cheapest_refusal Q m C t a words page ≡ n → (n ≡ 8 → ⊥) → (r ≡ r₀) × (page' ≡ page₀)
  same e f = ⊎_elim
      (λ (k : (r ≡ r₀) × (page' ≡ page₀)). k)
      (λ (z : Moved Q m C t a words page). absurd (f (sym e ∙ z.was)))
      only_limit_moved

  -- THEOREM: what was answered is answered with the same number of packages, the same cost and the same page, on which the timetable stands
  pub answered_as_before : {x : ℕ × ℕ} → r₀ ≡ gives x → (r ≡ gives x) × (page' ≡ page₀)
  answered_as_before {x} e =
      let z = was_given x (old_cheapest_refusal Q m C t a words page) (length s, cost C s) (sym e ∙ P₀.result) in
      let k = same z.0 (λ y. omega arith) in
      (k.0 ∙ e, k.1)

  -- THEOREM: every refusal but 8 is the same
  pub refused_as_before : {n : ℕ} → r₀ ≡ refused n → (n ≡ 8 → ⊥) → (r ≡ refused n) × (page' ≡ page₀)
  refused_as_before {n} e f =
      let z = was_refused n (old_cheapest_refusal Q m C t a words page) (length s, cost C s) (sym e ∙ P₀.result) in
      let k = same z.0 f in
      (k.0 ∙ e, k.1)
