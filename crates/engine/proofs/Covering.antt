-- cover: what the search's answer makes of the call's refusal and report. Assumes nothing.
use mathlib.Core.Path.{◌≡◌, refl, sym, ap, ◌∙◌, subst⁻¹}
use mathlib.Core.Bool.{Bool, true, false, not}
use mathlib.Core.List.{List, [], ◌∷◌}
use Prim.Native.Nat.{ℕ, ◌≤◌, ◌<◌}
use native.Mathlib.Omega.{arith}
use borrow.Author.Tests.{ltb-false}
use Rattle.itemset.specs.Items.{belowb}
use Rattle.itemset.specs.Words.{value}
use Rattle.itemset.specs.declared.Items.{Items}
use Rattle.zdd.specs.Table.{Family}
use Rattle.exact_cover.specs.Problem.{Problem}
use Rattle.exact_cover.specs.Cover.{keys_of, covering}
use Rattle.exact_cover.specs.Steps.{steps}
use Rattle.std.specs.Prelude.{Err}
use Rattle.compile.specs.declared.Failure.{Failure}
use Rattle.compile.specs.declared.Failure.TheVariants.{Spent, Full}
use Rattle.engine.specs.Reports.{failure_number}
use Rattle.compile.specs.State.{CoverEnded, Covered}
use Rattle.statement.specs.Replies.{Report, gives}
use Rattle.statement.specs.Refusals.{Fit, first_of, unknown_item, places, spent, full}
use Rattle.statement.specs.declared.Call.TheVariants.{Cover}
use Rattle.statement.specs.Calls.{cover_tests, call_refusal}
use Rattle.statement.specs.Postconditions.{Declined, Makes, CoverPost, AnswerPost}
use Rattle.statement.proofs.FirstOf.{pass, hit, none}
use Rattle.statement.proofs.Kept.{refused-makes}
use Rattle.statement.proofs.Admission.{table-passes}
use Rattle.guard.specs.Admitted.{Admitted, Usable}
use Rattle.guard.proofs.GuardLaws.{admit-refused}
use Rattle.engine.proofs.Combining.{answers}
use Rattle.statement.proofs.TestLaws.{enough, too_few}

-- the call is refused with n, and the table is as before
pub refuses : {K : List ℕ} {k : ℕ} {F : Family} {s : ℕ} {t : List ℕ} {r : Report} {t' : List ℕ} (n : ℕ) → k ≡ n → (n ≡ 0 → ⊥) → t' ≡ t
    → ((u : List ℕ) → Declined n u r u) → Makes K k F s t r t'
refuses {t = t} {r = r} n e f z d = refused-makes n e f (subst⁻¹ (λ (u : List ℕ). Declined n t r u) z (d t))

-- ---- the contract

module _ {Q : Problem} {m : ℕ} {t keys index : List ℕ} {r : Report} (d limit words : ℕ) where
  -- the packages or the table are refused
  pub cover-refused : {k : ℕ} → Admitted Q m t keys index k → (k ≡ 0 → ⊥) → Declined k t r t → CoverPost Q m t d limit words r t
  cover-refused {k} o f e = refused-makes k (admit-refused _ o f) f e

  -- otherwise cover's own tests and its work make the contract
  pub cover-makes : {t' : List ℕ} → Fit Q m → Usable Q t keys index
      → Makes (keys_of Q) (first_of (cover_tests Q m t d limit words)) (covering Q d) (steps Q (places words) d) t r t' → CoverPost Q m t d limit words r t'
  cover-makes {t'} f g w =
      subst⁻¹ (λ (n : ℕ). Makes (keys_of Q) n (covering Q d) (steps Q (places words) d) t r t') (table-passes t _ f g.unspoilt) w

-- it is that of the call at the number of its set
pub cover-call : (Q : Problem) (m : ℕ) (t : List ℕ) {t' : List ℕ} {r : Report} (d : Items) (limit words : ℕ) → CoverPost Q m t (value d) limit words r t'
    → AnswerPost Q m t (Cover d limit) words r t'
unfolding call_refusal
cover-call Q m t d limit words w = w

-- ---- its tests

-- refusals 7 and 8
module _ (Q : Problem) (m : ℕ) (t : List ℕ) (d limit words : ℕ) where
  pub item-unknown : belowb d m ≡ false → first_of (cover_tests Q m t d limit words) ≡ 7
  unfolding unknown_item
  item-unknown e = hit 7 _ (ap not e)

  pub words_short : belowb d m ≡ true → words < 4 → first_of (cover_tests Q m t d limit words) ≡ 8
  unfolding unknown_item
  words_short e h = pass 7 _ (ap not e) ∙ hit 8 _ (too_few 4 words h)

-- the search was done: 9, 10 or its answer
module _ {Q : Problem} (m : ℕ) {t : List ℕ} {d limit : ℕ} (words : ℕ) {t' index' : List ℕ} {a n k : ℕ} {filled over : Bool} (e : belowb d m ≡ true)
    (h : 4 ≤ words) (c : Covered Q (places words) d limit t t' index' a n k filled over) where
  so_far : first_of (cover_tests Q m t d limit words) ≡ first_of ((over, 9) ∷ (full t (covering Q d), 10) ∷ [])
  unfolding unknown_item spent
  so_far = pass 7 _ (ap not e) ∙ pass 8 _ (enough 4 words h) ∙ rw c.spent

  pub limit_met : over ≡ true → first_of (cover_tests Q m t d limit words) ≡ 9
  limit_met o = so_far ∙ hit 9 _ o

  pub no_room_lem : over ≡ false → filled ≡ true → first_of (cover_tests Q m t d limit words) ≡ 10
  unfolding full
  no_room_lem o f = so_far ∙ pass 9 _ o ∙ hit 10 _ (sym (c.short o) ∙ f)

  unrefused : over ≡ false → filled ≡ false → first_of (cover_tests Q m t d limit words) ≡ 0
  unfolding full
  unrefused o f = so_far ∙ pass 9 _ o ∙ pass 10 _ (sym (c.short o) ∙ f) ∙ none

  -- steps within a limit of 32 bits fit 32 bits
  pub steps_fit : over ≡ false → filled ≡ false → n ≤ limit
  steps_fit o f =
      let l : steps Q (places words) d ≤ limit = ltb-false limit (steps Q (places words) d) (sym c.spent ∙ o) in
      omega (arith, (c.answer o f).counted)

  pub cover_answers : over ≡ false → filled ≡ false → (r : Report) → r.outcome ≡ gives a → r.steps ≡ n → r.made ≡ k
      → Makes (keys_of Q) (first_of (cover_tests Q m t d limit words)) (covering Q d) (steps Q (places words) d) t r t'
  cover_answers o f r out same made =
      let w = c.answer o f in
      answers (unrefused o f) w.got out (same ∙ w.counted) (made ∙ w.exactly)

-- the search made no answer
pub search_failed : (Q : Problem) (m : ℕ) (t : List ℕ) (d limit words : ℕ) (t' index' : List ℕ) → belowb d m ≡ true → 4 ≤ words → (x : Failure)
    → CoverEnded Q (places words) d limit t t' index' (Err x) → (n : ℕ) → n ≡ failure_number x → (r : Report) → ((u : List ℕ) → Declined n u r u)
    → Makes (keys_of Q) (first_of (cover_tests Q m t d limit words)) (covering Q d) (steps Q (places words) d) t r t'
search_failed Q m t d limit words t' index' e h Spent c n z r w = refuses n (limit_met m words e h c refl ∙ sym z) (λ y. omega (arith, z, y)) (c.back refl) w
search_failed Q m t d limit words t' index' e h Full c n z r w = refuses n (no_room_lem m words e h c refl refl ∙ sym z) (λ y. omega (arith, z, y)) (c.back_full refl) w
