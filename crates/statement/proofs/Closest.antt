-- THEOREMS about closest [document 02, No. 9]. Of the difference: from itself a timetable differs in 0 packages, the difference is the same either way
-- round, and timetables in precedence that differ in 0 packages are one. From the contract: what an answered call writes is a member, no member differs in
-- fewer, and those that differ in as many are listed later; the difference is 0 exactly for a member, which is then what is written, and never more than
-- that of a timetable picked from the same answer; place and closest refuse a list alike. Assumes nothing.
use mathlib.Core.Path.{◌≡◌, refl, sym, ap, ap₂, ◌∙◌, subst⁻¹}
use mathlib.Core.Logic.{◌⊎◌, inl, inr}
use mathlib.Core.Bool.{Bool, true, false, cond, not}
use mathlib.Core.List.{List, [], ◌∷◌, ◌++◌}
use Prim.Native.Nat.{ℕ, ◌+◌, ◌≤◌, ◌<◌}
use native.Mathlib.Omega.{arith}
use lib.Dec.{eqb}
use lib.ListN.{length, take, drop}
use borrow.Author.Tests.{eqb-true, eqb-false}
use Rattle.base.proofs.Bools.{never, or_cases, or_right, same_test}
use Rattle.zdd.specs.Table.{Family, elem, has, filter}
use Rattle.zdd.proofs.Listing.{has_first}
use Rattle.zdd.proofs.Ordered.{nth-elem}
use Rattle.exact_cover.specs.Problem.{Problem}
use Rattle.exact_cover.specs.Cover.{keys_of}
use Rattle.query.specs.Questions.{family_at, position, lacking, difference, closest}
use Rattle.query.proofs.Parts.{at_zero, some}
use Rattle.query.proofs.Precede.{precede_ext}
use Rattle.statement.specs.Replies.{refused, gives, reply, Reply}
use Rattle.statement.specs.Refusals.{first_of, list_tests, not_timetable, uncountable, absent, nothing, short_page, place_refusal, closest_refusal}
use Rattle.statement.specs.Postconditions.{PickPost, PlacePost, ClosestPost, written}
use Rattle.statement.proofs.FirstOf.{pass, none, passed, said_in_front, neither, avoided}
use Rattle.statement.proofs.Admission.{table-passes}
use Rattle.statement.proofs.TestLaws.{reply-refused, listed_test, was_given, was_refused, page_holds, page_left, enough, something, page_fits}
use Rattle.statement.proofs.Undo.{Open, open_of, in_table, readable, timetable, opened, nth-position, placed-ready, picked}
use Rattle.statement.proofs.Least.{Least, closest-least}

-- ---- the difference

-- no package of s is missing from t where each of them is in it
none-lacking : (t s : List ℕ) → ((p : ℕ) → has p s ≡ true → has p t ≡ true) → lacking t s ≡ 0
unfolding lacking filter has
none-lacking t [] h = refl
none-lacking t (q ∷ s) h = rw (h q (has_first q s)) (none-lacking t s (λ p e. h p (or_right (eqb p q) (has p s) e)))

-- and only there
lacking-none : (t s : List ℕ) → lacking t s ≡ 0 → (p : ℕ) → has p s ≡ true → has p t ≡ true
unfolding lacking filter has
lacking-none t [] e p h = absurd (never h refl)
lacking-none t (q ∷ s) e p h = go (has q t) refl e (or_cases (eqb p q) (has p s) h) (lacking-none t s)
  where
    rest : List ℕ
    rest = filter (λ x. not (has x t)) s

    go : (b : Bool) → has q t ≡ b → length (cond (not b) (q ∷ rest) rest) ≡ 0 → (eqb p q ≡ true) ⊎ (has p s ≡ true)
        → (length rest ≡ 0 → (p : ℕ) → has p s ≡ true → has p t ≡ true) → has p t ≡ true
    go false b e c ih = absurd (omega arith)
    go true b e (inl c) ih = subst⁻¹ (λ (x : ℕ). has x t ≡ true) (eqb-true p q c) b
    go true b e (inr c) ih = ih e p c

-- THEOREM
pub difference_self : (s : List ℕ) → difference s s ≡ 0
unfolding difference
difference_self s = let z = none-lacking s s (λ p e. e) in omega arith

-- THEOREM
pub difference_comm : (s t : List ℕ) → difference s t ≡ difference t s
unfolding difference
difference_comm s t = omega arith

-- THEOREM: timetables in precedence that differ in no package are one
pub difference-zero : (Q : Problem) (s t : List ℕ) → not_timetable Q s ≡ false → not_timetable Q t ≡ false → difference s t ≡ 0 → s ≡ t
unfolding difference
difference-zero Q s t a b e =
    precede_ext (keys_of Q) s t (listed_test Q s ∙ ap not a) (listed_test Q t ∙ ap not b)
    (λ p. same_test (has p s) (has p t) (lacking-none t s (omega arith) p) (lacking-none s t (omega arith) p))

-- ---- what closest writes

-- u is of F and differs from s in d packages, none of F in fewer, and each other that differs in as many is listed later
pub record Nearest (F : Family) (s u : List ℕ) (d : ℕ) : Type 0 where
  pub member : elem u F ≡ true
  pub differs : difference s u ≡ d
  pub fewest : (w : List ℕ) → elem w F ≡ true → d ≤ difference s w
  pub later : (w : List ℕ) → elem w F ≡ true → difference s w ≡ d → (w ≡ u) ⊎ (position u F < position w F)

nearest : {F : Family} {s u : List ℕ} {d : ℕ} → Least (difference s) F u → d ≡ difference s u → Nearest F s u d
nearest L e = record {
  member = L.member;
  differs = sym e;
  fewest = λ w i. rw e (L.least w i);
  later = λ w i z. L.first w i (z ∙ e);
}

-- what a call that was not refused knows
compared-ready : (Q : Problem) (m : ℕ) (t : List ℕ) (a : ℕ) (s : List ℕ) (words : ℕ) (page : List ℕ) → closest_refusal Q m t a s words page ≡ 0
    → Open Q m t a × (not_timetable Q s ≡ false) × (0 < a)
unfolding closest_refusal nothing
compared-ready Q m t a s words page e =
    let a5 = open_of _ e in
    let a6 = passed _ 5 _ a5.1 in
    let a8 = passed _ 7 _ a6.1 in
    let a13 = passed _ 12 _ a8.1 in
    let f = eqb-false a 0 a13.0 in
    (a5.0, a6.0, omega (arith, f))

-- only the answer 0 is empty
some_member : {Q : Problem} {m : ℕ} {t : List ℕ} {a : ℕ} → Open Q m t a → 0 < a → 0 < length (family_at t a)
some_member R l = some (readable R) _ l (in_table R)

module _ {Q : Problem} {m : ℕ} {t : List ℕ} {a : ℕ} {s : List ℕ} {words : ℕ} {page : List ℕ} {r : Reply (ℕ × ℕ)} {page' : List ℕ}
    (P : ClosestPost Q m t a s words page r page') where
  abbrev F : Family
  F = family_at t a

  abbrev refusal : ℕ
  refusal = closest_refusal Q m t a s words page

  given : {n d : ℕ} → r ≡ gives (n, d) → (refusal ≡ 0) × (n ≡ length (closest s F)) × (d ≡ difference s (closest s F))
  given {n} {d} e =
      let z = was_given (n, d) refusal (length (closest s F), difference s (closest s F)) (sym e ∙ P.result) in
      (z.0, ap (λ (x : ℕ × ℕ). x.0) z.1, ap (λ (x : ℕ × ℕ). x.1) z.1)

  -- THEOREM: where it gives n and d, the first n places of the page have the nearest member, d its difference, and the rest of the page is as it was
  pub closest_answered : {n d : ℕ} → r ≡ gives (n, d)
      → Nearest F s (take n page') d × (length (take n page') ≡ n) × (drop n page' ≡ drop n page)
  closest_answered {n} {d} e =
      let z = given e in
      let R = compared-ready Q m t a s words page z.0 in
      let w = page_holds (closest s F) page z.0 z.1 P.pages in (
        subst⁻¹ (λ (u : List ℕ). Nearest F s u d) w.0 (nearest (closest-least s F (some_member R.0 R.2)) z.2),
        ap length w.0 ∙ sym z.1,
        w.1,
      )

  -- THEOREM: where the difference is 0 the given timetable is a member, and is what was written
  pub closest-none : {n : ℕ} → r ≡ gives (n, 0) → (elem s F ≡ true) × (take n page' ≡ s)
  closest-none {n} e =
      let N = (closest_answered e).0 in
      let R = compared-ready Q m t a s words page (given e).0 in
      let same : s ≡ take n page' =
      difference-zero Q s (take n page') R.1 (timetable R.0 (take n page') N.member) N.differs in
      (subst⁻¹ (λ (u : List ℕ). elem u F ≡ true) same N.member, sym same)

  -- THEOREM: the difference is never more than that of a timetable that pick writes
  pub never_more_than_picked : {n d : ℕ} → r ≡ gives (n, d)
      → {k words₂ : ℕ} {page₂ : List ℕ} {r₂ : Reply ℕ} {page₂' : List ℕ} {c : ℕ} → PickPost Q m t a k words₂ page₂ r₂ page₂' → r₂ ≡ gives c
      → d ≤ difference s (take c page₂')
  never_more_than_picked e {k} {page₂' = page₂'} {c = c} P₂ e₂ =
      let R = picked P₂ e₂ in
      (closest_answered e).0.fewest (take c page₂') (subst⁻¹ (λ (u : List ℕ). elem u F ≡ true) R.2 (nth-elem F k R.1))

-- ---- a member is answered with itself

module _ {Q : Problem} {m : ℕ} {t : List ℕ} {a : ℕ} (R : Open Q m t a) (s : List ℕ) (i : elem s (family_at t a) ≡ true) where
  has_some : 0 < length (family_at t a)
  has_some = omega (arith, (nth-position s (family_at t a) i).0)

  closest_itself : closest s (family_at t a) ≡ s
  closest_itself =
      let u : List ℕ = closest s (family_at t a) in
      let L = closest-least s (family_at t a) has_some in
      let z = difference_self s in
      sym (difference-zero Q s u (timetable R s i) (timetable R u L.member) (omega (arith, L.least s i)))

  closest-ready : (words : ℕ) (page : List ℕ) → a + 1 ≤ words → length s ≤ length page → closest_refusal Q m t a s words page ≡ 0
  unfolding closest_refusal
  closest-ready words page w l =
      table-passes t _ R.fit R.sound ∙ pass 5 _ R.known ∙ pass 6 _ (timetable R s i) ∙ pass 8 _ (enough (a + 1) words w)
      ∙ pass 13 _ (something a (λ z. omega (arith, has_some, ap length (ap (family_at t) z ∙ at_zero t))))
      ∙ pass 15 _ (page_fits page (closest s (family_at t a)) (subst⁻¹ (λ (u : List ℕ). length u ≤ length page) closest_itself l)) ∙ none

-- THEOREM: a timetable that place finds is its own closest, with the difference 0
pub closest_of_member : {Q : Problem} {m : ℕ} {t : List ℕ} {a : ℕ} {s : List ℕ} {words : ℕ} {r : Reply ℕ} {k : ℕ}
    → PlacePost Q m t a s words r → r ≡ gives k
    → (words' : ℕ) → a + 1 ≤ words' → (page : List ℕ) → length s ≤ length page
    → (r' : Reply (ℕ × ℕ)) (page' : List ℕ) → ClosestPost Q m t a s words' page r' page'
    → (r' ≡ gives (length s, 0)) × (page' ≡ s ++ drop (length s) page)
closest_of_member {Q} {m} {t} {a} {s} {words} {r} {k} L e words' w page l r' page' P =
    let z = was_given k (place_refusal Q m t a s words) (position s (family_at t a)) (sym e ∙ L.result) in
    let R = placed-ready Q m t a s words z.0 in
    let O = opened R.0 in
    let n0 = closest-ready O s R.1 words' page w l in
    let c = closest_itself O s R.1 in (
      P.result ∙ ap₂ (λ (n : ℕ) (u : List ℕ). reply n (length u, difference s u)) n0 c ∙ ap (λ (d : ℕ). gives (length s, d)) (difference_self s),
      P.pages ∙ ap₂ (λ (n : ℕ) (u : List ℕ). written n u page) n0 c,
    )

-- ---- place and closest test a list alike

module _ (Q : Problem) (m : ℕ) (t : List ℕ) (a : ℕ) (s : List ℕ) (words : ℕ) where
  place-list : place_refusal Q m t a s words ≡ first_of (list_tests Q m t a s words ++ ((uncountable (family_at t a), 11) ∷ (absent (family_at t a) s, 14) ∷ []))
  unfolding place_refusal
  place-list = refl

  closest-list : (page : List ℕ)
      → closest_refusal Q m t a s words page ≡ first_of (list_tests Q m t a s words ++ ((nothing a, 13) ∷ (short_page page (closest s (family_at t a)), 15) ∷ []))
  unfolding closest_refusal
  closest-list page = refl

module _ {Q : Problem} {m : ℕ} {t : List ℕ} {a : ℕ} {s : List ℕ} {words : ℕ} {r : Reply ℕ} (L : PlacePost Q m t a s words r)
    {page : List ℕ} {r' : Reply (ℕ × ℕ)} {page' : List ℕ} (P : ClosestPost Q m t a s words page r' page') where
  -- THEOREM: every refusal of place but 11 and 14 is closest's
  pub closest_as_place : {n : ℕ} → r ≡ refused n → (n ≡ 11 → ⊥) → (n ≡ 14 → ⊥) → (r' ≡ refused n) × (page' ≡ page)
  closest_as_place {n} e f g =
      let z = was_refused n (place_refusal Q m t a s words) _ (sym e ∙ L.result) in
      let k = closest-list Q m t a s words page
      ∙ said_in_front (list_tests Q m t a s words) _ _ tt (sym (place-list Q m t a s words) ∙ z.0) (neither _ _ z.1 f g) in
      (P.result ∙ sym (reply-refused n _ k z.1), P.pages ∙ sym (page_left n _ page k z.1))

  -- THEOREM: and every refusal of closest but 13 and 15 is place's
  pub place_as_closest : {n : ℕ} → r' ≡ refused n → (n ≡ 13 → ⊥) → (n ≡ 15 → ⊥) → r ≡ refused n
  place_as_closest {n} e f g =
      let z = was_refused n (closest_refusal Q m t a s words page) _ (sym e ∙ P.result) in
      let k = place-list Q m t a s words
      ∙ said_in_front (list_tests Q m t a s words) _ _ tt (sym (closest-list Q m t a s words page) ∙ z.0) (neither _ _ z.1 f g) in
      L.result ∙ sym (reply-refused n _ k z.1)

-- THEOREM: 11 is never said: nothing is counted
pub closest_uncounted : {Q : Problem} {m : ℕ} {t : List ℕ} {a : ℕ} {s : List ℕ} {words : ℕ} {page : List ℕ} {r : Reply (ℕ × ℕ)} {page' : List ℕ}
    → ClosestPost Q m t a s words page r page' → r ≡ refused 11 → ⊥
unfolding closest_refusal
closest_uncounted {Q} {m} {t} {a} {s} {words} {page} P e =
    avoided 11 _ tt (was_refused 11 (closest_refusal Q m t a s words page) _ (sym e ∙ P.result)).0
