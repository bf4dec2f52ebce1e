-- THEOREMS, from the contracts of pick and place: place undoes pick, pick undoes place, and picks of two places give two timetables.
-- Assumes nothing.
use mathlib.Core.Path.{◌≡◌, refl, sym, ap, ap₂, ◌∙◌, subst, subst⁻¹}
use mathlib.Core.Logic.{◌⊎◌, inl, inr}
use mathlib.Core.Bool.{Bool, true, false, not}
use mathlib.Core.List.{List, [], ◌∷◌, ◌++◌}
use Prim.Native.Nat.{ℕ, zero, suc, ◌+◌, ◌≤◌, ◌<◌}
use native.Mathlib.Nat.{not-suc-le-zero, le_of_suc-le-suc}
use native.Mathlib.Omega.{arith}
use lib.ListN.{length, take, drop}
use borrow.Author.Tests.{leb-false, lt-leb, le-ltb, not-true, not-false}
use Rattle.base.proofs.Bools.{never, is_false, cases}
use Rattle.zdd.specs.Table.{Family, count, eq_set, elem, soundb, Sound}
use Rattle.zdd.proofs.Member.{eq_set-same, eq_set_eq}
use Rattle.zdd.proofs.Tested.{sound_of}
use Rattle.zdd.proofs.TableLaws.{sound_listed}
use Rattle.zdd.proofs.Listing.{Listed, Once, listed-once}
use Rattle.zdd.proofs.Ordered.{nth-elem}
use Rattle.exact_cover.specs.Problem.{Problem}
use Rattle.exact_cover.specs.Cover.{keys_of}
use Rattle.exact_cover.proofs.Order.{length-keys, keys-apart}
use Rattle.statement.specs.Replies.{gives, reply, Reply}
use Rattle.query.specs.Reading.{Readable}
use Rattle.query.proofs.Seeks.{position_here, position_later}
use Rattle.query.proofs.Differences.{set_in}
use Rattle.query.specs.Questions.{family_at, nth, position}
use Rattle.statement.specs.Refusals.{first_of, table_tests, Fit, unsound, unknown_answer, not_timetable, short_work, uncountable, past_end, absent}
use Rattle.statement.specs.Refusals.{short_page, pick_refusal, place_refusal}
use Rattle.statement.specs.Postconditions.{PickPost, PlacePost, written}
use Rattle.statement.proofs.FirstOf.{pass, none, passed}
use Rattle.statement.proofs.Admission.{fit_of, packages_fit, table-passes}
use Rattle.statement.proofs.TestLaws.{was_given, page_holds, listed_test}

-- ---- places in a family without repeats

position-nth : (F : Family) → Once F → (k : ℕ) → k < length F → position (nth F k) F ≡ k
position-nth [] o k h = absurd (not-suc-le-zero h)
position-nth (t ∷ F) o zero h = position_here t t F (eq_set-same t)
position-nth (t ∷ F) o (suc k) h =
    let e : elem (nth F k) F ≡ true = nth-elem F k (le_of_suc-le-suc h) in
    let d : eq_set (nth F k) t ≡ false =
    is_false (eq_set (nth F k) t) (λ q. never (subst (λ (u : List ℕ). elem u F ≡ true) (eq_set_eq (nth F k) t q) e) o.0) in
    position_later (nth F k) t F d ∙ ap suc (position-nth F o.1 k (le_of_suc-le-suc h))

pub nth-position : (s : List ℕ) (F : Family) → elem s F ≡ true → (position s F < length F) × (nth F (position s F) ≡ s)
unfolding elem
nth-position s [] e = absurd (never e refl)
nth-position s (t ∷ F) e = go (cases (eq_set s t)) (nth-position s F)
  where
    go : (eq_set s t ≡ true) ⊎ (eq_set s t ≡ false) → (elem s F ≡ true → (position s F < length F) × (nth F (position s F) ≡ s))
        → (position s (t ∷ F) < length (t ∷ F)) × (nth (t ∷ F) (position s (t ∷ F)) ≡ s)
    go (inl q) ih = let z = position_here s t F q in (omega arith, ap (nth (t ∷ F)) z ∙ sym (eq_set_eq s t q))
    go (inr q) ih =
        let r = ih (rw q at e) in
        let z = position_later s t F q in
        (omega (arith, r.0), ap (nth (t ∷ F)) z ∙ r.1)

-- ---- what a call that was not refused knows

-- of the answer that it reads
pub record Open (Q : Problem) (m : ℕ) (t : List ℕ) (a : ℕ) : Type 0 where
  pub fit : Fit Q m
  pub sound : unsound Q t ≡ false
  pub known : unknown_answer t a ≡ false

module _ {Q : Problem} {m : ℕ} {t : List ℕ} {a : ℕ} (R : Open Q m t a) where
  pub few : length Q.packages ≤ 512
  few = packages_fit R.fit

  pub sound_table : Sound (keys_of Q) t
  unfolding unsound
  sound_table = sound_of (keys_of Q) t (not-false (soundb (keys_of Q) t) R.sound)

  pub in_table : a < count t + 2
  unfolding unknown_answer
  in_table = leb-false (count t + 2) a R.known

  listed : Listed (keys_of Q) (family_at t a)
  listed = sound_listed (keys-apart Q few) sound_table a in_table

  once : Once (family_at t a)
  once = listed-once (keys_of Q) (keys-apart Q few) (family_at t a) listed

  -- the table as the questions read it
  pub readable : Readable t
  readable = record { keys = keys_of Q; sound = sound_table; few = omega (arith, length-keys Q, few) }

  -- a timetable of the answer is one that place takes
  pub timetable : (s : List ℕ) → elem s (family_at t a) ≡ true → not_timetable Q s ≡ false
  unfolding readable
  timetable s e = not-true (not_timetable Q s) (sym (listed_test Q s) ∙ set_in readable a in_table s e)

-- no refusal: the tests up to 5 passed, and so did the others
pub open_of : {Q : Problem} {m : ℕ} {t : List ℕ} {a : ℕ} (ts : List (Bool × ℕ)) → first_of (table_tests Q m t ((unknown_answer t a, 5) ∷ ts)) ≡ 0
    → Open Q m t a × (first_of ts ≡ 0)
open_of ts e =
    let a2 = fit_of _ e in
    let a4 = passed _ 3 _ a2.1 in
    let a5 = passed _ 4 ts a4.1 in
    (record { fit = a2.0; sound = a4.0; known = a5.0 }, a5.1)

-- and of one whose timetables it counts
pub record Answerable (Q : Problem) (m : ℕ) (t : List ℕ) (a : ℕ) : Type 0 where
  pub fit : Fit Q m
  pub sound : unsound Q t ≡ false
  pub known : unknown_answer t a ≡ false
  pub counted : uncountable (family_at t a) ≡ false

counted_too : {Q : Problem} {m : ℕ} {t : List ℕ} {a : ℕ} → Open Q m t a → uncountable (family_at t a) ≡ false → Answerable Q m t a
counted_too R c = record { fit = R.fit; sound = R.sound; known = R.known; counted = c }

pub opened : {Q : Problem} {m : ℕ} {t : List ℕ} {a : ℕ} → Answerable Q m t a → Open Q m t a
opened R = record { fit = R.fit; sound = R.sound; known = R.known }

module _ {Q : Problem} {m : ℕ} {t : List ℕ} {a : ℕ} (R : Answerable Q m t a) where
  pub place-ready : (s : List ℕ) (words : ℕ) → a + 1 ≤ words → elem s (family_at t a) ≡ true → place_refusal Q m t a s words ≡ 0
  unfolding place_refusal short_work absent
  place-ready s words w e =
      table-passes t _ R.fit R.sound ∙ pass 5 _ R.known ∙ pass 6 _ (timetable (opened R) s e)
      ∙ pass 8 _ (le-ltb words (a + 1) w) ∙ pass 11 _ R.counted ∙ pass 14 _ (ap not e) ∙ none

  pub pick-ready : (k words : ℕ) (page : List ℕ) → a + 1 ≤ words → k < length (family_at t a) → length (nth (family_at t a) k) ≤ length page
      → pick_refusal Q m t a k words page ≡ 0
  unfolding pick_refusal short_work past_end short_page
  pick-ready k words page w h l =
      table-passes t _ R.fit R.sound ∙ pass 5 _ R.known ∙ pass 8 _ (le-ltb words (a + 1) w)
      ∙ pass 11 _ R.counted ∙ pass 12 _ (lt-leb (length (family_at t a)) k h)
      ∙ pass 15 _ (le-ltb (length page) (length (nth (family_at t a) k)) l) ∙ none

picked-ready : (Q : Problem) (m : ℕ) (t : List ℕ) (a k words : ℕ) (page : List ℕ) → pick_refusal Q m t a k words page ≡ 0
    → Answerable Q m t a × (k < length (family_at t a))
unfolding pick_refusal past_end
picked-ready Q m t a k words page e =
    let a5 = open_of _ e in
    let a8 = passed _ 7 _ a5.1 in
    let a11 = passed _ 10 _ a8.1 in
    let a12 = passed _ 11 _ a11.1 in
    (counted_too a5.0 a11.0, leb-false (length (family_at t a)) k a12.0)

pub placed-ready : (Q : Problem) (m : ℕ) (t : List ℕ) (a : ℕ) (s : List ℕ) (words : ℕ) → place_refusal Q m t a s words ≡ 0
    → Answerable Q m t a × (elem s (family_at t a) ≡ true)
unfolding place_refusal absent
placed-ready Q m t a s words e =
    let a5 = open_of _ e in
    let a6 = passed _ 5 _ a5.1 in
    let a8 = passed _ 7 _ a6.1 in
    let a11 = passed _ 10 _ a8.1 in
    let a14 = passed _ 13 _ a11.1 in
    (counted_too a5.0 a11.0, not-false (elem s (family_at t a)) a14.0)

-- what pick wrote, where it gave c
pub picked : {Q : Problem} {m : ℕ} {t : List ℕ} {a k words : ℕ} {page : List ℕ} {r : Reply ℕ} {page' : List ℕ} {c : ℕ}
    → PickPost Q m t a k words page r page' → r ≡ gives c
    → Answerable Q m t a × (k < length (family_at t a)) × (take c page' ≡ nth (family_at t a) k)
picked {Q} {m} {t} {a} {k} {words} {page} {r} {page'} {c} P e =
    let s : List ℕ = nth (family_at t a) k in
    let z = was_given c (pick_refusal Q m t a k words page) (length s) (sym e ∙ P.result) in
    let R = picked-ready Q m t a k words page z.0 in
    (R.0, R.1, (page_holds s page z.0 z.1 P.pages).0)

-- THEOREM: the place of what a pick of k wrote is k
pub place-of-pick : {Q : Problem} {m : ℕ} {t : List ℕ} {a k words : ℕ} {page : List ℕ} {r : Reply ℕ} {page' : List ℕ} {c : ℕ}
    → PickPost Q m t a k words page r page' → r ≡ gives c
    → (words' : ℕ) → a + 1 ≤ words' → (r' : Reply ℕ) → PlacePost Q m t a (take c page') words' r'
    → r' ≡ gives k
place-of-pick {Q} {m} {t} {a} {k} {words} {page} {r} {page'} {c} P e words' w r' L =
    let R = picked P e in
    let F : Family = family_at t a in
    let i : elem (take c page') F ≡ true = subst⁻¹ (λ (s : List ℕ). elem s F ≡ true) R.2 (nth-elem F k R.1) in
    L.result
    ∙ ap₂ reply (place-ready R.0 (take c page') words' w i) (ap (λ (s : List ℕ). position s F) R.2 ∙ position-nth F (once (opened R.0)) k R.1)

-- THEOREM: the pick of the place of s writes s
pub pick-of-place : {Q : Problem} {m : ℕ} {t : List ℕ} {a : ℕ} {s : List ℕ} {words : ℕ} {r : Reply ℕ} {k : ℕ}
    → PlacePost Q m t a s words r → r ≡ gives k
    → (words' : ℕ) → a + 1 ≤ words' → (page : List ℕ) → length s ≤ length page
    → (r' : Reply ℕ) (page' : List ℕ) → PickPost Q m t a k words' page r' page'
    → (r' ≡ gives (length s)) × (page' ≡ s ++ drop (length s) page)
pick-of-place {Q} {m} {t} {a} {s} {words} {r} {k} L e words' w page l r' page' P =
    let F : Family = family_at t a in
    let z = was_given k (place_refusal Q m t a s words) (position s F) (sym e ∙ L.result) in
    let R = placed-ready Q m t a s words z.0 in
    let i = nth-position s F R.1 in
    let j : nth F k ≡ s = ap (nth F) z.1 ∙ i.1 in
    let n0 : pick_refusal Q m t a k words' page ≡ 0 =
    pick-ready R.0 k words' page w (omega (arith, z.1, i.0)) (subst⁻¹ (λ (u : List ℕ). length u ≤ length page) j l) in
    (P.result ∙ ap₂ (λ (n : ℕ) (u : List ℕ). reply n (length u)) n0 j, P.pages ∙ ap₂ (λ (n : ℕ) (u : List ℕ). written n u page) n0 j)

-- THEOREM: two picks from one answer that write the same timetable are picks of the same k
pub pick-once : {Q : Problem} {m : ℕ} {t : List ℕ} {a k words : ℕ} {page : List ℕ} {r : Reply ℕ} {page' : List ℕ} {c : ℕ}
    {m₂ k₂ words₂ : ℕ} {page₂ : List ℕ} {r₂ : Reply ℕ} {page₂' : List ℕ} {c₂ : ℕ}
    → PickPost Q m t a k words page r page' → r ≡ gives c
    → PickPost Q m₂ t a k₂ words₂ page₂ r₂ page₂' → r₂ ≡ gives c₂
    → take c page' ≡ take c₂ page₂' → k ≡ k₂
pick-once {t = t} {a = a} {k = k} {k₂ = k₂} P e P₂ e₂ same =
    let R = picked P e in
    let R₂ = picked P₂ e₂ in
    let F : Family = family_at t a in
    sym (position-nth F (once (opened R.0)) k R.1)
    ∙ ap (λ (s : List ℕ). position s F) (sym R.2 ∙ same ∙ R₂.2)
    ∙ position-nth F (once (opened R.0)) k₂ R₂.1
