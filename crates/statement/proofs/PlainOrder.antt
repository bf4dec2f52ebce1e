-- THEOREM: in the plain order, 0 .. M - 1, every refusal is what it was before there was an order [document 02, No. 4]: 34 is never said, and the tests behind
-- it go by the definitions of then (`exact_cover`, `proofs/PlainOrder`). Where 1, 2, 29 or 30 is said that decides, so the tests behind may take it that the
-- packages pass. Assumes nothing.
use mathlib.Core.Path.{◌≡◌, refl, ap, ap₂, ◌∙◌}
use mathlib.Core.Bool.{Bool, false, not, ◌||◌}
use mathlib.Core.List.{List, [], ◌∷◌}
use Prim.Native.Nat.{ℕ, ◌+◌, ◌^◌, ◌<◌}
use lib.Dec.{eqb, ltb}
use lib.ListN.{length}
use borrow.Author.Tests.{eq-eqb, not-false}
use Rattle.base.proofs.Bools.{and_both}
use Rattle.itemset.specs.Items.{belowb}
use Rattle.itemset.specs.Words.{value}
use Rattle.itemset.proofs.Laws.{below_lt}
use Rattle.zdd.specs.Table.{Family, soundb}
use Rattle.zdd.specs.Operations.{union, inter, differ, including, excluding, join}
use Rattle.exact_cover.specs.Problem.{Problem, each_once, up_to}
use Rattle.exact_cover.specs.Cover.{keys_of, covering}
use Rattle.exact_cover.specs.Steps.{steps}
use Rattle.exact_cover.proofs.Orders.{length-count, plain-once}
use Rattle.exact_cover.proofs.PlainOrder.{plain, keys_low, covering_low, steps_low, keys-low, covering-low, steps_low_lem}
use Rattle.query.specs.Questions.{family_at, nth, cheapest, closest, any_unknown, ascending}
use Rattle.statement.specs.declared.Call.{Call}
use Rattle.statement.specs.declared.Call.TheVariants.{Cover, Either, Both, Only, With, Without, Join}
use Rattle.statement.specs.Refusals.{first_of, oversize, stray, stray_optional, nothing_compulsory, disordered, package_tests, table_tests, Fit, unsound}
use Rattle.statement.specs.Refusals.{unpriced, unknown_answer, not_timetable, unknown_item, short_work, places, spent, full, uncountable, past_end, nothing, absent}
use Rattle.statement.specs.Refusals.{short_page, check_refusal, count_refusal, pick_refusal, measure_refusal, place_refusal, cheapest_refusal, closest_refusal}
use Rattle.statement.specs.Calls.{family_of, pair_tests, part_tests, join_tests, call_refusal, cover_refusal}
use Rattle.statement.proofs.FirstOf.{pass, exchanged}
use Rattle.statement.proofs.Admission.{rows}

-- ---- refusals by other definitions of keys, covers and steps

-- what the tests behind those of the packages go by: the packages' keys, the timetables that cover a set, the steps of its search in so many places
pub record Definitions : Type 0 where
  pub keys : List ℕ
  pub covered : ℕ → Family
  pub entered : ℕ → ℕ → ℕ

-- today's
abbrev pub definitions : Problem → Definitions
definitions Q = record { keys = keys_of Q; covered = covering Q; entered = steps Q }

-- they are others', for items below m
pub record Agree (m : ℕ) (A B : Definitions) : Type 0 where
  pub same_keys : A.keys ≡ B.keys
  pub same-covers : (D : ℕ) → A.covered D ≡ B.covered D
  pub same-steps : (P D : ℕ) → D < 2 ^ m → A.entered P D ≡ B.entered P D

-- the tests by definitions B
module _ (B : Definitions) (t : List ℕ) where
  abbrev pub unsound_by : Bool
  unsound_by = not (soundb B.keys t)

  -- the families that the calls make
  abbrev pub family_by : Call → Family
  family_by (Cover d limit) = B.covered (value d)
  family_by (Either a b) = union B.keys (family_at t a) (family_at t b)
  family_by (Both a b) = inter B.keys (family_at t a) (family_at t b)
  family_by (Only a b) = differ B.keys (family_at t a) (family_at t b)
  family_by (With a p) = including B.keys p (family_at t a)
  family_by (Without a p) = excluding B.keys p (family_at t a)
  family_by (Join a b) = join B.keys (family_at t a) (family_at t b)

  abbrev pub cover_tests_by : (m d limit words : ℕ) → List (Bool × ℕ)
  cover_tests_by m d limit words =
      (unknown_item m d, 7) ∷
      (short_work 4 words, 8) ∷
      (ltb limit (B.entered (places words) d), 9) ∷
      (full t (B.covered d), 10) ∷
      []

  abbrev pub call_tests_by : (Q : Problem) (m : ℕ) → Call → ℕ → List (Bool × ℕ)
  call_tests_by Q m (Cover d limit) words = cover_tests_by m (value d) limit words
  call_tests_by Q m (Either a b) words = pair_tests t a b (family_by (Either a b)) words
  call_tests_by Q m (Both a b) words = pair_tests t a b (family_by (Both a b)) words
  call_tests_by Q m (Only a b) words = pair_tests t a b (family_by (Only a b)) words
  call_tests_by Q m (With a p) words = part_tests Q.packages t a p (family_by (With a p)) words
  call_tests_by Q m (Without a p) words = part_tests Q.packages t a p (family_by (Without a p)) words
  call_tests_by Q m (Join a b) words = join_tests Q t a b (family_by (Join a b)) words

-- every refusal of the problem Q with m items by definitions B, with `front` for the tests of the packages: the tests behind 4 know the packages only by
-- their number, by B and, in 35, by their items
pub record RefusedBy (Q : Problem) (m : ℕ) (front : List (Bool × ℕ) → List (Bool × ℕ)) (B : Definitions) : Type 0 where
  pub check : (t : List ℕ) → check_refusal Q m t ≡ first_of (front ((unsound_by B t, 4) ∷ []))
  -- the calls that make an answer, and, where the packages pass, their families
  pub family : Fit Q m → (t : List ℕ) (c : Call) → family_of Q t c ≡ family_by B t c
  pub cover : (t : List ℕ) (d limit words : ℕ)
      → cover_refusal Q m t d limit words ≡ first_of (front ((unsound_by B t, 4) ∷ cover_tests_by B t m d limit words))
  pub call : (t : List ℕ) (c : Call) (words : ℕ) → call_refusal Q m t c words ≡ first_of (front ((unsound_by B t, 4) ∷ call_tests_by B t Q m c words))
  -- the questions
  pub count : (t : List ℕ) (a words : ℕ)
      → count_refusal Q m t a words
      ≡ first_of (front ((unsound_by B t, 4) ∷ (unknown_answer t a, 5) ∷ (short_work (a + 1) words, 8) ∷ (uncountable (family_at t a), 11) ∷ []))
  pub pick : (t : List ℕ) (a k words : ℕ) (page : List ℕ)
      → pick_refusal Q m t a k words page
      ≡ first_of (front (
      (unsound_by B t, 4) ∷ (unknown_answer t a, 5) ∷ (short_work (a + 1) words, 8) ∷ (uncountable (family_at t a), 11) ∷ (past_end (family_at t a) k, 12) ∷
      (short_page page (nth (family_at t a) k), 15) ∷ []))
  pub measure : (t : List ℕ) (a k words : ℕ)
      → measure_refusal Q m t a k words
      ≡ first_of (front (
      (unsound_by B t, 4) ∷ (unknown_answer t a, 5) ∷ (short_work (a + 1) words, 8) ∷ (uncountable (family_at t a), 11) ∷ (past_end (family_at t a) k, 12) ∷ []))
  pub place : (t : List ℕ) (a : ℕ) (s : List ℕ) (words : ℕ)
      → place_refusal Q m t a s words
      ≡ first_of (front (
      (unsound_by B t, 4) ∷ (unknown_answer t a, 5) ∷ (any_unknown Q.packages s || not (ascending B.keys s), 6) ∷ (short_work (a + 1) words, 8) ∷
      (uncountable (family_at t a), 11) ∷ (absent (family_at t a) s, 14) ∷ []))
  -- 3 stands in front of 4
  pub cheapest : (C t : List ℕ) (a words : ℕ) (page : List ℕ)
      → cheapest_refusal Q m C t a words page
      ≡ first_of (front (
      (unpriced Q C, 3) ∷ (unsound_by B t, 4) ∷ (unknown_answer t a, 5) ∷ (short_work (a + 1) words, 8) ∷ (nothing a, 13) ∷
      (short_page page (cheapest C (family_at t a)), 15) ∷ []))
  -- the given timetable is tested as in place
  pub closest : (t : List ℕ) (a : ℕ) (s : List ℕ) (words : ℕ) (page : List ℕ)
      → closest_refusal Q m t a s words page
      ≡ first_of (front (
      (unsound_by B t, 4) ∷ (unknown_answer t a, 5) ∷ (any_unknown Q.packages s || not (ascending B.keys s), 6) ∷ (short_work (a + 1) words, 8) ∷
      (nothing a, 13) ∷ (short_page page (closest s (family_at t a)), 15) ∷ []))

-- behind the tests of the packages, own tests may be exchanged for others that decide the same where those pass
abbrev pub Exchanges : Problem → ℕ → (List (Bool × ℕ) → List (Bool × ℕ)) → Type 0
Exchanges Q m front = (ts us : List (Bool × ℕ)) → (Fit Q m → first_of ts ≡ first_of us) → first_of (package_tests Q m ts) ≡ first_of (front us)

module _ (Q : Problem) (m : ℕ) (front : List (Bool × ℕ) → List (Bool × ℕ)) (B : Definitions)
    (x : Exchanges Q m front) (g : Fit Q m → Agree m (definitions Q) B) where
  unsound_by_lem : Fit Q m → (t : List ℕ) → unsound Q t ≡ unsound_by B t
  unfolding unsound
  unsound_by_lem f t = ap (λ (K : List ℕ). not (soundb K t)) (g f).same_keys

  tabled : (t : List ℕ) (ts us : List (Bool × ℕ)) → (Fit Q m → first_of ts ≡ first_of us)
      → first_of (table_tests Q m t ts) ≡ first_of (front ((unsound_by B t, 4) ∷ us))
  tabled t ts us h =
      x _ _ (λ f. ap (λ (b : Bool). first_of ((b, 4) ∷ ts)) (unsound_by_lem f t) ∙ exchanged (unsound_by B t) 4 ts us (λ n. h f))

  families : Fit Q m → (t : List ℕ) (c : Call) → family_of Q t c ≡ family_by B t c
  families f t (Cover d limit) = (g f).same-covers (value d)
  families f t (Either a b) = ap (λ (K : List ℕ). union K (family_at t a) (family_at t b)) (g f).same_keys
  families f t (Both a b) = ap (λ (K : List ℕ). inter K (family_at t a) (family_at t b)) (g f).same_keys
  families f t (Only a b) = ap (λ (K : List ℕ). differ K (family_at t a) (family_at t b)) (g f).same_keys
  families f t (With a p) = ap (λ (K : List ℕ). including K p (family_at t a)) (g f).same_keys
  families f t (Without a p) = ap (λ (K : List ℕ). excluding K p (family_at t a)) (g f).same_keys
  families f t (Join a b) = ap (λ (K : List ℕ). join K (family_at t a) (family_at t b)) (g f).same_keys

  -- 9 is reached with items below M alone
  covers : (t : List ℕ) (d limit words : ℕ) → cover_refusal Q m t d limit words ≡ first_of (front ((unsound_by B t, 4) ∷ cover_tests_by B t m d limit words))
  unfolding unknown_item spent
  covers t d limit words =
      tabled t _ _ (λ f. exchanged (unknown_item m d) 7 _ _ (λ n.
      ap₂ (λ (s : ℕ) (F : Family). first_of ((short_work 4 words, 8) ∷ (ltb limit s, 9) ∷ (full t F, 10) ∷ []))
      ((g f).same-steps (places words) d (below_lt d m (not-false (belowb d m) n))) ((g f).same-covers d)))

  calls : (t : List ℕ) (c : Call) (words : ℕ) → call_refusal Q m t c words ≡ first_of (front ((unsound_by B t, 4) ∷ call_tests_by B t Q m c words))
  unfolding call_refusal
  calls t (Cover d limit) words = covers t (value d) limit words
  calls t (Either a b) words = tabled t _ _ (λ f. ap (λ (F : Family). first_of (pair_tests t a b F words)) (families f t (Either a b)))
  calls t (Both a b) words = tabled t _ _ (λ f. ap (λ (F : Family). first_of (pair_tests t a b F words)) (families f t (Both a b)))
  calls t (Only a b) words = tabled t _ _ (λ f. ap (λ (F : Family). first_of (pair_tests t a b F words)) (families f t (Only a b)))
  calls t (With a p) words = tabled t _ _ (λ f. ap (λ (F : Family). first_of (part_tests Q.packages t a p F words)) (families f t (With a p)))
  calls t (Without a p) words = tabled t _ _ (λ f. ap (λ (F : Family). first_of (part_tests Q.packages t a p F words)) (families f t (Without a p)))
  calls t (Join a b) words = tabled t _ _ (λ f. ap (λ (F : Family). first_of (join_tests Q t a b F words)) (families f t (Join a b)))

  -- the list that place and closest are given is tested by the keys, whatever tests are behind
  listed : (t : List ℕ) (a : ℕ) (s : List ℕ) (words : ℕ) (ts : List (Bool × ℕ)) → keys_of Q ≡ B.keys
      → first_of ((unknown_answer t a, 5) ∷ (not_timetable Q s, 6) ∷ (short_work (a + 1) words, 8) ∷ ts)
      ≡ first_of ((unknown_answer t a, 5) ∷ (any_unknown Q.packages s || not (ascending B.keys s), 6) ∷ (short_work (a + 1) words, 8) ∷ ts)
  unfolding not_timetable
  listed t a s words ts = ap (λ (K : List ℕ). first_of (
      (unknown_answer t a, 5) ∷ (any_unknown Q.packages s || not (ascending K s), 6) ∷ (short_work (a + 1) words, 8) ∷ ts))

  pub refused_by : RefusedBy Q m front B
  unfolding check_refusal count_refusal pick_refusal measure_refusal place_refusal cheapest_refusal closest_refusal
  refused_by = record {
    check = λ t. tabled t _ _ (λ f. refl);
    family = families;
    cover = covers;
    call = calls;
    count = λ t a words. tabled t _ _ (λ f. refl);
    pick = λ t a k words page. tabled t _ _ (λ f. refl);
    measure = λ t a k words. tabled t _ _ (λ f. refl);
    place = λ t a s words. tabled t _ _ (λ f. listed t a s words _ (g f).same_keys);
    cheapest = λ C t a words page. x _ _ (λ f. ap (λ (b : Bool). first_of (
        (unpriced Q C, 3) ∷ (b, 4) ∷ (unknown_answer t a, 5) ∷ (short_work (a + 1) words, 8) ∷ (nothing a, 13) ∷
        (short_page page (cheapest C (family_at t a)), 15) ∷ [])) (unsound_by_lem f t));
    closest = λ t a s words page. tabled t _ _ (λ f. listed t a s words _ (g f).same_keys);
  }

-- ---- the plain order

-- the definitions before there was an order
abbrev pub definitions_low : Problem → Definitions
definitions_low Q = record { keys = keys_low Q; covered = covering_low Q; entered = steps_low Q }

-- and the tests of the packages
abbrev pub package_tests_low : Problem → ℕ → List (Bool × ℕ) → List (Bool × ℕ)
package_tests_low Q m ts = (oversize m Q.packages, 1) ∷ (stray m Q.packages, 2) ∷ (stray_optional m Q, 29) ∷ (nothing_compulsory Q, 30) ∷ ts

-- 34 is never said
pub plain-ordered : (m : ℕ) → disordered m (up_to m) ≡ false
unfolding disordered
plain-ordered m = ap not (and_both (eqb (length (up_to m)) m) (each_once m (up_to m)) (eq-eqb (length (up_to m)) m (length-count 0 m)) (plain-once m))

module _ (m : ℕ) (ps : List ℕ) (o : ℕ) where
  abbrev Q : Problem
  Q = plain m ps o

  pub plain_exchanges : Exchanges Q m (package_tests_low Q m)
  plain_exchanges ts us h =
      exchanged (oversize m ps) 1 _ _ (λ a. exchanged (stray m ps) 2 _ _ (λ b. exchanged (stray_optional m Q) 29 _ _ (λ c.
      exchanged (nothing_compulsory Q) 30 _ _ (λ d.
      pass 34 ts (plain-ordered m) ∙ h (record { sized = a; clean = b; known = c; due = d; ordered = plain-ordered m })))))

  agree_low : Fit Q m → Agree m (definitions Q) (definitions_low Q)
  agree_low f = record {
    same_keys = keys-low m ps o (rows f);
    same-covers = covering-low m ps o (rows f);
    same-steps = steps_low_lem m ps o;
  }

  -- THEOREM
  pub plain-refusals : RefusedBy Q m (package_tests_low Q m) (definitions_low Q)
  plain-refusals = refused_by Q m (package_tests_low Q m) (definitions_low Q) plain_exchanges agree_low
