-- THEOREM: which refusals the program prints [document 02, No. 12]: those of the file; and of an accepted file 9, 10 and 11 alone. Assumes nothing.
use mathlib.Core.Path.{◌≡◌, refl, sym, ap, ◌∙◌}
use mathlib.Core.Bool.{Bool, true, false, not}
use mathlib.Core.List.{List, [], ◌∷◌}
use Prim.Native.Nat.{ℕ, zero, suc, ◌+◌}
use native.Mathlib.Omega.{arith}
use borrow.Author.Tests.{ne_eqb}
use lib.Dec.{eqb}
use lib.ListN.{length}
use lib.Pow.{pow_pos}
use Rattle.base.specs.Lists.{any}
use Rattle.itemset.proofs.Laws.{lt_below}
use Rattle.zdd.specs.Table.{Family, nodes_of}
use Rattle.zdd.specs.Branches.{missing}
use Rattle.zdd.proofs.Tested.{empty_sound}
use Rattle.exact_cover.specs.Problem.{Problem}
use Rattle.exact_cover.specs.Cover.{keys_of, covering}
use Rattle.exact_cover.specs.Steps.{steps}
use Rattle.statement.specs.Examples.{all_items}
use Rattle.statement.specs.Calls.{cover_refusal}
use Rattle.statement.specs.Refusals.{Fit, first_of, unsound, unknown_item, spent, full, uncountable}
use Rattle.statement.specs.Replies.{reply, says_only}
use Rattle.statement.proofs.FirstOf.{pass, hit}
use Rattle.statement.proofs.Sayable.{first_said, behind-said}
use Rattle.statement.proofs.Admission.{table-passes}
use Rattle.statement.proofs.TestLaws.{enough}
use Rattle.bids.specs.Contents.{costs_of, problem_in}
use Rattle.bids.specs.Format.{version1, schools, slots, contents, refusal}
use Rattle.bids.proofs.Records.{school_count}
use Rattle.bids.proofs.Fit.{accepted_fit}
use Rattle.bids.proofs.Readings.{version1-says}
use Rattle.printout.specs.Program.{unless, sheet, answer_text, blank, solved, printed}

-- the program's table is sound, and all items are items
blank_sound : (Q : Problem) → unsound Q blank ≡ false
unfolding unsound blank
blank_sound Q = ap not (empty_sound (keys_of Q) 5400)

all_known : (m : ℕ) → unknown_item m (all_items m) ≡ false
unfolding unknown_item
all_known m = ap not (lt_below (all_items m) m (omega (arith, pow_pos m)))

-- what is left of cover's tests
cover-left : (Q : Problem) (m : ℕ) → Fit Q m
    → cover_refusal Q m blank (all_items m) 1000000 3604
    ≡ first_of ((spent Q (all_items m) 1000000 3604, 9) ∷ (full blank (covering Q (all_items m)), 10) ∷ [])
cover-left Q m f = table-passes blank _ f (blank_sound Q) ∙ pass 7 _ (all_known m) ∙ pass 8 _ (enough 4 3604 (omega arith))

-- the first of three refusals, one behind the other: r, then of c the two tests x and y, then z
one_of : (r c : ℕ) (x y z : Bool) (ts : List ℕ) → (r ≡ 0 → c ≡ first_of ((x, 9) ∷ (y, 10) ∷ []))
    → unless r (unless c (unless (first_of ((z, 11) ∷ [])) ts)) ≡ unless (first_of ((not (eqb r 0), r) ∷ (x, 9) ∷ (y, 10) ∷ (z, 11) ∷ [])) ts
unfolding first_of
one_of (suc r) c x y z ts h = sym (ap (λ (k : ℕ). unless k ts) (hit (suc r) ((x, 9) ∷ (y, 10) ∷ (z, 11) ∷ []) (ap not (ne_eqb (suc r) 0 (λ e. omega arith)))))
one_of zero c true y z ts h = ap (λ (k : ℕ). unless k (unless (first_of ((z, 11) ∷ [])) ts)) (h refl)
one_of zero c false true z ts h = ap (λ (k : ℕ). unless k (unless (first_of ((z, 11) ∷ [])) ts)) (h refl)
one_of zero c false false z ts h = ap (λ (k : ℕ). unless k (unless (first_of ((z, 11) ∷ [])) ts)) (h refl)

module _ (b : List ℕ) where
  abbrev m : ℕ
  m = schools b + slots b

  abbrev Q : Problem
  Q = problem_in (contents version1 b)

  abbrev F : Family
  F = covering Q (all_items m)

  -- the refusal for the file b, 0 for none
  abbrev pub printed_refusal : ℕ
  printed_refusal =
      first_of (
      (not (eqb (refusal version1 b) 0), refusal version1 b) ∷
      (spent Q (all_items m) 1000000 3604, 9) ∷
      (full blank F, 10) ∷
      (uncountable F, 11) ∷
      [])

  -- THEOREM: the program prints its line, and otherwise the lines of the timetables
  pub printed-refusal :
      printed b
      ≡ unless printed_refusal (sheet (schools b) (slots b) (length Q.packages) (costs_of (contents version1 b)) F (missing (nodes_of blank) F) (steps Q 901 (all_items m)))
  unfolding printed solved answer_text
  printed-refusal =
      one_of (refusal version1 b) (cover_refusal Q m blank (all_items m) 1000000 3604) (spent Q (all_items m) 1000000 3604) (full blank F) (uncountable F) _
      (λ z. cover-left Q m (rw (← school_count version1 b) (accepted_fit version1 b z)))

  -- THEOREM: which numbers that line can have
  pub printed-numbers : says_only (9 ∷ 10 ∷ 11 ∷ 20 ∷ 21 ∷ 22 ∷ 24 ∷ 23 ∷ 25 ∷ 26 ∷ 27 ∷ []) (reply printed_refusal b) ≡ true
  unfolding any
  printed-numbers =
      first_said (refusal version1 b) _ ((spent Q (all_items m) 1000000 3604, 9) ∷ (full blank F, 10) ∷ (uncountable F, 11) ∷ []) b
      (behind-said (9 ∷ 10 ∷ 11 ∷ []) _ _ (version1-says b b)) refl
