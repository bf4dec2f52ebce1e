-- THEOREM: for a file of at most nine items the program prints what it printed when its 3604 working words were 1802 places of two words and M ended at
-- 64: each item set has a place of its own then, among 901 as among 1802. Assumes nothing.
use mathlib.Core.Path.{◌≡◌, ap, ap₂, ◌∙◌}
use mathlib.Core.Bool.{◌||◌}
use mathlib.Core.List.{List, [], ◌∷◌}
use Prim.Native.Nat.{ℕ, ◌+◌, ◌≤◌, ◌<◌}
use native.Mathlib.Omega.{arith}
use lib.Dec.{ltb}
use lib.ListN.{length}
use lib.Pow.{pow_mono}
use borrow.Author.Tests.{le-ltb}
use Rattle.itemset.specs.Words.{width}
use Rattle.zdd.specs.Table.{nodes_of}
use Rattle.zdd.specs.Branches.{missing}
use Rattle.exact_cover.specs.Problem.{Problem}
use Rattle.exact_cover.specs.Cover.{covering}
use Rattle.exact_cover.specs.Steps.{steps}
use Rattle.exact_cover.proofs.Roomy.{steps_roomy}
use Rattle.statement.specs.Examples.{all_items}
use Rattle.statement.specs.Calls.{cover_refusal}
use Rattle.statement.specs.Refusals.{first_of, oversize, stray, unsound, unknown_item, short_work, spent, full}
use Rattle.exact_cover.proofs.NoneOptional.{none_optional}
use Rattle.statement.proofs.NoneOptional.{packages_as_before}
use Rattle.bids.specs.Contents.{packages_of, costs_of}
use Rattle.bids.specs.Format.{version1, schools, slots, contents, refusal}
use Rattle.bids.proofs.Packed.{plain_problem}
use Rattle.printout.specs.Program.{unless, answer_text, blank, solved, printed}

module _ (s t : ℕ) (ps C : List ℕ) where
  -- these packages, no optional item, and the plain order
  abbrev Q : Problem
  Q = none_optional (s + t) ps

  -- the items to cover
  abbrev D : ℕ
  D = all_items (s + t)

  -- cover's refusal and the text as they were
  abbrev old_refusal : ℕ
  old_refusal =
      first_of (
      (ltb 64 (s + t) || ltb 512 (length ps), 1) ∷
      (stray (s + t) ps, 2) ∷
      (unsound Q blank, 4) ∷
      (unknown_item (s + t) D, 7) ∷
      (short_work 2 3604, 8) ∷
      (ltb 1000000 (steps Q 1802 D), 9) ∷
      (full blank (covering Q D), 10) ∷
      [])

  abbrev pub old_solved : List ℕ
  old_solved = unless old_refusal (answer_text s t (length ps) C (covering Q D) (missing (nodes_of blank) (covering Q D)) (steps Q 1802 D))

  module _ (few : s + t ≤ 9) where
    small : D < 901
    small = omega (arith, pow_mono few)

    same-steps : steps Q 901 D ≡ steps Q 1802 D
    same-steps = steps_roomy Q 901 1802 D small (omega (arith, small))

    same-refusal : cover_refusal Q (s + t) blank D 1000000 3604 ≡ old_refusal
    unfolding oversize spent short_work width
    same-refusal = packages_as_before ps (s + t) _ ∙ rw (le-ltb 192 (s + t) (omega arith), le-ltb 64 (s + t) (omega arith), same-steps)

    same-solved : solved s t Q C ≡ old_solved
    unfolding solved
    same-solved =
        ap₂ (λ (r n : ℕ). unless r (answer_text s t (length ps) C (covering Q D) (missing (nodes_of blank) (covering Q D)) n)) same-refusal same-steps

pub printed_as_before : (b : List ℕ) → schools b + slots b ≤ 9
    → printed b ≡ unless (refusal version1 b) (old_solved (schools b) (slots b) (packages_of (contents version1 b)) (costs_of (contents version1 b)))
unfolding printed
printed_as_before b few =
    let x = contents version1 b in
    ap (unless (refusal version1 b))
    (ap (λ (Q : Problem). solved (schools b) (slots b) Q (costs_of x)) (plain_problem b) ∙ same-solved (schools b) (slots b) (packages_of x) (costs_of x) few)
