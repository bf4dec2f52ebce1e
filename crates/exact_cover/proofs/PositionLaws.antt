-- Sets of positions, item by item: taking positions commutes with all that is done with sets. Assumes nothing.
use mathlib.Core.Path.{◌≡◌, refl, sym, ap, ap₂, ◌∙◌}
use mathlib.Core.Bool.{Bool, true, false, not, ◌&&◌}
use mathlib.Core.List.{List, [], ◌∷◌}
use Prim.Native.Nat.{ℕ, zero, suc, ◌+◌, ◌*◌, ◌/◌, ◌%◌, ◌^◌, ◌≤◌, ◌<◌}
use native.Mathlib.Nat.{not-suc-le-zero, le_of_suc-le-suc, le_antisymm, pow-suc}
use native.Mathlib.Omega.{arith}
use lib.Dec.{eqb, ltb}
use lib.ListN.{length, get_or}
use borrow.Author.Tests.{ltb-true, ltb-false}
use Rattle.base.proofs.Bools.{by_test, is_false, same_test}
use Rattle.itemset.specs.Items.{holds, insideb, without, lowest}
use Rattle.itemset.proofs.Laws.{holds-zero, holds-suc, holds-none, holds_above, holds_lt, holds-without, holds_pos, ext_all, empty, inside-holds}
use Rattle.itemset.proofs.Laws.{holds-inside-all, inside_le, inside_refl, lowest-unique, lowest-holds}
use Rattle.exact_cover.specs.Problem.{earliest, each_once, up_to}
use Rattle.exact_cover.specs.Positions.{positions}
use Rattle.exact_cover.proofs.Orders.{earliest_le, earliest-holds, order-position, length-count, plain_at}

-- ---- its digits

bit : Bool → ℕ
bit true = 1
bit false = 0

positions-cons : (i : ℕ) (is : List ℕ) (A : ℕ) → positions (i ∷ is) A ≡ bit (holds i A) + 2 * positions is A
unfolding positions bit
positions-cons i is A = by_test (holds i A) (λ t. rw t) (λ t. rw t)

positions-nil : (A : ℕ) → positions [] A ≡ 0
unfolding positions
positions-nil A = refl

digit_zero : (b : Bool) (x : ℕ) → holds 0 (bit b + 2 * x) ≡ b
unfolding bit
digit_zero true x = let e : (1 + 2 * x) % 2 ≡ 1 = omega arith in holds-zero (1 + 2 * x) ∙ ap (λ (n : ℕ). eqb n 1) e
digit_zero false x = let e : (0 + 2 * x) % 2 ≡ 0 = omega arith in holds-zero (0 + 2 * x) ∙ ap (λ (n : ℕ). eqb n 1) e

digit_suc : (b : Bool) (x j : ℕ) → holds (suc j) (bit b + 2 * x) ≡ holds j x
unfolding bit
digit_suc true x j = let e : (1 + 2 * x) / 2 ≡ x = omega arith in holds-suc j (1 + 2 * x) ∙ ap (holds j) e
digit_suc false x j = let e : (0 + 2 * x) / 2 ≡ x = omega arith in holds-suc j (0 + 2 * x) ∙ ap (holds j) e

bit_lt : (b : Bool) → bit b < 2
unfolding bit
bit_lt true = omega arith
bit_lt false = omega arith

-- position j is in it where the item at j is
pub holds-positions : (is : List ℕ) (A j : ℕ) → j < length is → holds j (positions is A) ≡ holds (get_or is j 0) A
holds-positions [] A j l = absurd (not-suc-le-zero l)
holds-positions (i ∷ is) A zero l = ap (holds 0) (positions-cons i is A) ∙ digit_zero (holds i A) (positions is A)
holds-positions (i ∷ is) A (suc j) l =
    ap (holds (suc j)) (positions-cons i is A) ∙ digit_suc (holds i A) (positions is A) j ∙ holds-positions is A j (le_of_suc-le-suc l)

-- and no other
pub positions_lt : (is : List ℕ) (A : ℕ) → positions is A < 2 ^ length is
positions_lt [] A = omega (arith, positions-nil A)
positions_lt (i ∷ is) A =
    let r : positions is A < 2 ^ length is = positions_lt is A in
    let e : positions (i ∷ is) A ≡ bit (holds i A) + 2 * positions is A = positions-cons i is A in
    omega (arith, bit_lt (holds i A), pow-suc 2 (length is))

pub positions_above : (is : List ℕ) (A j : ℕ) → length is ≤ j → holds j (positions is A) ≡ false
positions_above is A j l = holds_above (length is) j (positions_lt is A) l

-- a position is in the list or past its end
split : {P : Type 0} (j n : ℕ) → (j < n → P) → (n ≤ j → P) → P
split j n a b = by_test (ltb j n) (λ t. a (ltb-true j n t)) (λ t. b (ltb-false j n t))

-- ---- what is done with sets

module _ (is : List ℕ) where
  pub positions-without : (A B : ℕ) → positions is (without A B) ≡ without (positions is A) (positions is B)
  positions-without A B = ext_all (positions is (without A B)) (without (positions is A) (positions is B)) (λ j. split j (length is)
      (λ l. holds-positions is (without A B) j l ∙ holds-without (get_or is j 0) A B
      ∙ ap₂ (λ (a b : Bool). a && not b) (sym (holds-positions is A j l)) (sym (holds-positions is B j l))
      ∙ sym (holds-without j (positions is A) (positions is B)))
      (λ l. positions_above is (without A B) j l
      ∙ sym (holds-without j (positions is A) (positions is B) ∙ ap (λ (a : Bool). a && not (holds j (positions is B))) (positions_above is A j l))))

  pub positions-none : positions is 0 ≡ 0
  positions-none = empty (positions is 0) (λ j. split j (length is) (λ l. holds-positions is 0 j l ∙ holds-none (get_or is j 0)) (positions_above is 0 j))

  pub positions-part : (A B : ℕ) → insideb A B ≡ true → insideb (positions is A) (positions is B) ≡ true
  positions-part A B h = holds-inside-all (positions is A) (positions is B) (λ j y.
      let l : j < length is = holds_lt (length is) j (positions_lt is A) y in
      holds-positions is B j l ∙ inside-holds A B h (get_or is j 0) (sym (holds-positions is A j l) ∙ y))

  -- the earliest item is the lowest position
  pub earliest-lowest : (A : ℕ) → 0 < positions is A → earliest is A ≡ lowest (positions is A)
  earliest-lowest A h =
      let x = positions is A in
      let y : holds (lowest x) x ≡ true = lowest-holds x h in
      let l : lowest x < length is = holds_lt (length is) (lowest x) (positions_lt is A) y in
      let e : earliest is A ≤ lowest x = earliest_le is A (lowest x) l (sym (holds-positions is A (lowest x) l) ∙ y) in
      let n : earliest is A < length is = omega arith in
      sym (lowest-unique x (earliest is A) (holds-positions is A (earliest is A) n ∙ earliest-holds is A n)
      (λ j k. is_false (holds j x) (λ t.
      let m : j < length is = omega arith in
      let o : earliest is A ≤ j = earliest_le is A j m (sym (holds-positions is A j m) ∙ t) in
      omega arith)))

-- in the plain order a set is its positions
pub positions-plain : (n A : ℕ) → A < 2 ^ n → positions (up_to n) A ≡ A
positions-plain n A w = ext_all (positions (up_to n) A) A (λ j. split j n
    (λ l. holds-positions (up_to n) A j (omega (arith, length-count 0 n)) ∙ ap (λ (i : ℕ). holds i A) (plain_at n j l))
    (λ l. positions_above (up_to n) A j (omega (arith, length-count 0 n)) ∙ sym (holds_above n j w l)))

-- ---- each item once: nothing is lost

module _ (order : List ℕ) (h : each_once (length order) order ≡ true) where
  -- item i of A is at some position
  pub holds-item : (A : ℕ) → A < 2 ^ length order → (i : ℕ) → holds i A ≡ true
      → (j : ℕ) × ((j < length order) × ((get_or order j 0 ≡ i) × (holds j (positions order A) ≡ true)))
  holds-item A w i y =
      let r = order-position order h i (holds_lt (length order) i w y) in
      (r.0, (r.1.0, (r.1.1, holds-positions order A r.0 r.1.0 ∙ ap (λ (k : ℕ). holds k A) r.1.1 ∙ y)))

  pub positions-whole : (A B : ℕ) → A < 2 ^ length order → insideb (positions order A) (positions order B) ≡ true → insideb A B ≡ true
  positions-whole A B w t = holds-inside-all A B (λ i y.
      let r = holds-item A w i y in
      ap (λ (k : ℕ). holds k B) (sym r.1.1.0) ∙ sym (holds-positions order B r.0 r.1.0)
      ∙ inside-holds (positions order A) (positions order B) t r.0 r.1.1.1)

  pub positions-inside : (A B : ℕ) → A < 2 ^ length order → insideb (positions order A) (positions order B) ≡ insideb A B
  positions-inside A B w =
      same_test (insideb (positions order A) (positions order B)) (insideb A B) (positions-whole A B w) (positions-part order A B)

  -- sets are told apart by their positions
  pub positions-apart : (A B : ℕ) → A < 2 ^ length order → B < 2 ^ length order → positions order A ≡ positions order B → A ≡ B
  positions-apart A B a b e =
      le_antisymm (inside_le A B (positions-whole A B a (ap (insideb (positions order A)) (sym e) ∙ inside_refl (positions order A))))
      (inside_le B A (positions-whole B A b (ap (insideb (positions order B)) e ∙ inside_refl (positions order B))))

  -- what has an item has a position
  pub positions-some : (A : ℕ) → A < 2 ^ length order → 0 < A → 0 < positions order A
  positions-some A w l =
      let r = holds-item A w (lowest A) (lowest-holds A l) in holds_pos r.0 (positions order A) r.1.1.1

  -- and its earliest item stands in the list
  pub earliest_lt : (A : ℕ) → A < 2 ^ length order → 0 < A → earliest order A < length order
  earliest_lt A w l =
      let r = holds-item A w (lowest A) (lowest-holds A l) in
      omega (arith, r.1.0, earliest_le order A r.0 r.1.0 (ap (λ (k : ℕ). holds k A) r.1.1.0 ∙ lowest-holds A l))
