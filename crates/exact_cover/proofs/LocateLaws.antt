-- How the code makes an order, looks at it, inverts it and takes a set to its positions. Assumes nothing.
use mathlib.Core.Path.{◌≡◌, refl, sym, ap, ◌∙◌}
use mathlib.Core.Bool.{Bool, true, false}
use mathlib.Core.Logic.{⊎_elim}
use mathlib.Core.List.{List, [], ◌∷◌}
use Prim.Native.Nat.{ℕ, suc, ◌+◌, ◌^◌, ◌≤◌, ◌<◌}
use native.Mathlib.Nat.{eq-zero-or-pos}
use native.Mathlib.Decide.{ℕ_discrete}
use native.Mathlib.Omega.{arith}
use lib.Dec.{eqb, ltb}
use lib.Pow.{pow_pos}
use lib.ListN.{length, get_or, set, length-set}
use lib.Seq.{get_or-set_same, get_or-set_other, ext_get_or}
use borrow.Author.Tests.{eqb-true, eqb-false, eq-eqb, ne_eqb, ltb-true, ltb-false}
use Rattle.base.proofs.Bools.{by_test, same_test, and_left, and_right}
use Rattle.itemset.specs.Items.{holds, insideb, without, union, lowest}
use Rattle.itemset.specs.Words.{width}
use Rattle.itemset.proofs.Laws.{holds_lt, holds-single, single-inside, union-none, none-union, union_assoc, union-without, without_lt, without_back, lowest-holds, ext_all}
use Rattle.itemset.proofs.Lists.{width_is}
use Rattle.exact_cover.specs.Problem.{each_once, count_from, up_to}
use Rattle.exact_cover.specs.Positions.{positions, plain_from, plainb, Inverse}
use Rattle.exact_cover.proofs.Orders.{order_below, order-apart, order-position, length-count, plain_at}
use Rattle.exact_cover.proofs.PositionLaws.{holds-positions, positions_above, positions-without, positions-none, positions-plain}

-- ---- the plain order of all items, as it is written

pub record Counted (k : ℕ) (order : List ℕ) : Type 0 where
  pub long : length order ≡ 192
  pub each : (j : ℕ) → j < k → get_or order j 0 ≡ j

pub counted-all : {order : List ℕ} (k : ℕ) → 192 ≤ k → Counted k order → order ≡ up_to 192
counted-all {order} k h f =
    ext_get_or 0 order (up_to 192) (f.long ∙ sym (length-count 0 192))
    (λ j l. f.each j (omega (arith, f.long)) ∙ sym (plain_at 192 j (omega (arith, f.long))))

-- ---- whether an order is plain: what is left to look at says it

-- a plain order is 0, 1, .. to its end
plain-count : (k : ℕ) (is : List ℕ) → plain_from k is ≡ true → is ≡ count_from k (length is)
unfolding plain_from count_from
plain-count k [] h = refl
plain-count k (i ∷ is) h =
    let r : is ≡ count_from (suc k) (length is) = plain-count (suc k) is (and_right (eqb i k) (plain_from (suc k) is) h) in
    let e : i ≡ k = eqb-true i k (and_left (eqb i k) (plain_from (suc k) is) h) in
    cc

-- and its positions are the items
pub plain-positions : (order : List ℕ) (A : ℕ) → plainb order ≡ true → A < 2 ^ length order → A ≡ positions order A
plain-positions order A h l =
    sym (ap (λ (is : List ℕ). positions is A) (plain-count 0 order h) ∙ positions-plain (length order) A l)

-- ---- the inverse, as it is written

pub record InverseTo (order : List ℕ) (k : ℕ) (inverse : List ℕ) : Type 0 where
  pub long : length inverse ≡ 192
  pub low : (i : ℕ) → get_or inverse i 0 < width
  pub back : (j : ℕ) → j < k → j < length order → get_or inverse (get_or order j 0) 0 ≡ j

module _ (order : List ℕ) where
  pub inverse_start : {inverse : List ℕ} → length inverse ≡ 192 → ((i : ℕ) → get_or inverse i 0 ≡ 0) → InverseTo order 0 inverse
  inverse_start e z = record { long = e; low = λ i. omega (arith, width_is, z i); back = λ j l. absurd (omega arith) }

  module _ (once : each_once (length order) order ≡ true) (narrow : length order ≤ width) where
    pub inverse_more : {inverse : List ℕ} (k : ℕ) → k < length order → InverseTo order k inverse → InverseTo order (k + 1) (set inverse (get_or order k 0) k)
    inverse_more {inverse} k l f = record {
      long = length-set inverse (get_or order k 0) k ∙ f.long;
      low = λ i. within i (ℕ_discrete i (get_or order k 0));
      back = λ j m n. at j m n (ℕ_discrete j k);
    }
      where
        place : get_or order k 0 < length inverse
        place = omega (arith, order_below order once k l, width_is, narrow, f.long)

        within : (i : ℕ) → Dec (i ≡ get_or order k 0) → get_or (set inverse (get_or order k 0) k) i 0 < width
        within i (yes q) = rw (q, get_or-set_same inverse (get_or order k 0) k 0 place) (omega (arith, narrow))
        within i (no q) = rw (get_or-set_other inverse (get_or order k 0) i k 0 q) (f.low i)

        at : (j : ℕ) → j < k + 1 → j < length order → Dec (j ≡ k) → get_or (set inverse (get_or order k 0) k) (get_or order j 0) 0 ≡ j
        at j m n (yes q) = rw q (get_or-set_same inverse (get_or order k 0) k 0 place)
        at j m n (no q) =
            get_or-set_other inverse (get_or order k 0) (get_or order j 0) k 0 (order-apart order once j k (omega arith) l) ∙ f.back j (omega arith) n

-- ---- a set taken to its positions, item by item

-- the positions of the items of A are in r, but for those of the rest
pub record Moved (order : List ℕ) (A rest r : ℕ) : Type 0 where
  pub inside : rest < 2 ^ length order
  pub whole : union r (positions order rest) ≡ positions order A

pub moved_start : (order : List ℕ) (A : ℕ) → A < 2 ^ length order → Moved order A A 0
moved_start order A h = record { inside = h; whole = union-none (positions order A) }

pub moved_all : {order : List ℕ} {A rest r : ℕ} → rest ≡ 0 → Moved order A rest r → r ≡ positions order A
moved_all {order} {A} {rest} {r} z f =
    sym (ap (λ (x : ℕ). union r x) (ap (positions order) z ∙ positions-none order) ∙ none-union r) ∙ f.whole

module _ (order : List ℕ) (once : each_once (length order) order ≡ true) where
  -- two positions have two items
  apart : (j k : ℕ) → j < length order → k < length order → get_or order j 0 ≡ get_or order k 0 → j ≡ k
  apart j k l m e =
      by_test (ltb j k) (λ t. absurd (order-apart order once j k (ltb-true j k t) m e))
      (λ f. by_test (ltb k j) (λ t. absurd (order-apart order once k j (ltb-true k j t) l (sym e)))
      (λ g. omega (arith, ltb-false j k f, ltb-false k j g)))

  -- an item alone is its position alone
  pub positions-single : (j : ℕ) → j < length order → positions order (2 ^ get_or order j 0) ≡ 2 ^ j
  positions-single j l = ext_all (positions order (2 ^ get_or order j 0)) (2 ^ j) (λ k. by_test (ltb k (length order))
      (λ t. let m : k < length order = ltb-true k (length order) t in
      holds-positions order (2 ^ get_or order j 0) k m ∙ holds-single (get_or order k 0) (get_or order j 0)
      ∙ same_test (eqb (get_or order k 0) (get_or order j 0)) (eqb k j)
      (λ y. eq-eqb k j (apart k j m l (eqb-true (get_or order k 0) (get_or order j 0) y)))
      (λ y. eq-eqb (get_or order k 0) (get_or order j 0) (ap (λ (n : ℕ). get_or order n 0) (eqb-true k j y)))
      ∙ sym (holds-single k j))
      (λ f. let m : length order ≤ k = ltb-false k (length order) f in
      positions_above order (2 ^ get_or order j 0) k m ∙ sym (holds-single k j ∙ ne_eqb k j (λ e. omega arith))))

  module _ (inverse : List ℕ) (inv : Inverse order inverse) where
    -- the inverse has the position of each item
    pub inverse_at : (i : ℕ) → i < length order → (get_or inverse i 0 < length order) × (get_or order (get_or inverse i 0) 0 ≡ i)
    inverse_at i l =
        let r = order-position order once i l in
        let e : get_or inverse i 0 ≡ r.0 = ap (λ (n : ℕ). get_or inverse n 0) (sym r.1.1) ∙ inv.back r.0 r.1.0 in
        (omega (arith, r.1.0), ap (λ (n : ℕ). get_or order n 0) e ∙ r.1.1)

    pub moved_more : {A rest r : ℕ} (i j : ℕ) → 0 < rest → i ≡ lowest rest → j ≡ get_or inverse i 0 → Moved order A rest r
        → Moved order A (without rest (2 ^ i)) (union r (2 ^ j))
    moved_more {A} {rest} {r} i j some low e f = record {
      inside = without_lt (length order) (2 ^ i) f.inside;
      whole = union_assoc r (2 ^ j) (positions order (without rest (2 ^ i)))
          ∙ ap (λ (x : ℕ). union r (union (2 ^ j) x)) (positions-without order rest (2 ^ i) ∙ ap (without (positions order rest)) single)
          ∙ ap (union r) (union-without (positions order rest) (2 ^ j) (single-inside j (positions order rest) there)) ∙ f.whole;
    }
      where
        has : holds i rest ≡ true
        has = ap (λ (n : ℕ). holds n rest) low ∙ lowest-holds rest some

        at : (get_or inverse i 0 < length order) × (get_or order (get_or inverse i 0) 0 ≡ i)
        at = inverse_at i (holds_lt (length order) i f.inside has)

        l : j < length order
        l = omega (arith, at.0)

        back : get_or order j 0 ≡ i
        back = ap (λ (n : ℕ). get_or order n 0) e ∙ at.1

        single : positions order (2 ^ i) ≡ 2 ^ j
        single = ap (λ (n : ℕ). positions order (2 ^ n)) (sym back) ∙ positions-single j l

        there : holds j (positions order rest) ≡ true
        there = holds-positions order rest j l ∙ ap (λ (n : ℕ). holds n rest) back ∙ has

-- the loop's test: an item is left, or none
pub some_left : {b : Bool} {rest : ℕ} → b ≡ eqb rest 0 → b ≡ false → 0 < rest
some_left {b} {rest} e t =
    ⊎_elim (λ (z : rest ≡ 0). absurd (eqb-false rest 0 (sym e ∙ t) z)) (λ (l : 0 < rest). l) (eq-zero-or-pos rest)

pub none_left : {b : Bool} {rest : ℕ} → b ≡ eqb rest 0 → b ≡ true → rest ≡ 0
none_left {b} {rest} e f = eqb-true rest 0 (sym e ∙ f)

-- each item that is taken leaves a smaller number
pub rest_falls : (rest i : ℕ) → 0 < rest → i ≡ lowest rest → without rest (2 ^ i) < rest
rest_falls rest i some low =
    let part : insideb (2 ^ i) rest ≡ true = single-inside i rest (ap (λ (n : ℕ). holds n rest) low ∙ lowest-holds rest some) in
    omega (arith, pow_pos i, without_back rest (2 ^ i) part)
