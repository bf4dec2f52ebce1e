-- Lists of items: the earliest that a set has, how often each is there, and the plain order. Assumes nothing.
use mathlib.Core.Path.{◌≡◌, refl, ap, ◌∙◌}
use mathlib.Core.Bool.{true, false}
use mathlib.Core.Logic.{⊎_elim}
use mathlib.Core.List.{List, [], ◌∷◌}
use Prim.Native.Nat.{ℕ, zero, suc, ◌+◌, ◌≤◌, ◌<◌}
use native.Mathlib.Nat.{le_refl, eq-or-lt_of_le, not-suc-le-zero, le_of_suc-le-suc}
use native.Mathlib.Omega.{arith}
use lib.Dec.{eqb, ltb}
use lib.ListN.{length, get_or, take}
use borrow.Author.Tests.{eqb-true, eqb-false, eq-eqb, ne_eqb, ltb-true, ltb-false}
use Rattle.base.proofs.Bools.{by_test, and_left, and_right, and_both}
use Rattle.itemset.specs.Items.{holds}
use Rattle.exact_cover.specs.Problem.{earliest, times, each_once, count_from, up_to}

-- ---- the earliest

earliest_here : (i : ℕ) (is : List ℕ) (A : ℕ) → holds i A ≡ true → earliest (i ∷ is) A ≡ 0
unfolding earliest
earliest_here i is A t = rw (t, earliest)

earliest-next : (i : ℕ) (is : List ℕ) (A : ℕ) → holds i A ≡ false → earliest (i ∷ is) A ≡ suc (earliest is A)
unfolding earliest
earliest-next i is A t = rw (t, earliest)

-- no item of A stands before it
pub earliest_le : (is : List ℕ) (A j : ℕ) → j < length is → holds (get_or is j 0) A ≡ true → earliest is A ≤ j
earliest_le [] A j l y = absurd (not-suc-le-zero l)
earliest_le (i ∷ is) A zero l y = omega (arith, earliest_here i is A y)
earliest_le (i ∷ is) A (suc j) l y =
    by_test (holds i A)
    (λ t. omega (arith, earliest_here i is A t))
    (λ t. omega (arith, earliest-next i is A t, earliest_le is A j (le_of_suc-le-suc l) y))

-- and A has it, where A has one
pub earliest-holds : (is : List ℕ) (A : ℕ) → earliest is A < length is → holds (get_or is (earliest is A) 0) A ≡ true
unfolding earliest
earliest-holds [] A l = absurd (not-suc-le-zero l)
earliest-holds (i ∷ is) A l =
    by_test (holds i A)
    (λ t. ap (λ (j : ℕ). holds (get_or (i ∷ is) j 0) A) (earliest_here i is A t) ∙ t)
    (λ t. ap (λ (j : ℕ). holds (get_or (i ∷ is) j 0) A) (earliest-next i is A t) ∙ earliest-holds is A (omega (arith, earliest-next i is A t)))

-- ---- times

pub times_here : (i k : ℕ) (ks : List ℕ) → k ≡ i → times i (k ∷ ks) ≡ suc (times i ks)
unfolding times
times_here i k ks e = rw (eq-eqb k i e, times)

pub times_other : (i k : ℕ) (ks : List ℕ) → (k ≡ i → ⊥) → times i (k ∷ ks) ≡ times i ks
unfolding times
times_other i k ks f = rw (ne_eqb k i f, times)

pub times_none : (i : ℕ) → times i [] ≡ 0
unfolding times
times_none i = refl

times_more : (i k : ℕ) (ks : List ℕ) → times i ks ≤ times i (k ∷ ks)
times_more i k ks =
    by_test (eqb k i)
    (λ t. omega (arith, times_here i k ks (eqb-true k i t)))
    (λ t. omega (arith, times_other i k ks (eqb-false k i t)))

-- what stands at a position is in the list
pub times-at : (i j : ℕ) (ks : List ℕ) → j < length ks → get_or ks j 0 ≡ i → 0 < times i ks
times-at i j [] l e = absurd (not-suc-le-zero l)
times-at i zero (k ∷ ks) l e = omega (arith, times_here i k ks e)
times-at i (suc j) (k ∷ ks) l e = omega (arith, times_more i k ks, times-at i j ks (le_of_suc-le-suc l) e)

-- what is in the list stands at a position
pub times-position : (i : ℕ) (ks : List ℕ) → 0 < times i ks → (j : ℕ) × ((j < length ks) × (get_or ks j 0 ≡ i))
times-position i [] h = absurd (omega (arith, times_none i))
times-position i (k ∷ ks) h =
    by_test (eqb k i)
    (λ t. (0, (omega arith, eqb-true k i t)))
    (λ t. let r = times-position i ks (omega (arith, times_other i k ks (eqb-false k i t))) in (suc r.0, (omega (arith, r.1.0), r.1.1)))

-- at two positions: twice
pub times-twice : (i j l : ℕ) (ks : List ℕ) → j < l → l < length ks → get_or ks j 0 ≡ i → get_or ks l 0 ≡ i → 1 < times i ks
times-twice i j l [] a b e f = absurd (not-suc-le-zero b)
times-twice i j zero (k ∷ ks) a b e f = absurd (not-suc-le-zero a)
times-twice i zero (suc l) (k ∷ ks) a b e f = omega (arith, times_here i k ks e, times-at i l ks (le_of_suc-le-suc b) f)
times-twice i (suc j) (suc l) (k ∷ ks) a b e f =
    omega (arith, times_more i k ks, times-twice i j l ks (le_of_suc-le-suc a) (le_of_suc-le-suc b) e f)

-- ---- each item just once

pub once-times : (m : ℕ) (ks : List ℕ) → each_once m ks ≡ true → (i : ℕ) → i < m → times i ks ≡ 1
unfolding each_once
once-times zero ks h i l = absurd (not-suc-le-zero l)
once-times (suc m) ks h i l =
    ⊎_elim
    (λ (e : i ≡ m). ap (λ (j : ℕ). times j ks) e ∙ eqb-true (times m ks) 1 (and_left (eqb (times m ks) 1) (each_once m ks) h))
    (λ (n : i < m). once-times m ks (and_right (eqb (times m ks) 1) (each_once m ks) h) i n)
    (eq-or-lt_of_le (le_of_suc-le-suc l))

pub times-once : (m : ℕ) (ks : List ℕ) → ((i : ℕ) → i < m → times i ks ≡ 1) → each_once m ks ≡ true
unfolding each_once
times-once zero ks h = refl
times-once (suc m) ks h =
    and_both (eqb (times m ks) 1) (each_once m ks) (eq-eqb (times m ks) 1 (h m (le_refl (suc m)))) (times-once m ks (λ i l. h i (omega arith)))

-- how many places of the list have an item below m
sum : ℕ → List ℕ → ℕ
sum zero ks = 0
sum (suc m) ks = times m ks + sum m ks

sum-none : (m : ℕ) → sum m [] ≡ 0
unfolding sum
sum-none zero = refl
sum-none (suc m) = omega (arith, times_none m, sum-none m)

sum_above : (m k : ℕ) (ks : List ℕ) → m ≤ k → sum m (k ∷ ks) ≡ sum m ks
unfolding sum
sum_above zero k ks h = refl
sum_above (suc m) k ks h = omega (arith, times_other m k ks (λ e. omega arith), sum_above m k ks (omega arith))

sum_below : (m k : ℕ) (ks : List ℕ) → k < m → sum m (k ∷ ks) ≡ suc (sum m ks)
unfolding sum
sum_below zero k ks h = absurd (not-suc-le-zero h)
sum_below (suc m) k ks h =
    ⊎_elim
    (λ (e : k ≡ m). omega (arith, times_here m k ks e, sum_above m k ks (omega arith)))
    (λ (n : k < m). omega (arith, times_other m k ks (λ e. omega arith), sum_below m k ks n))
    (eq-or-lt_of_le (le_of_suc-le-suc h))

sum_le : (m : ℕ) (ks : List ℕ) → sum m ks ≤ length ks
sum_le m [] = omega (arith, sum-none m)
sum_le m (k ∷ ks) =
    by_test (ltb k m)
    (λ t. omega (arith, sum_below m k ks (ltb-true k m t), sum_le m ks))
    (λ t. omega (arith, sum_above m k ks (ltb-false k m t), sum_le m ks))

-- an item of m or above leaves fewer
sum_lt : (m j : ℕ) (ks : List ℕ) → j < length ks → m ≤ get_or ks j 0 → sum m ks < length ks
sum_lt m j [] l h = absurd (not-suc-le-zero l)
sum_lt m zero (k ∷ ks) l h = omega (arith, sum_above m k ks h, sum_le m ks)
sum_lt m (suc j) (k ∷ ks) l h =
    by_test (ltb k m)
    (λ t. omega (arith, sum_below m k ks (ltb-true k m t), sum_lt m j ks (le_of_suc-le-suc l) h))
    (λ t. omega (arith, sum_above m k ks (ltb-false k m t), sum_lt m j ks (le_of_suc-le-suc l) h))

sum-all : (m : ℕ) (ks : List ℕ) → ((j : ℕ) → j < length ks → get_or ks j 0 < m) → sum m ks ≡ length ks
sum-all m [] h = sum-none m
sum-all m (k ∷ ks) h = omega (arith, sum_below m k ks (h 0 (omega arith)), sum-all m ks (λ j l. h (suc j) (omega arith)))

sum_ones : (m : ℕ) (ks : List ℕ) → ((i : ℕ) → i < m → times i ks ≡ 1) → sum m ks ≡ m
unfolding sum
sum_ones zero ks h = refl
sum_ones (suc m) ks h = omega (arith, h m (le_refl (suc m)), sum_ones m ks (λ i l. h i (omega arith)))

sum_most : (m : ℕ) (ks : List ℕ) → ((i : ℕ) → i < m → times i ks ≤ 1) → sum m ks ≤ m
unfolding sum
sum_most zero ks h = omega arith
sum_most (suc m) ks h = omega (arith, h m (le_refl (suc m)), sum_most m ks (λ i l. h i (omega arith)))

-- where none is there twice, and there are as many, each is there
sum-full : (m : ℕ) (ks : List ℕ) → ((i : ℕ) → i < m → times i ks ≤ 1) → m ≤ sum m ks → (i : ℕ) → i < m → times i ks ≡ 1
unfolding sum
sum-full zero ks h f i l = absurd (not-suc-le-zero l)
sum-full (suc m) ks h f i l =
    ⊎_elim
    (λ (e : i ≡ m). ap (λ (j : ℕ). times j ks) e ∙ omega (arith, h m (le_refl (suc m)), sum_most m ks (λ j n. h j (omega arith))))
    (λ (n : i < m). sum-full m ks (λ j o. h j (omega arith)) (omega (arith, h m (le_refl (suc m)))) i n)
    (eq-or-lt_of_le (le_of_suc-le-suc l))

-- m items below m, none of them twice, are each item just once
pub distinct_once : (m : ℕ) (ks : List ℕ) → length ks ≡ m → ((j : ℕ) → j < length ks → get_or ks j 0 < m) → ((i : ℕ) → i < m → times i ks ≤ 1)
    → each_once m ks ≡ true
distinct_once m ks e b h = times-once m ks (sum-full m ks h (omega (arith, sum-all m ks b)))

-- a list as long as its items are many, in which each item is once: it has no other, and no item at two positions
module _ (ks : List ℕ) (h : each_once (length ks) ks ≡ true) where
  pub order_below : (j : ℕ) → j < length ks → get_or ks j 0 < length ks
  order_below j l =
      by_test (ltb (get_or ks j 0) (length ks))
      (λ t. ltb-true (get_or ks j 0) (length ks) t)
      (λ t. absurd (omega (arith, sum_lt (length ks) j ks l (ltb-false (get_or ks j 0) (length ks) t), sum_ones (length ks) ks (once-times (length ks) ks h))))

  pub order-apart : (j l : ℕ) → j < l → l < length ks → get_or ks j 0 ≡ get_or ks l 0 → ⊥
  order-apart j l a b e =
      omega (arith, times-twice (get_or ks l 0) j l ks a b e refl, once-times (length ks) ks h (get_or ks l 0) (order_below l b))

  pub order-position : (i : ℕ) → i < length ks → (j : ℕ) × ((j < length ks) × (get_or ks j 0 ≡ i))
  order-position i l = times-position i ks (omega (arith, once-times (length ks) ks h i l))

-- ---- the plain order

pub length-count : (k n : ℕ) → length (count_from k n) ≡ n
unfolding count_from
length-count k zero = refl
length-count k (suc n) = ap suc (length-count (suc k) n)

pub count_at : (k n j : ℕ) → j < n → get_or (count_from k n) j 0 ≡ k + j
unfolding count_from
count_at k zero j l = absurd (not-suc-le-zero l)
count_at k (suc n) zero l = omega arith
count_at k (suc n) (suc j) l = let r : get_or (count_from (suc k) n) j 0 ≡ suc k + j = count_at (suc k) n j (le_of_suc-le-suc l) in omega arith

pub plain_at : (n j : ℕ) → j < n → get_or (up_to n) j 0 ≡ j
plain_at n j l = count_at 0 n j l ∙ omega arith

count-below : (i k n : ℕ) → i < k → times i (count_from k n) ≡ 0
unfolding count_from
count-below i k zero l = times_none i
count-below i k (suc n) l = times_other i k (count_from (suc k) n) (λ e. omega arith) ∙ count-below i (suc k) n (omega arith)

count-once : (i k n : ℕ) → k ≤ i → i < k + n → times i (count_from k n) ≡ 1
unfolding count_from
count-once i k zero a b = absurd (omega arith)
count-once i k (suc n) a b =
    ⊎_elim
    (λ (e : k ≡ i). times_here i k (count_from (suc k) n) e ∙ ap suc (count-below i (suc k) n (omega arith)))
    (λ (l : k < i). times_other i k (count_from (suc k) n) (λ e. omega arith) ∙ count-once i (suc k) n l (omega arith))
    (eq-or-lt_of_le a)

pub plain-once : (n : ℕ) → each_once n (up_to n) ≡ true
plain-once n = times-once n (up_to n) (λ i l. count-once i 0 n (omega arith) (omega arith))

-- its beginning is that of fewer items
take_count : (n k m : ℕ) → n ≤ m → take n (count_from k m) ≡ count_from k n
unfolding count_from
take_count zero k m l = refl
take_count (suc n) k zero l = absurd (not-suc-le-zero l)
take_count (suc n) k (suc m) l = ap (λ (is : List ℕ). k ∷ is) (take_count n (suc k) m (le_of_suc-le-suc l))

pub take-plain : (n m : ℕ) → n ≤ m → take n (up_to m) ≡ up_to n
take-plain n m l = take_count n 0 m l
