-- The first refusals: each package is looked at; what the packages' tests and the table's make together. Assumes nothing.
use mathlib.Core.Path.{◌≡◌, refl, sym, ap, ap₂, ◌∙◌}
use mathlib.Core.Bool.{Bool, true, false, not, ◌&&◌, ◌||◌}
use mathlib.Core.Logic.{⊎_elim}
use mathlib.Core.List.{List, [], ◌∷◌}
use Prim.Native.Nat.{ℕ, zero, suc, ◌+◌, ◌≤◌, ◌<◌}
use native.Mathlib.Nat.{eq-or-lt_of_le, not-suc-le-zero, le_of_suc-le-suc}
use native.Mathlib.Numerals.{add-one}
use native.Mathlib.Omega.{arith}
use lib.Dec.{eqb, ltb}
use lib.ListN.{length, get_or, set, take, drop, replicate, length-set, length-replicate, get_or-replicate}
use lib.Seq.{drop-cons, drop-length, take_all, length-take-le, get_or-take, get_or-set_same, get_or-set_other}
use borrow.Author.Tests.{eqb-true, eqb-false, eq-eqb, ne_eqb, lt-ltb, le-ltb, not-false}
use Rattle.base.specs.Lists.{any}
use Rattle.base.proofs.Bools.{by_test, is_false, and_both}
use Rattle.itemset.specs.Words.{width}
use Rattle.zdd.specs.Table.{soundb}
use Rattle.zdd.proofs.Tested.{sound_of}
use Rattle.exact_cover.specs.Problem.{Problem, times, each_once, Rows}
use Rattle.exact_cover.specs.Cover.{keys_of, Keyed}
use Rattle.exact_cover.proofs.Orders.{times_here, times_other, times_none, times-position, distinct_once, order_below, order-apart}
use Rattle.exact_cover.proofs.Order.{keys-apart}
use Rattle.table.specs.State.{Checked}
use Rattle.table.proofs.IndexLaws.{fresh}
use Rattle.statement.specs.Refusals.{first_of, oversize, stray, disordered, unsound, package_tests, table_tests, check_refusal}
use Rattle.statement.proofs.FirstOf.{pass, hit, none, front, behind}
use Rattle.statement.proofs.Admission.{fit_passes, fit_of, fit_refused, table-passes}
use Rattle.guard.specs.Admitted.{optional_tests, Blank, Tested, Admitted}

-- ---- refusals 2 and 30, package by package

-- of the packages before k none passes the test f
pub record Passed (f : ℕ → Bool) (xs : List ℕ) (k : ℕ) : Type 0 where
  pub within : k ≤ length xs
  pub rest : any f xs ≡ any f (drop k xs)

pub passed_start : (f : ℕ → Bool) (xs : List ℕ) → Passed f xs 0
passed_start f xs = record { within = omega arith; rest = refl }

-- x is package k: it is looked at
module _ {f : ℕ → Bool} {xs : List ℕ} {x : ℕ} (k : ℕ) (p : Passed f xs k) (l : k < length xs) (r : x ≡ get_or xs k 0) where
  here : any f xs ≡ f x || any f (drop (suc k) xs)
  unfolding any
  here = p.rest ∙ rw r (ap (any f) (drop-cons xs k 0 l))

  pub passed_found : f x ≡ true → any f xs ≡ true
  passed_found e = here ∙ rw e

  pub passed_more : f x ≡ false → Passed f xs (k + 1)
  passed_more e = record {
    within = omega arith;
    rest = here ∙ rw e (ap (λ (j : ℕ). any f (drop j xs)) (sym (add-one k)));
  }

pub passed_all : {f : ℕ → Bool} {xs : List ℕ} (k : ℕ) → Passed f xs k → length xs ≤ k → any f xs ≡ false
unfolding any
passed_all {f} {xs} k p l =
    let e : k ≡ length xs = omega (arith, p.within) in
    p.rest ∙ ap (λ (j : ℕ). any f (drop j xs)) e ∙ ap (any f) (drop-length xs)

-- ---- refusal 1

pub many-items : (m : ℕ) (xs : List ℕ) → 192 < m → oversize m xs ≡ true
unfolding oversize width
many-items m xs h = rw (lt-ltb 192 m h)

pub few_items : (m : ℕ) (xs : List ℕ) → m ≤ 192 → oversize m xs ≡ ltb 512 (length xs)
unfolding oversize width
few_items m xs h = rw (le-ltb 192 m h)

-- ---- 1 and 2 pass

module _ (Q : Problem) (m : ℕ) (a : oversize m Q.packages ≡ false) (b : stray m Q.packages ≡ false) where
  module _ {r : ℕ} (e : r ≡ first_of (optional_tests Q m)) where
    -- 29 or 30 is said
    pub optional-refused : (r ≡ 0 → ⊥) → first_of (package_tests Q m []) ≡ r
    optional-refused f = pass 1 _ a ∙ pass 2 _ b ∙ front (optional_tests Q m) _ (λ z. f (e ∙ z)) ∙ sym e

    -- neither is: 34 decides
    pub order_decides : r ≡ 0 → first_of (package_tests Q m []) ≡ first_of ((disordered m Q.order, 34) ∷ [])
    order_decides z = pass 1 _ a ∙ pass 2 _ b ∙ behind (optional_tests Q m) _ tt (sym e ∙ z)

-- ---- refusal 34, item by item

-- the first j items of a list: with the next one, each is there as often, and that one once more
times-next : (i j : ℕ) (ks : List ℕ) → j < length ks → times i (take (suc j) ks) ≡ times i (take j ks) + times i (get_or ks j 0 ∷ [])
times-next i j [] l = absurd (not-suc-le-zero l)
times-next i zero (k ∷ ks) l = omega (arith, times_none i)
times-next i (suc j) (k ∷ ks) l =
    let r = times-next i j ks (le_of_suc-le-suc l) in
    by_test (eqb k i)
    (λ t. let e = eqb-true k i t in omega (arith, times_here i k (take (suc j) ks) e, times_here i k (take j ks) e))
    (λ t. let f = eqb-false k i t in omega (arith, times_other i k (take (suc j) ks) f, times_other i k (take j ks) f))

-- an order of as many items, those before position j below m and no two of them one; mark i says how often i is among them
pub record Marked (m : ℕ) (order : List ℕ) (j : ℕ) (marks : List ℕ) : Type 0 where
  pub narrow : m ≤ 192
  pub long : length marks ≡ 192
  pub same : length order ≡ m
  pub within : j ≤ m
  pub low : (k : ℕ) → k < j → get_or order k 0 < m
  pub are : (i : ℕ) → i < m → get_or marks i 0 ≡ times i (take j order)
  pub once : (i : ℕ) → i < m → times i (take j order) ≤ 1

pub marked_start : {m : ℕ} {order : List ℕ} (n : ℕ) → n ≡ 192 → m ≤ 192 → length order ≡ m → Marked m order 0 (replicate n 0)
marked_start {m} {order} n q h e = record {
  narrow = h;
  long = length-replicate n 0 ∙ q;
  same = e;
  within = omega arith;
  low = λ k l. absurd (not-suc-le-zero l);
  are = λ i l. get_or-replicate n i 0 0 (omega arith) ∙ sym (times_none i);
  once = λ i l. omega (arith, times_none i);
}

pub not_as_long : (m : ℕ) (order : List ℕ) → (length order ≡ m → ⊥) → disordered m order ≡ true
unfolding disordered
not_as_long m order f = ap (λ (b : Bool). not (b && each_once m order)) (ne_eqb (length order) m f)

module _ {m : ℕ} {order : List ℕ} {j : ℕ} {marks : List ℕ} (a : Marked m order j marks) where
  -- the first m items are all
  all_taken : take m order ≡ order
  all_taken = take_all m order (omega (arith, a.same))

  -- as long as those that are gone through
  pub is-inside : j < length (take m order) → j < m
  is-inside h = omega (arith, a.same, ap length all_taken, h)

  pub is-past : length (take m order) ≤ j → m ≤ j
  is-past h = omega (arith, a.same, ap length all_taken, h)

  -- and the same
  pub item_here : get_or (take m order) j 0 ≡ get_or order j 0
  item_here = ap (λ (l : List ℕ). get_or l j 0) all_taken

  not-once : (each_once (length order) order ≡ true → ⊥) → disordered m order ≡ true
  unfolding disordered
  not-once f =
      let n : each_once m order ≡ false = ap (λ (k : ℕ). each_once k order) (sym a.same) ∙ is_false (each_once (length order) order) f in
      ap not (ap₂ ◌&&◌ (eq-eqb (length order) m a.same) n)

  -- item x stands at position j
  module _ (l : j < m) {x : ℕ} (r : x ≡ get_or order j 0) where
    -- it is none of the m items
    pub stray-item : m ≤ x → disordered m order ≡ true
    stray-item h = not-once (λ o. omega (arith, order_below order o j (omega (arith, a.same)), a.same))

    -- it stands before j too
    pub item-twice : x < m → (get_or marks x 0 ≡ 0 → ⊥) → disordered m order ≡ true
    item-twice b f = not-once (λ o.
        let p = times-position x (take j order) (omega (arith, a.are x b, f)) in
        let q : p.0 < j = omega (arith, p.1.0, length-take-le j order (omega (arith, a.same))) in
        order-apart order o p.0 j q (omega (arith, a.same)) (sym (get_or-take j order p.0 0 q) ∙ p.1.1 ∙ r))

    module _ (b : x < m) (z : get_or marks x 0 ≡ 0) where
      more : (i : ℕ) → i < m → (get_or (set marks x 1) i 0 ≡ times i (take (suc j) order)) × (times i (take (suc j) order) ≤ 1)
      more i h =
          let t : times i (take (suc j) order) ≡ times i (take j order) + times i (x ∷ []) = rw r (times-next i j order (omega (arith, a.same))) in
          by_test (eqb x i)
          (λ y.
          let q : x ≡ i = eqb-true x i y in
          let n : times i (take (suc j) order) ≡ 1 =
          omega (arith, times_here i x [] q, times_none i, ap (λ (k : ℕ). get_or marks k 0) q, a.are i h) in
          (ap (λ (k : ℕ). get_or (set marks x 1) k 0) (sym q) ∙ get_or-set_same marks x 1 0 (omega (arith, a.long, a.narrow)) ∙ sym n, omega arith))
          (λ y.
          let q : x ≡ i → ⊥ = eqb-false x i y in
          let n : times i (take (suc j) order) ≡ times i (take j order) = omega (arith, times_other i x [] q, times_none i) in
          (get_or-set_other marks x i 1 0 (λ p. q (sym p)) ∙ a.are i h ∙ sym n, omega (arith, a.once i h)))

      -- it is marked
      pub marked_more : Marked m order (j + 1) (set marks x 1)
      marked_more = rw (add-one j) (record {
        narrow = a.narrow;
        long = length-set marks x 1 ∙ a.long;
        same = a.same;
        within = l;
        low = λ k n. ⊎_elim (λ (q : k ≡ j). omega (arith, ap (λ (i : ℕ). get_or order i 0) q)) (a.low k) (eq-or-lt_of_le (le_of_suc-le-suc n));
        are = λ i h. (more i h).0;
        once = λ i h. (more i h).1;
      })

  pub marked_all : m ≤ j → disordered m order ≡ false
  unfolding disordered
  marked_all h =
      let w : take j order ≡ order = take_all j order (omega (arith, a.same)) in
      ap not (and_both (eqb (length order) m) (each_once m order) (eq-eqb (length order) m a.same)
      (distinct_once m order a.same (λ k l. a.low k (omega (arith, a.same, a.within))) (λ i l. omega (arith, ap (times i) w, a.once i l))))

-- ---- the table

pub tested : {Q : Problem} {t keys index : List ℕ} {b : Bool} → Rows Q → Keyed Q keys → Checked (keys_of Q) t index b → Tested Q t keys index b
unfolding unsound
tested {Q} {t} {b = b} r k c = record {
  says = c.says ∙ sym (twice (soundb (keys_of Q) t));
  usable = λ q.
      let s : soundb (keys_of Q) t ≡ true = sym c.says ∙ q in
      record {
        unspoilt = ap not s;
        rows = r;
        apart = keys-apart Q r.few;
        keyed = k;
        sound = sound_of (keys_of Q) t s;
        indexed = c.indexed q;
      };
}
  where
    twice : (a : Bool) → not (not a) ≡ a
    twice true = refl
    twice false = refl

-- ---- both

module _ {Q : Problem} {m : ℕ} {t keys index : List ℕ} where
  -- the packages are refused
  pub admitted_packages : (r : ℕ) → r ≡ first_of (package_tests Q m []) → (r ≡ 0 → ⊥) → Admitted Q m t keys index r
  unfolding check_refusal
  admitted_packages r e f = record { says = sym (fit_refused Q m _ e f); fit = λ z. absurd (f z); usable = λ z. absurd (f z) }

  -- they are not
  module _ (e : first_of (package_tests Q m []) ≡ 0) {b : Bool} (c : Tested Q t keys index b) where
    pub admitted_spoilt : b ≡ false → Admitted Q m t keys index 4
    unfolding check_refusal
    admitted_spoilt q = record {
      says = sym (fit_passes _ (fit_of [] e).0 ∙ hit 4 _ (not-false _ (sym c.says ∙ q)));
      fit = λ z. absurd (omega arith);
      usable = λ z. absurd (omega arith);
    }

    pub admitted_sound : b ≡ true → Admitted Q m t keys index 0
    unfolding check_refusal
    admitted_sound q = record {
      says = sym (table-passes t [] (fit_of [] e).0 (c.usable q).unspoilt ∙ none);
      fit = λ z. (fit_of [] e).0;
      usable = λ z. c.usable q;
    }

  -- ---- what the calls make of it: theirs are the same tests first, and others behind them

  pub admit-refused : (ts : List (Bool × ℕ)) {r : ℕ} → Admitted Q m t keys index r → (r ≡ 0 → ⊥) → first_of (table_tests Q m t ts) ≡ r
  unfolding check_refusal
  admit-refused ts o f = front (table_tests Q m t []) ts (λ z. f (o.says ∙ z)) ∙ sym o.says

-- new arrays of zeros
pub blank : (k n : ℕ) → k ≡ 512 → n ≡ 131072 → Blank (replicate k 0) (replicate n 0)
blank k n e d = record { keys-long = length-replicate k 0 ∙ e; fresh = fresh n d }
