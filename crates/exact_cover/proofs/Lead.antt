-- The laws of `lead` and `done`: what all proofs about covers and search know of them. A is a set of items of the order, in which each item is once. Assumes
-- nothing.
use mathlib.Core.Path.{◌≡◌, refl, sym, ap, ap₂, ◌∙◌}
use mathlib.Core.Bool.{Bool, true, false, not, ◌&&◌}
use mathlib.Core.Logic.{⊎_elim}
use Prim.Native.Nat.{ℕ, ◌^◌, ◌≤◌, ◌<◌}
use native.Mathlib.Nat.{eq-zero-or-pos}
use native.Mathlib.Omega.{arith}
use lib.Dec.{eqb}
use borrow.Author.Tests.{eqb-true, eqb-false, ne_eqb, not-true}
use Rattle.base.proofs.Bools.{by_test, never, and_left, and_right}
use Rattle.itemset.specs.Items.{holds, insideb, size, lowest}
use Rattle.itemset.proofs.Laws.{holds-none, holds_pos, holds-without, without_le, without_lt, inside-holds, inside_le, size_pos}
use Rattle.exact_cover.specs.Problem.{Problem, compulsory, span, earliest, each_once, lead, leader, done}
use Rattle.exact_cover.specs.Positions.{positions}
use Rattle.exact_cover.proofs.Orders.{earliest_le, earliest-holds}
use Rattle.exact_cover.proofs.PositionLaws.{earliest-lowest, earliest_lt, positions-some}

-- the order has each of its items just once
abbrev pub Ordered : Problem → Type 0
Ordered Q = each_once (span Q) Q.order ≡ true

module _ (Q : Problem) (A : ℕ) where
  -- ---- as the code finds them

  pub lead_is : lead Q A ≡ earliest Q.order (compulsory Q A)
  unfolding lead
  lead_is = refl

  pub done_is : done Q A ≡ eqb (compulsory Q A) 0
  unfolding done
  done_is = refl

  -- by the test of the compulsory items d
  pub done-found : {d : ℕ} {b : Bool} → d ≡ compulsory Q A → b ≡ eqb d 0 → done Q A ≡ b
  done-found e f = done_is ∙ ap (λ (x : ℕ). eqb x 0) (sym e) ∙ sym f

  pub open_due : done Q A ≡ false → 0 < compulsory Q A
  open_due o =
      ⊎_elim (λ (z : compulsory Q A ≡ 0). absurd (eqb-false (compulsory Q A) 0 (sym done_is ∙ o) z)) (λ (l : 0 < compulsory Q A). l)
      (eq-zero-or-pos (compulsory Q A))

  pub open_pos : done Q A ≡ false → 0 < A
  open_pos o = omega (arith, open_due o, without_le A Q.optional)

  pub due_open : 0 < compulsory Q A → done Q A ≡ false
  due_open l = done_is ∙ ne_eqb (compulsory Q A) 0 (λ z. omega arith)

  pub size-done : size A ≤ 0 → done Q A ≡ true
  size-done h = by_test (done Q A) (λ e. e) (λ o. absurd (omega (arith, size_pos A (open_pos o))))

  -- ---- as the proofs use them

  -- a compulsory item of A is one of A that is not optional
  due : (i : ℕ) → holds i A ≡ true → holds i Q.optional ≡ false → holds i (compulsory Q A) ≡ true
  due i h n = holds-without i A Q.optional ∙ ap₂ (λ (x y : Bool). x && not y) h n

  -- each item of a set that is done is optional
  pub done-optional : done Q A ≡ true → (i : ℕ) → holds i A ≡ true → holds i Q.optional ≡ true
  done-optional e i h =
      by_test (holds i Q.optional) (λ y. y)
      (λ n. absurd (never (due i h n) (ap (holds i) (eqb-true (compulsory Q A) 0 (sym done_is ∙ e)) ∙ holds-none i)))

  module _ (r : Ordered Q) (w : A < 2 ^ span Q) (o : done Q A ≡ false) where
    low : compulsory Q A < 2 ^ span Q
    low = without_lt (span Q) Q.optional w

    -- one that is not has its lead, the lowest position of a compulsory item
    pub lead-lowest : lead Q A ≡ lowest (positions Q.order (compulsory Q A))
    lead-lowest = lead_is ∙ earliest-lowest Q.order (compulsory Q A) (positions-some Q.order r (compulsory Q A) low (open_due o))

    pub lead_lt : lead Q A < span Q
    lead_lt = rw lead_is (earliest_lt Q.order r (compulsory Q A) low (open_due o))

    lead_due : holds (leader Q A) (compulsory Q A) ≡ true
    lead_due = rw lead_is (earliest-holds Q.order (compulsory Q A) (rw lead_is at lead_lt))

    lead-both : holds (leader Q A) A && not (holds (leader Q A) Q.optional) ≡ true
    lead-both = sym (holds-without (leader Q A) A Q.optional) ∙ lead_due

    pub lead-holds : holds (leader Q A) A ≡ true
    lead-holds = and_left (holds (leader Q A) A) (not (holds (leader Q A) Q.optional)) lead-both

    pub lead-compulsory : holds (leader Q A) Q.optional ≡ false
    lead-compulsory =
        not-true (holds (leader Q A) Q.optional) (and_right (holds (leader Q A) A) (not (holds (leader Q A) Q.optional)) lead-both)

-- what has the leader of a set that is not done is not done either, and leads no later
module _ (Q : Problem) (r : Ordered Q) (A : ℕ) (w : A < 2 ^ span Q) (o : done Q A ≡ false) (B : ℕ) (h : holds (leader Q A) B ≡ true) where
  has : holds (leader Q A) (compulsory Q B) ≡ true
  has = due Q B (leader Q A) h (lead-compulsory Q A r w o)

  pub lead_open : done Q B ≡ false
  lead_open = due_open Q B (holds_pos (leader Q A) (compulsory Q B) has)

  pub lead-first : lead Q B ≤ lead Q A
  lead-first = rw (lead_is Q B) (earliest_le Q.order (compulsory Q B) (lead Q A) (lead_lt Q A r w o) has)

module _ (Q : Problem) (r : Ordered Q) (x A : ℕ) (w : A < 2 ^ span Q) (t : insideb x A ≡ true) where
  small : x < 2 ^ span Q
  small = omega (arith, inside_le x A t)

  module _ (o : done Q x ≡ false) where
    -- what has a part that is not done is not done, and leads no later than the part
    has-lead : holds (leader Q x) A ≡ true
    has-lead = inside-holds x A t (leader Q x) (lead-holds Q x r small o)

    pub part_open : done Q A ≡ false
    part_open = lead_open Q r x small o A has-lead

    pub part_later : lead Q A ≤ lead Q x
    part_later = lead-first Q r x small o A has-lead

  -- a part with the leader of the whole has the same lead
  pub part-lead : done Q A ≡ false → holds (leader Q A) x ≡ true → lead Q x ≡ lead Q A
  part-lead o h = omega (arith, lead-first Q r A w o x h, part_later (lead_open Q r A w o x h))
