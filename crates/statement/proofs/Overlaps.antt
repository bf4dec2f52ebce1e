-- THEOREM `overlap_means` [document 02, No. 5]: on a sound table 35 is said exactly where some package on a node below one answer, its own node included,
-- shares an item with one below the other. It is the same for (b, a) as for (a, b), and no answer overlaps 0 or 1. Assumes nothing.
use mathlib.Core.Path.{◌≡◌, ap}
use mathlib.Core.Logic.{◌↔◌}
use mathlib.Core.Bool.{true, false, not}
use mathlib.Core.List.{List}
use Prim.Native.Nat.{ℕ, suc, ◌+◌, ◌<◌}
use native.Mathlib.Omega.{arith}
use lib.ListN.{length}
use borrow.Author.Tests.{not-true}
use Rattle.base.proofs.Bools.{is_false, same_test}
use Rattle.base.proofs.Lists.{any_found, any-there}
use Rattle.itemset.specs.Items.{holds, apartb}
use Rattle.itemset.proofs.Laws.{apart-holds, common_item}
use Rattle.zdd.specs.Table.{Node, count, nodes_of, Nodes}
use Rattle.zdd.specs.Below.{Labels, labels_below}
use Rattle.zdd.proofs.Words.{length-nodes}
use Rattle.zdd.proofs.Below.{below_le}
use Rattle.zdd.proofs.Support.{labels_means}
use Rattle.exact_cover.specs.Problem.{Problem, row}
use Rattle.statement.specs.Refusals.{overlap}

-- package p on a node below a, and q on one below b, have item i in common
pub record Overlap (Q : Problem) (ns : List Node) (a b : ℕ) : Type 0 where
  pub one : ℕ
  pub other : ℕ
  pub one_below : Labels ns a one
  pub other_below : Labels ns b other
  pub item : ℕ
  pub one_holds : holds item (row Q one) ≡ true
  pub other_holds : holds item (row Q other) ≡ true

module _ {K : List ℕ} (Q : Problem) (t : List ℕ) (n : Nodes K (nodes_of t)) (a b : ℕ) (ha : a < count t + 2) (hb : b < count t + 2) where
  known : (k : ℕ) → k < count t + 2 → k < suc (suc (length (nodes_of t)))
  known k h = omega (arith, length-nodes t)

  -- THEOREM
  pub overlap_means : (overlap Q t a b ≡ true) ↔ Overlap Q (nodes_of t) a b
  unfolding overlap
  overlap_means = (
    λ e.
        let x = any_found _ (labels_below (nodes_of t) a) e in
        let y = any_found _ (labels_below (nodes_of t) b) x.2 in
        let i = common_item (row Q x.0) (row Q y.0) (not-true (apartb (row Q x.0) (row Q y.0)) y.2) in
        record {
          one = x.0;
          other = y.0;
          one_below = (labels_means n a x.0 (known a ha)).0 x.1;
          other_below = (labels_means n b y.0 (known b hb)).0 y.1;
          item = i.0;
          one_holds = i.1;
          other_holds = i.2;
        },
    λ o.
        any-there _ (labels_below (nodes_of t) a) o.one ((labels_means n a o.one (known a ha)).1 o.one_below)
        (any-there _ (labels_below (nodes_of t) b) o.other ((labels_means n b o.other (known b hb)).1 o.other_below)
        (ap not (is_false (apartb (row Q o.one) (row Q o.other))
        (λ h. apart-holds (row Q o.one) (row Q o.other) h o.item o.one_holds o.other_holds)))),
  )

-- the other way round
overlap-turned : {Q : Problem} {ns : List Node} {a b : ℕ} → Overlap Q ns a b → Overlap Q ns b a
overlap-turned o = record {
  one = o.other;
  other = o.one;
  one_below = o.other_below;
  other_below = o.one_below;
  item = o.item;
  one_holds = o.other_holds;
  other_holds = o.one_holds;
}

-- THEOREM
pub overlap_comm : {K : List ℕ} (Q : Problem) (t : List ℕ) → Nodes K (nodes_of t) → (a b : ℕ) → a < count t + 2 → b < count t + 2 → overlap Q t a b ≡ overlap Q t b a
overlap_comm Q t n a b ha hb =
    same_test (overlap Q t a b) (overlap Q t b a)
    (λ e. (overlap_means Q t n b a hb ha).1 (overlap-turned ((overlap_means Q t n a b ha hb).0 e)))
    (λ e. (overlap_means Q t n a b ha hb).1 (overlap-turned ((overlap_means Q t n b a hb ha).0 e)))

-- THEOREM: 0 and 1 have no package
pub end_clear : {K : List ℕ} (Q : Problem) (t : List ℕ) → Nodes K (nodes_of t) → (a b : ℕ) → a < 2 → b < count t + 2 → overlap Q t a b ≡ false
end_clear Q t n a b l hb =
    is_false (overlap Q t a b) (λ e.
    let L = ((overlap_means Q t n a b (omega arith) hb).0 e).one_below in
    omega (arith, L.branch, below_le n L.below))
