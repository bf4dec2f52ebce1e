-- The tests that every call makes first. Assumes nothing.
use mathlib.Core.Path.{◌≡◌, sym, ◌∙◌}
use mathlib.Core.Bool.{Bool, true, false, not, ◌&&◌}
use mathlib.Core.List.{List, []}
use Prim.Native.Nat.{ℕ, ◌≤◌}
use lib.Dec.{eqb}
use lib.ListN.{length}
use borrow.Author.Tests.{eqb-true, not-false}
use Rattle.base.proofs.Bools.{and_left, and_right, or_neither}
use Rattle.itemset.specs.Items.{belowb}
use Rattle.itemset.proofs.Laws.{below_lt}
use Rattle.exact_cover.specs.Problem.{Problem, row, span, each_once, done, Rows}
use Rattle.statement.specs.Refusals.{first_of, stray_package, stray, stray_optional, nothing_compulsory, disordered, unsound, package_tests, table_tests, Fit}
use Rattle.statement.proofs.FirstOf.{pass, passed, exchanged, front}
use Rattle.statement.proofs.TestLaws.{within_limits, package_passes}

module _ {Q : Problem} {m : ℕ} where
  -- the packages pass: the others decide
  pub fit_passes : (ts : List (Bool × ℕ)) → Fit Q m → first_of (package_tests Q m ts) ≡ first_of ts
  fit_passes ts f = pass 1 _ f.sized ∙ pass 2 _ f.clean ∙ pass 29 _ f.known ∙ pass 30 _ f.due ∙ pass 34 _ f.ordered

  -- no refusal: they pass, and so do the others
  pub fit_of : (ts : List (Bool × ℕ)) → first_of (package_tests Q m ts) ≡ 0 → Fit Q m × (first_of ts ≡ 0)
  fit_of ts e =
      let a = passed _ 0 _ e in
      let b = passed _ 1 _ a.1 in
      let c = passed _ 28 _ b.1 in
      let d = passed _ 29 _ c.1 in
      let o = passed _ 33 _ d.1 in
      (record { sized = a.0; clean = b.0; known = c.0; due = d.0; ordered = o.0 }, o.1)

  -- behind them, tests may be exchanged for others that decide the same where the packages pass
  pub fit_exchanged : (ts us : List (Bool × ℕ)) → (Fit Q m → first_of ts ≡ first_of us) → first_of (package_tests Q m ts) ≡ first_of (package_tests Q m us)
  fit_exchanged ts us h =
      exchanged _ 1 _ _ (λ a. exchanged _ 2 _ _ (λ b. exchanged _ 29 _ _ (λ c. exchanged _ 30 _ _ (λ d. exchanged _ 34 _ _ (λ o.
      h (record { sized = a; clean = b; known = c; due = d; ordered = o }))))))

  pub packages_fit : Fit Q m → length Q.packages ≤ 512
  packages_fit f = (within_limits m Q.packages f.sized).1

  -- the order has M items, each just once
  in_order_lem : Fit Q m → eqb (span Q) m && each_once m Q.order ≡ true
  unfolding disordered
  in_order_lem f = not-false (eqb (span Q) m && each_once m Q.order) f.ordered

  pub span_fit : Fit Q m → span Q ≡ m
  span_fit f = eqb-true (span Q) m (and_left (eqb (span Q) m) (each_once m Q.order) (in_order_lem f))

  -- so their covers can be searched
  pub rows : Fit Q m → Rows Q
  unfolding stray stray_optional nothing_compulsory
  rows f = record {
    some = package_passes (done Q) Q.packages f.due;
    few = packages_fit f;
    ordered = rw (span_fit f) (and_right (eqb (span Q) m) (each_once m Q.order) (in_order_lem f));
    narrow = rw (span_fit f) (within_limits m Q.packages f.sized).0;
    inside = λ p l.
        let x = row Q p in
        rw (span_fit f)
        (below_lt x m (not-false (belowb x m) (or_neither (eqb x 0) (not (belowb x m)) (package_passes (stray_package m) Q.packages f.clean p l)).1));
    known = rw (span_fit f) (below_lt Q.optional m (not-false (belowb Q.optional m) f.known));
  }

  -- packages and table pass
  pub table-passes : (t : List ℕ) (ts : List (Bool × ℕ)) → Fit Q m → unsound Q t ≡ false → first_of (table_tests Q m t ts) ≡ first_of ts
  table-passes t ts f s = fit_passes _ f ∙ pass 4 ts s

-- a refusal of the packages stands, whatever tests are behind
pub fit_refused : (Q : Problem) (m : ℕ) (ts : List (Bool × ℕ)) {r : ℕ} → r ≡ first_of (package_tests Q m []) → (r ≡ 0 → ⊥) → first_of (package_tests Q m ts) ≡ r
fit_refused Q m ts e f = front (package_tests Q m []) ts (λ z. f (e ∙ z)) ∙ sym e
