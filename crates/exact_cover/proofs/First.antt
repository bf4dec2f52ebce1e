-- The candidates of a set, and the packages before and after them. Assumes nothing.
use mathlib.Core.Path.{◌≡◌, ap, ◌∙◌}
use mathlib.Core.Bool.{true, false}
use mathlib.Core.Logic.{⊎_elim}
use mathlib.Core.List.Memᴰ
use mathlib.Core.List.{Memᴰ}
use Prim.Native.Nat.{ℕ, zero, suc, ◌^◌, ◌≤◌, ◌<◌}
use native.Mathlib.Omega.{arith}
use lib.ListN.{length}
use Rattle.itemset.specs.Items.{holds, insideb, without, size}
use Rattle.base.proofs.Bools.{is_false, never, and_left, and_right}
use Rattle.itemset.proofs.Laws.{falls, holds_pos, inside-holds, inside_trans, without-inside, without-apart}
use Rattle.exact_cover.specs.Problem.{Problem, row, span, item_at, lead, leader, done, Rows}
use Rattle.exact_cover.specs.Cover.{fits, down, candidates}
use Rattle.exact_cover.specs.Recursion.{rank}
use Rattle.exact_cover.proofs.Lists.{filter_in}
use Rattle.exact_cover.proofs.Lead.{lead-holds, lead-first, part_later, part-lead}
use Rattle.exact_cover.proofs.Order.{key-low}

module _ (Q : Problem) where
  pub fits-holds : (A p : ℕ) → fits Q A p ≡ true → holds (leader Q A) (row Q p) ≡ true
  unfolding fits
  fits-holds A p h = and_left (holds (leader Q A) (row Q p)) (insideb (row Q p) A) h

  pub fits-inside : (A p : ℕ) → fits Q A p ≡ true → insideb (row Q p) A ≡ true
  unfolding fits
  fits-inside A p h = and_right (holds (leader Q A) (row Q p)) (insideb (row Q p) A) h

  -- ---- the candidates are the packages that fit

  down_lt : (n : ℕ) {p : ℕ} → Memᴰ p (down n) → p < n
  unfolding down
  down_lt zero d = absurd (Memᴰ.not-nil d)
  down_lt (suc n) {p} d =
      ⊎_elim (λ (e : p ≡ n). omega arith) (λ (c : Memᴰ p (down n)). omega (arith, down_lt n c)) (Memᴰ.cases_cons d)

  pub candidate_fits : (A : ℕ) {p : ℕ} → Memᴰ p (candidates Q A) → (p < length Q.packages) × (fits Q A p ≡ true)
  unfolding candidates
  candidate_fits A d = let r = filter_in (fits Q A) (down (length Q.packages)) d in (down_lt (length Q.packages) r.0, r.1)

  -- what a candidate leaves is smaller
  pub candidate_falls : (A : ℕ) {p : ℕ} → Memᴰ p (candidates Q A) → size (without A (row Q p)) < size A
  candidate_falls A {p} d =
      let f = (candidate_fits A d).1 in
      falls A (row Q p) (holds_pos (leader Q A) (row Q p) (fits-holds A p f)) (fits-inside A p f)

module _ (Q : Problem) (good : Rows Q) where
  -- package p has its leader
  row-leader : (p : ℕ) → p < length Q.packages → holds (leader Q (row Q p)) (row Q p) ≡ true
  row-leader p l = lead-holds Q (row Q p) good.ordered (good.inside p l) (good.some p l)

  -- of what a candidate p leaves, no package up to p is a part
  pub apart : (A p q : ℕ) → A < 2 ^ span Q → done Q A ≡ false → p < length Q.packages → q < length Q.packages → rank Q q ≤ rank Q p
      → fits Q A p ≡ true → insideb (row Q q) (without A (row Q p)) ≡ false
  apart A p q w o lp lq k f =
      is_false (insideb (row Q q) (without A (row Q p))) (λ t.
      let i : insideb (row Q q) A ≡ true = inside_trans (row Q q) (without A (row Q p)) A t (without-inside A (row Q p)) in
      let a : lead Q A ≤ lead Q (row Q q) = part_later Q good.ordered (row Q q) A w i (good.some q lq) in
      let b : lead Q (row Q p) ≡ lead Q A = part-lead Q good.ordered (row Q p) A w (fits-inside Q A p f) o (fits-holds Q A p f) in
      let e : lead Q (row Q q) ≡ lead Q A = omega (arith, key-low Q good.few q p lq lp k) in
      never
      (inside-holds (row Q q) (without A (row Q p)) t (leader Q (row Q q)) (row-leader q lq))
      (without-apart (leader Q (row Q q)) A (row Q p) (ap (λ (n : ℕ). holds (item_at Q n) (row Q p)) e ∙ fits-holds Q A p f)))

  -- where q is inside A without A's leader, no package after q has that item
  pub past : (A q p : ℕ) → A < 2 ^ span Q → done Q A ≡ false → q < length Q.packages → p < length Q.packages → insideb (row Q q) A ≡ true
      → holds (leader Q A) (row Q q) ≡ false → rank Q q ≤ rank Q p → holds (leader Q A) (row Q p) ≡ false
  past A q p w o lq lp t n k =
      is_false (holds (leader Q A) (row Q p)) (λ h.
      let a : lead Q (row Q p) ≤ lead Q A = lead-first Q good.ordered A w o (row Q p) h in
      let b : lead Q A ≤ lead Q (row Q q) = part_later Q good.ordered (row Q q) A w t (good.some q lq) in
      let e : lead Q A ≡ lead Q (row Q q) = omega (arith, key-low Q good.few q p lq lp k) in
      never (ap (λ (i : ℕ). holds (item_at Q i) (row Q q)) e ∙ row-leader q lq) n)
