-- The labels of the nodes below a number. THEOREMS: they are as listed (`labels_means`), and every label of a set of the number's family is one of them
-- (`family_labels`). Assumes nothing.
use mathlib.Core.Path.{◌≡◌, refl, sym, ap, ◌∙◌, subst⁻¹}
use mathlib.Core.Logic.{⊎_elim, ◌↔◌}
use mathlib.Core.Bool.{true}
use mathlib.Core.List.Memᴰ
use mathlib.Core.List.{List, [], ◌∷◌}
use Prim.Native.Nat.{ℕ, suc, ◌-◌, ◌<◌}
use native.Mathlib.Omega.{arith}
use lib.ListN.{length, get_or}
use borrow.Author.Tests.{eqb-true}
use Rattle.base.proofs.Bools.{never, or_cases}
use Rattle.zdd.specs.Table.{Node, blank, fork, family, elem, has, Nodes, ◌∈◌}
use Rattle.zdd.specs.Below.{Below, itself, by_lo, by_hi, new_below, Labels, labels_below}
use Rattle.zdd.proofs.Grow.{downward, family_ind}
use Rattle.zdd.proofs.Member.{elem_in, fork-cases}
use Rattle.zdd.proofs.Below.{new_means}

pub below_trans : {ns : List Node} {a b k : ℕ} → Below ns a b → Below ns b k → Below ns a k
below_trans itself c = c
below_trans (by_lo i w b) c = by_lo i w (below_trans b c)
below_trans (by_hi i w b) c = by_hi i w (below_trans b c)

-- a node's own label
pub own_label : (ns : List Node) (i : ℕ) → Labels ns (suc (suc i)) (get_or ns i blank).label
own_label ns i =
    let e : suc (suc i) - 2 ≡ i = omega arith in
    record { number = suc (suc i); branch = omega arith; below = itself; label = ap (λ (j : ℕ). (get_or ns j blank).label) e }

-- what is below a number is below those above it
pub labels_up : {ns : List Node} {a b p : ℕ} → Below ns a b → Labels ns b p → Labels ns a p
labels_up x L = record { number = L.number; branch = L.branch; below = below_trans x L.below; label = L.label }

module _ {K : List ℕ} {ns : List Node} (n : Nodes K ns) where
  -- THEOREM
  pub labels_means : (a p : ℕ) → a < suc (suc (length ns)) → (p ∈ labels_below ns a) ↔ Labels ns a p
  unfolding labels_below
  labels_means a p h = (
    λ m.
        let r = Memᴰ.of_map (λ (k : ℕ). (get_or ns (k - 2) blank).label) (new_below 0 ns a) m in
        let b = (new_means n 0 a h r.0).0 r.1 in
        record { number = r.0; branch = omega (arith, b.0); below = b.1; label = r.2 },
    λ L. Memᴰ.cast (sym L.label) (Memᴰ.map (λ (k : ℕ). (get_or ns (k - 2) blank).label) ((new_means n 0 a h L.number).1 (omega (arith, L.branch), L.below))),
  )

  -- THEOREM
  pub family_labels : (a : ℕ) → a < suc (suc (length ns)) → (u : List ℕ) (p : ℕ) → elem u (family ns a) ≡ true → has p u ≡ true → Labels ns a p
  unfolding elem has
  family_labels a h =
      family_ind ns (downward n) (λ k F. (u : List ℕ) (p : ℕ) → elem u F ≡ true → has p u ≡ true → Labels ns k p)
      (λ u p e d. absurd (never e refl))
      (λ u p e d. absurd (⊎_elim (λ q. never (ap (has p) (sym q) ∙ d) refl) Memᴰ.not-nil (Memᴰ.cases_cons (elem_in u ([] ∷ []) e))))
      (λ i w r l u p e d. at i w r l u p e d)
      a h
    where
      at : (i : ℕ) → i < length ns
          → ((u : List ℕ) (p : ℕ) → elem u (family ns (get_or ns i blank).hi) ≡ true → has p u ≡ true → Labels ns (get_or ns i blank).hi p)
          → ((u : List ℕ) (p : ℕ) → elem u (family ns (get_or ns i blank).lo) ≡ true → has p u ≡ true → Labels ns (get_or ns i blank).lo p)
          → (u : List ℕ) (p : ℕ)
          → elem u (fork (get_or ns i blank).label (family ns (get_or ns i blank).hi) (family ns (get_or ns i blank).lo)) ≡ true → has p u ≡ true
          → Labels ns (suc (suc i)) p
      at i w r l [] p e d = absurd (never d refl)
      at i w r l (q ∷ u) p e d =
          ⊎_elim
          (λ a. ⊎_elim
          (λ b. subst⁻¹ (Labels ns (suc (suc i))) (eqb-true p q b ∙ a.0) (own_label ns i))
          (λ b. labels_up (by_hi i w itself) (r u p a.1 b))
          (or_cases _ (has p u) d))
          (λ a. labels_up (by_lo i w itself) (l (q ∷ u) p a d))
          (fork-cases (get_or ns i blank).label q u (family ns (get_or ns i blank).hi) (family ns (get_or ns i blank).lo) e)
