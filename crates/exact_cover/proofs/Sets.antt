-- `sets (keys_of Q)` has each set of packages below the number of packages, in precedence. Assumes nothing.
use mathlib.Core.Path.{◌≡◌, refl, sym, ap, subst}
use mathlib.Core.Logic.{◌↔◌, ⊎_elim}
use mathlib.Core.List.Memᴰ
use mathlib.Core.List.{List, [], ◌∷◌, map, Memᴰ}
use Prim.Native.Nat.{ℕ, suc, ◌≤◌}
use native.Mathlib.Nat.{le_refl}
use native.Mathlib.Omega.{arith}
use lib.ListN.{length}
use Rattle.zdd.specs.Table.{order, all_sets, sets}
use Rattle.exact_cover.specs.Problem.{Problem}
use Rattle.exact_cover.specs.Cover.{keys_of}
use Rattle.exact_cover.specs.Recursion.{rank, Ascends}
use Rattle.exact_cover.proofs.Order.{listed_more, listed_in, order_is, order-listed, order-all}

module _ (Q : Problem) where
  sets-listed : (n m : ℕ) (L t : List ℕ) → Ascends Q n m L → Memᴰ t (all_sets L) → Ascends Q n m t
  unfolding all_sets
  sets-listed n m [] t h d = subst (Ascends Q n m) (sym (Memᴰ.eq_of_singleton d)) tt
  sets-listed n m (q ∷ L) t h d =
      ⊎_elim
      (λ (c : Memᴰ t (map (λ (u : List ℕ). q ∷ u) (all_sets L))).
      let r = Memᴰ.of_map (λ (u : List ℕ). q ∷ u) (all_sets L) c in
      subst (Ascends Q n m) r.2 (h.0, h.1, sets-listed n (suc (rank Q q)) L r.0 h.2 r.1))
      (λ (c : Memᴰ t (all_sets L)).
      listed_more Q n n (suc (rank Q q)) m t (le_refl n) (omega arith) (sets-listed n (suc (rank Q q)) L t h.2 c))
      (Memᴰ.append_cases (map (λ (u : List ℕ). q ∷ u) (all_sets L)) d)

  -- q is no member of a set whose keys are above q's
  no_first : (n m q : ℕ) (L t : List ℕ) → suc (rank Q q) ≤ m → Ascends Q n m t
      → ((x : ℕ) → Memᴰ x t → Memᴰ x (q ∷ L)) → (x : ℕ) → Memᴰ x t → Memᴰ x L
  no_first n m q L t l h f x d =
      ⊎_elim
      (λ (e : x ≡ q). absurd (omega (arith, (listed_in Q n m t h d).1, ap (rank Q) e)))
      (λ (c : Memᴰ x L). c)
      (Memᴰ.cases_cons (f x d))

  listed-sets : (n m : ℕ) (L t : List ℕ) → Ascends Q n m L → Ascends Q n m t → ((x : ℕ) → Memᴰ x t → Memᴰ x L) → Memᴰ t (all_sets L)
  unfolding all_sets
  listed-sets n m [] [] h g f = Memᴰ.head refl
  listed-sets n m [] (p ∷ u) h g f = absurd (Memᴰ.not-nil (f p (Memᴰ.head refl)))
  listed-sets n m (q ∷ L) [] h g f =
      Memᴰ.append_right (map (λ (u : List ℕ). q ∷ u) (all_sets L)) (listed-sets n (suc (rank Q q)) L [] h.2 tt (λ x d. absurd (Memᴰ.not-nil d)))
  listed-sets n m (q ∷ L) (p ∷ u) h g f =
      ⊎_elim
      (λ (e : p ≡ q).
      let k : suc (rank Q q) ≤ suc (rank Q p) = omega (arith, ap (rank Q) e) in
      Memᴰ.append_left (all_sets L)
      (Memᴰ.cast (ap (λ (x : ℕ). x ∷ u) e)
      (Memᴰ.map (λ (u : List ℕ). q ∷ u)
      (listed-sets n (suc (rank Q q)) L u h.2
      (listed_more Q n n (suc (rank Q p)) (suc (rank Q q)) u (le_refl n) k g.2)
      (no_first n (suc (rank Q p)) q L u k g.2 (λ x d. f x (Memᴰ.tail d)))))))
      (λ (c : Memᴰ p L).
      let k : suc (rank Q q) ≤ rank Q p = (listed_in Q n (suc (rank Q q)) L h.2 c).1 in
      Memᴰ.append_right (map (λ (u : List ℕ). q ∷ u) (all_sets L))
      (listed-sets n (suc (rank Q q)) L (p ∷ u) h.2 (g.0, k, g.2)
      (no_first n (suc (rank Q q)) q L (p ∷ u) (le_refl (suc (rank Q q))) (g.0, k, g.2) f)))
      (Memᴰ.cases_cons (f p (Memᴰ.head refl)))

  in_order_lem : length Q.packages ≤ 512 → Ascends Q (length Q.packages) 0 (order (keys_of Q))
  in_order_lem few = subst (Ascends Q (length Q.packages) 0) (sym (order_is Q)) (order-listed Q few (length Q.packages) (le_refl (length Q.packages)))

  -- THEOREM 2
  pub sets_member : (t : List ℕ) → length Q.packages ≤ 512 → Memᴰ t (sets (keys_of Q)) ↔ Ascends Q (length Q.packages) 0 t
  unfolding sets
  sets_member t few = (
    sets-listed (length Q.packages) 0 (order (keys_of Q)) t (in_order_lem few),
    λ h. listed-sets (length Q.packages) 0 (order (keys_of Q)) t (in_order_lem few) h
        (λ x d. subst (Memᴰ x) (sym (order_is Q)) (order-all Q (length Q.packages) x (listed_in Q (length Q.packages) 0 t h d).0)),
  )
