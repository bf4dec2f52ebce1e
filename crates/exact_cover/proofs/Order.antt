-- Precedence: keys, and the packages sorted by them. Assumes nothing.
use mathlib.Core.Path.{◌≡◌, refl, sym, ap, subst}
use mathlib.Core.Bool.{true, false}
use mathlib.Core.Logic.{◌⊎◌, inl, inr, ⊎_elim, ◌↔◌}
use mathlib.Core.List.{List, [], ◌∷◌, Memᴰ}
use Prim.Native.Nat.{ℕ, zero, suc, ◌+◌, ◌*◌, ◌≤◌, ◌<◌, zero-le}
use native.Mathlib.Nat.{le_refl, eq-or-lt_of_le, not-suc-le-zero, le_of_suc-le-suc}
use native.Mathlib.Omega.{arith}
use lib.Dec.{ltb}
use lib.ListN.{length, get_or}
use borrow.Author.Tests.{ltb-true, ltb-false}
use Rattle.base.proofs.Bools.{by_test}
use Rattle.zdd.specs.Table.{insert_by, order_to, order, Keys}
use Rattle.exact_cover.specs.Problem.{Problem, row, lead}
use Rattle.exact_cover.specs.Cover.{Before, keys_from, keys_of}
use Rattle.exact_cover.specs.Recursion.{rank, Ascends}

keys_length : (Q : Problem) (n : ℕ) (xs : List ℕ) → length (keys_from Q n xs) ≡ length xs
unfolding keys_from
keys_length Q n [] = refl
keys_length Q n (x ∷ xs) = ap suc (keys_length Q (suc n) xs)

keys-at : (Q : Problem) (n : ℕ) (xs : List ℕ) (p q : ℕ) → p < length xs → q ≡ n + p → get_or (keys_from Q n xs) p 0 ≡ lead Q (get_or xs p 0) * 512 + q
unfolding keys_from
keys-at Q n [] p q l e = absurd (not-suc-le-zero l)
keys-at Q n (x ∷ xs) zero q l e = omega arith
keys-at Q n (x ∷ xs) (suc p) q l e = keys-at Q (suc n) xs p q (le_of_suc-le-suc l) (omega arith)

-- as many keys as packages
pub length-keys : (Q : Problem) → length (keys_of Q) ≡ length Q.packages
unfolding keys_of
length-keys Q = keys_length Q 0 Q.packages

-- the key of a package: its lead × 512 + number
pub rank_is : (Q : Problem) (p : ℕ) → p < length Q.packages → rank Q p ≡ lead Q (row Q p) * 512 + p
unfolding keys_of
rank_is Q p l = keys-at Q 0 Q.packages p p l (omega arith)

pub order_is : (Q : Problem) → order (keys_of Q) ≡ order_to (keys_of Q) (length Q.packages)
unfolding order
order_is Q = ap (order_to (keys_of Q)) (length-keys Q)

module _ (Q : Problem) (few : length Q.packages ≤ 512) where
  -- THEOREM: to compare keys is to compare packages by precedence
  pub key_before : (p q : ℕ) → p < length Q.packages → q < length Q.packages → (rank Q p < rank Q q) ↔ Before Q p q
  key_before p q lp lq = (
    λ h. to (eq-or-lt_of_le (omega (arith, rank_is Q p lp, rank_is Q q lq))) h,
    λ b. ⊎_elim (λ (l : lead Q (row Q p) < lead Q (row Q q)). omega (arith, rank_is Q p lp, rank_is Q q lq))
        (λ (e : (lead Q (row Q p) ≡ lead Q (row Q q)) × (p < q)). omega (arith, rank_is Q p lp, rank_is Q q lq, e.0, e.1)) b,
  )
    where
      to : (lead Q (row Q p) ≡ lead Q (row Q q)) ⊎ (lead Q (row Q p) < lead Q (row Q q)) → rank Q p < rank Q q → Before Q p q
      to (inl e) h = inr (e, omega (arith, rank_is Q p lp, rank_is Q q lq))
      to (inr l) h = inl l

  -- two packages have two keys
  pub keys-apart : Keys (keys_of Q)
  keys-apart = record {
    apart = λ p q lp lq e.
        let a : p < length Q.packages = omega (arith, length-keys Q) in
        let b : q < length Q.packages = omega (arith, length-keys Q) in
        omega (arith, rank_is Q p a, rank_is Q q b);
  }

  -- a higher key has no lower lead
  pub key-low : (q p : ℕ) → q < length Q.packages → p < length Q.packages → rank Q q ≤ rank Q p → lead Q (row Q q) ≤ lead Q (row Q p)
  key-low q p lq lp h = omega (arith, rank_is Q q lq, rank_is Q p lp)

  key_apart : (q p : ℕ) → q < p → p < length Q.packages → rank Q q ≡ rank Q p → ⊥
  key_apart q p m l e = omega (arith, rank_is Q q (omega arith), rank_is Q p l)

  -- of those with one lead, the higher number has the higher key
  pub key-number : (q p : ℕ) → q < p → p < length Q.packages → lead Q (row Q q) ≡ lead Q (row Q p) → rank Q q < rank Q p
  key-number q p l h e = omega (arith, rank_is Q q (omega arith), rank_is Q p h)

module _ (Q : Problem) where
  -- ---- sets in precedence

  pub listed_more : (n k m r : ℕ) (t : List ℕ) → n ≤ k → r ≤ m → Ascends Q n m t → Ascends Q k r t
  listed_more n k m r [] a b h = tt
  listed_more n k m r (p ∷ t) a b h =
      (omega arith, omega arith, listed_more n k (suc (rank Q p)) (suc (rank Q p)) t a (le_refl (suc (rank Q p))) h.2)

  pub listed_in : (n m : ℕ) (t : List ℕ) {p : ℕ} → Ascends Q n m t → Memᴰ p t → (p < n) × (m ≤ rank Q p)
  listed_in n m [] h e = absurd (mathlib.Core.List.Memᴰ.not-nil e)
  listed_in n m (q ∷ t) {p} h e =
      ⊎_elim
      (λ (s : p ≡ q). subst (λ (x : ℕ). (x < n) × (m ≤ rank Q x)) (sym s) (h.0, h.1))
      (λ (d : Memᴰ p t). let r = listed_in n (suc (rank Q q)) t h.2 d in (r.0, omega arith))
      (mathlib.Core.List.Memᴰ.cases_cons e)

  -- ---- the sort

  pub insert-first : (p q : ℕ) (t : List ℕ) → ltb (rank Q p) (rank Q q) ≡ true → insert_by (keys_of Q) p (q ∷ t) ≡ p ∷ q ∷ t
  unfolding insert_by
  insert-first p q t e = rw (e, insert_by)

  pub insert_later : (p q : ℕ) (t : List ℕ) → ltb (rank Q p) (rank Q q) ≡ false → insert_by (keys_of Q) p (q ∷ t) ≡ q ∷ insert_by (keys_of Q) p t
  unfolding insert_by
  insert_later p q t e = rw (e, insert_by)

  pub insert-nil : (p : ℕ) → insert_by (keys_of Q) p [] ≡ p ∷ []
  unfolding insert_by
  insert-nil p = refl

  insert-listed : (few : length Q.packages ≤ 512) (n m : ℕ) (t : List ℕ) → n < length Q.packages → Ascends Q n m t → m ≤ rank Q n → Ascends Q (suc n) m (insert_by (keys_of Q) n t)
  insert-listed few n m [] l h b = subst (Ascends Q (suc n) m) (sym (insert-nil n)) (le_refl (suc n), b, tt)
  insert-listed few n m (q ∷ t) l h b =
      by_test (ltb (rank Q n) (rank Q q))
      (λ e. subst (Ascends Q (suc n) m) (sym (insert-first n q t e)) (
        le_refl (suc n),
        b,
        (omega arith, ltb-true (rank Q n) (rank Q q) e, listed_more n (suc n) (suc (rank Q q)) (suc (rank Q q)) t (omega arith) (le_refl (suc (rank Q q))) h.2),
      ))
      (λ e. subst (Ascends Q (suc n) m) (sym (insert_later n q t e)) (
        omega arith,
        h.1,
        insert-listed few n (suc (rank Q q)) t l h.2
            (⊎_elim (λ (s : rank Q q ≡ rank Q n). absurd (key_apart Q few q n h.0 l s)) (λ (s : rank Q q < rank Q n). s)
            (eq-or-lt_of_le (ltb-false (rank Q n) (rank Q q) e))),
      ))

  -- the packages below n stand in precedence
  pub order-listed : (few : length Q.packages ≤ 512) (n : ℕ) → n ≤ length Q.packages → Ascends Q n 0 (order_to (keys_of Q) n)
  unfolding order_to
  order-listed few zero l = tt
  order-listed few (suc n) l = insert-listed few n 0 (order_to (keys_of Q) n) l (order-listed few n (omega arith)) zero-le

  insert_self : (n : ℕ) (t : List ℕ) → Memᴰ n (insert_by (keys_of Q) n t)
  insert_self n [] = subst (Memᴰ n) (sym (insert-nil n)) (mathlib.Core.List.Memᴰ.head refl)
  insert_self n (q ∷ t) =
      by_test (ltb (rank Q n) (rank Q q))
      (λ e. subst (Memᴰ n) (sym (insert-first n q t e)) (mathlib.Core.List.Memᴰ.head refl))
      (λ e. subst (Memᴰ n) (sym (insert_later n q t e)) (mathlib.Core.List.Memᴰ.tail (insert_self n t)))

  insert_keeps : (n : ℕ) (t : List ℕ) {p : ℕ} → Memᴰ p t → Memᴰ p (insert_by (keys_of Q) n t)
  insert_keeps n [] d = absurd (mathlib.Core.List.Memᴰ.not-nil d)
  insert_keeps n (q ∷ t) {p} d =
      by_test (ltb (rank Q n) (rank Q q))
      (λ e. subst (Memᴰ p) (sym (insert-first n q t e)) (mathlib.Core.List.Memᴰ.tail d))
      (λ e. subst (Memᴰ p) (sym (insert_later n q t e))
      (⊎_elim (λ (s : p ≡ q). mathlib.Core.List.Memᴰ.head s) (λ (c : Memᴰ p t). mathlib.Core.List.Memᴰ.tail (insert_keeps n t c)) (mathlib.Core.List.Memᴰ.cases_cons d)))

  -- and they are all there
  pub order-all : (n p : ℕ) → p < n → Memᴰ p (order_to (keys_of Q) n)
  unfolding order_to
  order-all zero p l = absurd (not-suc-le-zero l)
  order-all (suc n) p l =
      ⊎_elim
      (λ (e : p ≡ n). subst (λ (x : ℕ). Memᴰ x (insert_by (keys_of Q) n (order_to (keys_of Q) n))) (sym e) (insert_self n (order_to (keys_of Q) n)))
      (λ (m : p < n). insert_keeps n (order_to (keys_of Q) n) (order-all n p m))
      (eq-or-lt_of_le (le_of_suc-le-suc l))
