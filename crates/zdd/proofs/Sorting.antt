-- The labels in the order of their keys: each label stands there, and the keys ascend. Assumes nothing.
use mathlib.Core.Path.{◌≡◌, refl, sym, ap, ◌∙◌, subst}
use mathlib.Core.Bool.{Bool, true, false, cond, ◌||◌}
use mathlib.Core.List.{List, [], ◌∷◌}
use mathlib.Core.Logic.{◌⊎◌, inl, inr}
use Prim.Native.Nat.{ℕ, zero, suc, ◌≤◌, ◌<◌}
use native.Mathlib.Nat.{not-suc-le-zero}
use native.Mathlib.Omega.{arith}
use lib.Dec.{eqb, ltb}
use lib.ListN.{length}
use borrow.Author.Tests.{eqb-true, eqb-false, ltb-true, ltb-false}
use Rattle.base.proofs.Bools.{never, cases, or_cases, or_left, or_right, eqb_same}
use Rattle.zdd.specs.Table.{key, insert_by, order_to, order, Keys, has}

-- the keys ascend
abbrev pub Sorted : List ℕ → List ℕ → Type 0
Sorted K [] = Unit {0}
Sorted K (q ∷ qs) = ((r : ℕ) → has r qs ≡ true → key K q < key K r) × Sorted K qs

-- what is in the list after an insertion
has-insert : (K : List ℕ) (p r : ℕ) (qs : List ℕ) → has r (insert_by K p qs) ≡ (eqb r p || has r qs)
unfolding has insert_by
has-insert K p r [] = refl
has-insert K p r (q ∷ qs) = pick (ltb (key K p) (key K q)) (has-insert K p r qs)
  where
    turn : (a b c : Bool) → (a || (b || c)) ≡ (b || (a || c))
    turn true true c = refl
    turn true false c = refl
    turn false true c = refl
    turn false false c = refl

    pick : (b : Bool) → has r (insert_by K p qs) ≡ (eqb r p || has r qs)
        → has r (cond b (p ∷ q ∷ qs) (q ∷ insert_by K p qs)) ≡ (eqb r p || (eqb r q || has r qs))
    pick true e = refl
    pick false e = ap (λ (b : Bool). eqb r q || b) e ∙ turn (eqb r q) (eqb r p) (has r qs)

sorted_insert : (K : List ℕ) (p : ℕ) (qs : List ℕ) → Sorted K qs → ((r : ℕ) → has r qs ≡ true → key K r ≡ key K p → ⊥) → Sorted K (insert_by K p qs)
unfolding has insert_by
sorted_insert K p [] s f = ((λ r e. absurd (never e refl)), tt)
sorted_insert K p (q ∷ qs) s f =
    pick (ltb (key K p) (key K q)) refl (sorted_insert K p qs s.1 (λ r e. f r (or_right (eqb r q) (has r qs) e)))
  where
    front : key K p < key K q → (r : ℕ) → has r (q ∷ qs) ≡ true → key K p < key K r
    front h r e = go (or_cases (eqb r q) (has r qs) e)
      where
        go : (eqb r q ≡ true) ⊎ (has r qs ≡ true) → key K p < key K r
        go (inl a) = subst (λ (x : ℕ). key K p < key K x) (sym (eqb-true r q a)) h
        go (inr a) = omega (arith, s.0 r a)

    behind : key K q ≤ key K p → (r : ℕ) → has r (insert_by K p qs) ≡ true → key K q < key K r
    behind h r e = go (or_cases (eqb r p) (has r qs) (sym (has-insert K p r qs) ∙ e))
      where
        strict : key K q < key K p
        strict = let g : key K q ≡ key K p → ⊥ = f q (or_left (eqb q q) (has q qs) (eqb_same q)) in omega (arith, g)

        go : (eqb r p ≡ true) ⊎ (has r qs ≡ true) → key K q < key K r
        go (inl a) = subst (λ (x : ℕ). key K q < key K x) (sym (eqb-true r p a)) strict
        go (inr a) = s.0 r a

    pick : (b : Bool) → ltb (key K p) (key K q) ≡ b → Sorted K (insert_by K p qs) → Sorted K (cond b (p ∷ q ∷ qs) (q ∷ insert_by K p qs))
    pick true e t = (front (ltb-true (key K p) (key K q) e), s)
    pick false e t = (behind (ltb-false (key K p) (key K q) e), t)

-- the labels below n
order-has : (K : List ℕ) (n r : ℕ) → r < n → has r (order_to K n) ≡ true
unfolding order_to
order-has K zero r h = absurd (not-suc-le-zero h)
order-has K (suc n) r h = has-insert K n r (order_to K n) ∙ go (cases (eqb r n)) (order-has K n r)
  where
    go : (eqb r n ≡ true) ⊎ (eqb r n ≡ false) → (r < n → has r (order_to K n) ≡ true) → (eqb r n || has r (order_to K n)) ≡ true
    go (inl a) f = or_left (eqb r n) (has r (order_to K n)) a
    go (inr a) f = or_right (eqb r n) (has r (order_to K n)) (f (omega (arith, eqb-false r n a)))

pub order_below : (K : List ℕ) (n r : ℕ) → has r (order_to K n) ≡ true → r < n
unfolding order_to has
order_below K zero r e = absurd (never e refl)
order_below K (suc n) r e = go (or_cases (eqb r n) (has r (order_to K n)) (sym (has-insert K n r (order_to K n)) ∙ e)) (order_below K n r)
  where
    go : (eqb r n ≡ true) ⊎ (has r (order_to K n) ≡ true) → (has r (order_to K n) ≡ true → r < n) → r < suc n
    go (inl a) f = let g : r ≡ n = eqb-true r n a in omega arith
    go (inr a) f = let g : r < n = f a in omega arith

pub sorted_to : (K : List ℕ) → Keys K → (n : ℕ) → n ≤ length K → Sorted K (order_to K n)
unfolding order_to
sorted_to K k zero h = tt
sorted_to K k (suc n) h =
    sorted_insert K n (order_to K n) (sorted_to K k n (omega arith))
    (λ r e q. let b : r < n = order_below K n r e in let z : r ≡ n = k.apart r n (omega arith) (omega arith) q in omega arith)

pub order_sorted : (K : List ℕ) → Keys K → Sorted K (order K)
unfolding order
order_sorted K k = sorted_to K k (length K) (omega arith)

pub order-all : (K : List ℕ) (r : ℕ) → r < length K → has r (order K) ≡ true
unfolding order
order-all K r h = order-has K (length K) r h

length-insert : (K : List ℕ) (p : ℕ) (qs : List ℕ) → length (insert_by K p qs) ≡ suc (length qs)
unfolding insert_by
length-insert K p [] = refl
length-insert K p (q ∷ qs) = go (ltb (key K p) (key K q)) (length-insert K p qs)
  where
    go : (b : Bool) → length (insert_by K p qs) ≡ suc (length qs) → length (cond b (p ∷ q ∷ qs) (q ∷ insert_by K p qs)) ≡ suc (suc (length qs))
    go true e = refl
    go false e = ap suc e

length_to : (K : List ℕ) (n : ℕ) → length (order_to K n) ≡ n
unfolding order_to
length_to K zero = refl
length_to K (suc n) = length-insert K n (order_to K n) ∙ ap suc (length_to K n)

pub length-order : (K : List ℕ) → length (order K) ≡ length K
unfolding order
length-order K = length_to K (length K)
