-- The laws of the chained index: it is empty at first, one more entry, and another function that gives the same buckets.
use mathlib.Core.Path.{◌≡◌, sym, subst, ◌∙◌}
use mathlib.Core.Logic.{⊎_elim}
use mathlib.Core.List.{List}
use Prim.Native.Nat.{ℕ, ◌+◌, ◌<◌, ◌≤◌}
use native.Mathlib.Nat.{eq-or-lt_of_le}
use native.Mathlib.Omega.{arith}
use native.Mathlib.Decide.{ℕ_discrete}
use lib.ListN.{length, get_or, set, length-set}
use lib.Seq.{get_or-set_same, get_or-set_other}
use Rattle.buckets.specs.Chain.{Last, Index, inserted}

-- nothing is in any bucket
pub empty : (b : ℕ → ℕ) (base n : ℕ) (index : List ℕ) → 0 < base → n + base ≤ length index → ((h : ℕ) → get_or index h 0 ≡ 0) → Index b base n base index
empty b base n index p q z = record {
  some = p;
  room = q;
  at_head = λ h lt. record {
    below = omega (arith, z h);
    own = λ u. absurd (omega (arith, z h));
    gap = λ k u v w e. omega arith;
  };
  at_next = λ k u v. absurd (omega arith);
}

-- the buckets below m are the same
last_same : (b b' : ℕ → ℕ) (base h m r : ℕ) → ((k : ℕ) → base ≤ k → k < m → b k ≡ b' k) → Last b base h m r → Last b' base h m r
last_same b b' base h m r s l = record {
  below = l.below;
  own = λ u. ((l.own u).0, sym (s r (l.own u).0 l.below) ∙ (l.own u).1);
  gap = λ k u v w e. l.gap k u v w (s k v w ∙ e);
}

pub same : (b b' : ℕ → ℕ) (base n m : ℕ) (index : List ℕ) → ((k : ℕ) → base ≤ k → k < m → b k ≡ b' k) → Index b base n m index → Index b' base n m index
same b b' base n m index s i = record {
  some = i.some;
  room = i.room;
  at_head = λ h lt. last_same b b' base h m (get_or index h 0) s (i.at_head h lt);
  at_next = λ k u v. last_same b b' base (b' k) k (get_or index (n + k) 0) (λ j p q. s j p (omega arith))
      (subst (λ (x : ℕ). Last b base x k (get_or index (n + k) 0)) (s k u v) (i.at_next k u v));
}

-- m goes into bucket h: it is the last there, and no other bucket's last changes
last_new : (b : ℕ → ℕ) (base h m : ℕ) → 0 < m → base ≤ m → b m ≡ h → Last b base h (m + 1) m
last_new b base h m z p e = record {
  below = omega arith;
  own = λ u. (p, e);
  gap = λ k u v w x. omega arith;
}

last_old : (b : ℕ → ℕ) (base h m r : ℕ) → (b m ≡ h → ⊥) → Last b base h m r → Last b base h (m + 1) r
last_old b base h m r f l = record {
  below = omega (arith, l.below);
  own = l.own;
  gap = λ k u v w x. ⊎_elim (λ e. f (subst (λ (j : ℕ). b j ≡ h) e x)) (λ lt. l.gap k u v lt x) (eq-or-lt_of_le (le k m w));
}
  where
    le : (k m : ℕ) → k < m + 1 → k ≤ m
    le k m w = omega arith

pub more : (b : ℕ → ℕ) (base n m h : ℕ) (index : List ℕ) → base ≤ m → n + m < length index → h < n → b m ≡ h → Index b base n m index
    → Index b base n (m + 1) (inserted n h m index)
more b base n m h index p q lt e i = record {
  some = omega (arith, i.some);
  room = simp length-set (omega arith);
  at_head = λ j l. at j l (ℕ_discrete j h);
  at_next = λ k u v. next-at k u v (ℕ_discrete k m);
}
  where
    linked : List ℕ
    linked = set index (n + m) (get_or index h 0)

    -- the links are not the heads
    apart : (j k : ℕ) → j < n → j ≡ n + k → ⊥
    apart j k l x = omega arith

    at : (j : ℕ) → j < n → Dec (j ≡ h) → Last b base j (m + 1) (get_or (inserted n h m index) j 0)
    at j l (yes x) = rw (x, get_or-set_same linked h m 0 (simp length-set (omega arith))) (last_new b base h m i.some p e)
    at j l (no f) =
        rw (get_or-set_other linked h j m 0 f, get_or-set_other index (n + m) j (get_or index h 0) 0 (apart j m l))
        (last_old b base j m (get_or index j 0) (λ y. f (sym y ∙ e)) (i.at_head j l))

    link : (k : ℕ) → get_or (inserted n h m index) (n + k) 0 ≡ get_or linked (n + k) 0
    link k = get_or-set_other linked h (n + k) m 0 (λ x. apart h k lt (sym x))

    next-at : (k : ℕ) → base ≤ k → k < m + 1 → Dec (k ≡ m) → Last b base (b k) k (get_or (inserted n h m index) (n + k) 0)
    next-at k u v (yes x) = rw (link k, x, e, get_or-set_same index (n + m) (get_or index h 0) 0 q) (i.at_head h lt)
    next-at k u v (no f) = rw (link k, get_or-set_other index (n + m) (n + k) (get_or index h 0) 0 (λ x. f (omega arith))) (i.at_next k u (omega arith))
