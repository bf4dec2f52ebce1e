-- THEOREM: what document 01 says of the kiosk's list: a number of nodes above its length or 65534, or a triple past that number that is not all 0,
-- is not sound. Assumes nothing.
use mathlib.Core.Path.{◌≡◌, refl, sym, ap, ◌∙◌}
use mathlib.Core.Bool.{false}
use mathlib.Core.List.{List, [], ◌∷◌}
use Prim.Native.Nat.{ℕ, zero, suc, ◌+◌, ◌*◌, ◌≤◌, ◌<◌}
use native.Mathlib.Nat.{not-suc-le-zero, le_of_suc-le-suc}
use native.Mathlib.Omega.{arith}
use lib.ListN.{length, get_or}
use Rattle.base.proofs.Bools.{is_false}
use Rattle.zdd.specs.Table.{Node, blank, node, soundb}
use Rattle.zdd.proofs.Tested.{sound_of}
use Rattle.statement.specs.Kiosk.{words_of, table_of}

words_length : (ns : List Node) → length (words_of ns) ≡ 3 * length ns
unfolding words_of
words_length [] = omega arith
words_length (x ∷ ns) = omega (arith, words_length ns)

-- the three words of the triple at index i
words_at : (ns : List Node) (i a : ℕ) → i < length ns → a ≡ 3 * i
    → (get_or (words_of ns) a 0 ≡ (get_or ns i blank).label) × (get_or (words_of ns) (a + 1) 0 ≡ (get_or ns i blank).lo) × (get_or (words_of ns) (a + 2) 0 ≡ (get_or ns i blank).hi)
unfolding words_of
words_at [] i a h e = absurd (not-suc-le-zero h)
words_at (x ∷ ns) zero a h e = (at a 0 (omega arith), at (a + 1) 1 (omega arith), at (a + 2) 2 (omega arith))
  where
    at : (b k : ℕ) → b ≡ k → get_or (words_of (x ∷ ns)) b 0 ≡ get_or (words_of (x ∷ ns)) k 0
    at b k q = ap (λ (j : ℕ). get_or (words_of (x ∷ ns)) j 0) q
words_at (x ∷ ns) (suc i) a h e =
    let r = words_at ns i (3 * i) (le_of_suc-le-suc h) refl in
    (at a (3 * i) (omega arith) ∙ r.0, at (a + 1) (3 * i + 1) (omega arith) ∙ r.1, at (a + 2) (3 * i + 2) (omega arith) ∙ r.2)
  where
    at : (b k : ℕ) → b ≡ suc (suc (suc k)) → get_or (words_of (x ∷ ns)) b 0 ≡ get_or (words_of ns) k 0
    at b k q = ap (λ (j : ℕ). get_or (words_of (x ∷ ns)) j 0) q

pub too_many : (K : List ℕ) (n : ℕ) (ns : List Node) → length ns < n → soundb K (table_of n ns) ≡ false
too_many K n ns l = is_false (soundb K (table_of n ns)) (λ e. let s = sound_of K (table_of n ns) e in omega (arith, s.room, words_length ns))

pub over_limit : (K : List ℕ) (n : ℕ) (ns : List Node) → 65534 < n → soundb K (table_of n ns) ≡ false
over_limit K n ns l = is_false (soundb K (table_of n ns)) (λ e. let s = sound_of K (table_of n ns) e in omega (arith, s.few))

pub triple_left : (K : List ℕ) (n : ℕ) (ns : List Node) (i : ℕ) → n ≤ i → i < length ns → (get_or ns i blank ≡ blank → ⊥) → soundb K (table_of n ns) ≡ false
triple_left K n ns i l h d =
    is_false (soundb K (table_of n ns)) (λ e.
    let s = sound_of K (table_of n ns) e in
    let r = words_at ns i (3 * i) h refl in
    let p = sym r.0 ∙ s.rest (suc (3 * i)) (omega arith) in
    let q = sym r.1 ∙ s.rest (suc (3 * i + 1)) (omega arith) in
    let w = sym r.2 ∙ s.rest (suc (3 * i + 2)) (omega arith) in
    d (λ x. node (p x) (q x) (w x)))
