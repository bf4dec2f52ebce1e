-- The memory of results: mixing is one to one, place and tag tell the mixed pair, and a store changes one place. Assumes nothing.
use mathlib.Core.Path.{◌≡◌, refl, sym, ap, ◌∙◌}
use mathlib.Core.Logic.{◌⊎◌, inl, inr}
use mathlib.Core.List.{List}
use Prim.Native.Nat.{ℕ, zero, suc, ◌+◌, ◌-◌, ◌*◌, ◌/◌, ◌%◌, ◌<◌, ◌≤◌}
use native.Mathlib.Nat.{add-mul, mul-le-mul_right, add-mul-mod_self_left}
use native.Mathlib.Omega.{arith}
use native.Mathlib.Decide.{dec_lt, ℕ_discrete}
use lib.ListN.{length, get_or, set, length-set}
use lib.Seq.{get_or-set_same, get_or-set_other}
use Rattle.std.proofs.Common.{Some}
use Rattle.family.specs.Memo.{mixed, chosen, half, replaced, entry_at, place_of, tagged, Recalled, Noted}

-- ---- a pair is told by its place and its tag

pub mixed-small : (k : ℕ) → mixed k < 4294967296
unfolding mixed
mixed-small k = omega arith

-- multiplied by the inverse of the odd number the mixed pair is the pair
unmixed : (k : ℕ) → k < 4294967296 → mixed k * 3347000305 % 4294967296 ≡ k
unfolding mixed
unmixed k h =
    let q : ℕ = k * 4021839121 / 4294967296 in
    let z : mixed k * 3347000305 + 4294967296 * (q * 3347000305) ≡ k + 4294967296 * (3134155824 * k) = omega arith in
    sym (add-mul-mod_self_left (mixed k * 3347000305) 4294967296 (q * 3347000305)) ∙ ap (λ (x : ℕ). x % 4294967296) z
    ∙ add-mul-mod_self_left k 4294967296 (3134155824 * k) ∙ omega arith

pub mixed-once : (k j : ℕ) → k < 4294967296 → j < 4294967296 → mixed k ≡ mixed j → k ≡ j
mixed-once k j a b e = sym (unmixed k a) ∙ ap (λ (x : ℕ). x * 3347000305 % 4294967296) e ∙ unmixed j b

-- the word of a place is one of the words
pub place-word : (words k at : ℕ) → at ≡ place_of words k → k < 4294967296 → 0 < words → at / 2 < words
unfolding place_of
place-word words k at e h p =
    let m : k * (2 * words) ≤ 4294967295 * (2 * words) = mul-le-mul_right (2 * words) (omega arith) in
    omega arith

-- with 65536 places or more, pairs of one tag have places in the order of the pairs
place_above : (words k j : ℕ) → 32768 ≤ words → k % 65536 ≡ j % 65536 → k < j → place_of words k < place_of words j
unfolding place_of
place_above words k j l e h =
    let z : k + 65536 ≤ j = omega arith in
    let m : (k + 65536) * (2 * words) ≤ j * (2 * words) = mul-le-mul_right (2 * words) z in
    omega (arith, add-mul k 65536 (2 * words))

pub place-once : (words k j : ℕ) → 32768 ≤ words → k % 65536 ≡ j % 65536 → place_of words k ≡ place_of words j → k ≡ j
place-once words k j l t e = go (dec_lt k j) (dec_lt j k)
  where
    go : Dec (k < j) → Dec (j < k) → k ≡ j
    go (yes h) w = absurd (omega (arith, place_above words k j l t h))
    go (no h) (yes w) = absurd (omega (arith, place_above words j k l (sym t) w))
    go (no h) (no w) = omega arith

-- ---- the halves of a word

half-zero : (p : ℕ) → half p 0 ≡ 0
half-zero zero = refl
half-zero (suc n) = refl

pub empty : (memo : List ℕ) → ((i : ℕ) → get_or memo i 0 ≡ 0) → (i : ℕ) → entry_at memo i ≡ 0
unfolding entry_at
empty memo z i = ap (half (i % 2)) (z (i / 2)) ∙ half-zero (i % 2)

pub chosen-small : (p : ℕ) {x y b : ℕ} → x < b → y < b → chosen p x y < b
chosen-small zero l m = l
chosen-small (suc n) l m = m

half_own : (p w e : ℕ) → e < 4294967296 → half p (replaced p w e) ≡ e
half_own zero w e h = omega arith
half_own (suc n) w e h = omega arith

half_other : (p q w e : ℕ) → p < 2 → q < 2 → (q ≡ p → ⊥) → e < 4294967296 → half q (replaced p w e) ≡ half q w
half_other zero zero w e a b f h = absurd (f refl)
half_other zero (suc q) w e a b f h = omega arith
half_other (suc p) zero w e a b f h = omega arith
half_other (suc p) (suc q) w e a b f h = absurd (f (omega arith))

-- ---- what is recalled

pub recalled_entry : (memo : List ℕ) (at k e r : ℕ) → e ≡ entry_at memo at → e / 65536 ≡ k % 65536 → (e % 65536 ≡ 0 → ⊥) → r ≡ e % 65536 - 1 → Recalled memo at k (Some r)
recalled_entry memo at k e r z t s q = (ap (λ (x : ℕ). x / 65536) (sym z) ∙ t, omega (arith, s), omega arith)

-- ---- a store

pub noted-none : (memo : List ℕ) (at k r : ℕ) → Noted memo at k r memo
noted-none memo at k r = record { same = refl; each = λ i. inl refl }

pub noted-store : (memo : List ℕ) (at k r : ℕ) {v : ℕ} → at / 2 < length memo → r < 65535 → v ≡ replaced (at % 2) (get_or memo (at / 2) 0) (tagged k r)
    → Noted memo at k r (set memo (at / 2) v)
unfolding entry_at
noted-store memo at k r {v} l h q = record { same = length-set memo (at / 2) v; each = λ i. go i (ℕ_discrete (i / 2) (at / 2)) (ℕ_discrete (i % 2) (at % 2)) }
  where
    small : tagged k r < 4294967296
    small = omega arith

    now : (i : ℕ) → i / 2 ≡ at / 2 → get_or (set memo (at / 2) v) (i / 2) 0 ≡ replaced (at % 2) (get_or memo (at / 2) 0) (tagged k r)
    now i e = ap (λ (j : ℕ). get_or (set memo (at / 2) v) j 0) e ∙ get_or-set_same memo (at / 2) v 0 l ∙ q

    go : (i : ℕ) → Dec (i / 2 ≡ at / 2) → Dec (i % 2 ≡ at % 2)
        → (half (i % 2) (get_or (set memo (at / 2) v) (i / 2) 0) ≡ half (i % 2) (get_or memo (i / 2) 0))
        ⊎ ((i ≡ at) × ((r < 65535) × (half (i % 2) (get_or (set memo (at / 2) v) (i / 2) 0) ≡ tagged k r)))
    go i (no f) p = inl (ap (half (i % 2)) (get_or-set_other memo (at / 2) (i / 2) v 0 f))
    go i (yes e) (no f) = inl
        (ap (half (i % 2)) (now i e) ∙ half_other (at % 2) (i % 2) (get_or memo (at / 2) 0) (tagged k r) (omega arith) (omega arith) f small
        ∙ ap (λ (j : ℕ). half (i % 2) (get_or memo j 0)) (sym e))
    go i (yes e) (yes p) = inr
        (omega arith, (h, ap (λ (j : ℕ). half j (get_or (set memo (at / 2) v) (i / 2) 0)) p ∙ ap (half (at % 2)) (now i e) ∙ half_own (at % 2) (get_or memo (at / 2) 0) (tagged k r) small))
