-- Sets in a list of words: read from it, written to it, and one after the other. Assumes nothing.
use mathlib.Core.Path.{◌≡◌, refl, sym, ap, ap₂, ◌∙◌}
use mathlib.Core.List.{List, [], ◌∷◌, ◌++◌, append_assoc, append-nil}
use mathlib.Core.Logic.{◌⊎◌, inl, inr, ⊎_elim}
use Prim.Native.Nat.{ℕ, zero, suc, ◌+◌, ◌*◌, ◌/◌, ◌^◌, ◌≤◌, ◌<◌, suc-le-suc}
use native.Mathlib.Nat.{le_of_suc-le-suc, not-suc-le-zero, zero-lt-suc, mul-zero, mul-suc, mod-eq_of_lt}
use native.Mathlib.Omega.{arith}
use lib.ListN.{length, get_or, take, drop, set, length-set, length-append}
use lib.Pow.{pow-add}
use lib.Seq.{take_all, drop-cons, drop-drop, take_at, drop_at, sets, length-sets, get_or-set_same, get_or-set_other}
use Rattle.itemset.specs.Words.{width, value_of, sets_in, sets_of, words_in, spread}

-- one word more
pub take_next : (n a : ℕ) (ws : List ℕ) → a < length ws → take (suc n) (drop a ws) ≡ get_or ws a 0 ∷ take n (drop (suc a) ws)
take_next n a ws h = ap (λ (l : List ℕ). take (suc n) l) (drop-cons ws a 0 h)

-- the n words from a on, as code reads them
unfoldable pub words_from : ℕ → ℕ → List ℕ → List ℕ
words_from zero a ws = []
words_from (suc n) a ws = get_or ws a 0 ∷ words_from n (suc a) ws

pub words_from_lem : (n a : ℕ) (ws : List ℕ) → a + n ≤ length ws → words_from n a ws ≡ take n (drop a ws)
unfolding words_from
words_from_lem zero a ws h = refl
words_from_lem (suc n) a ws h =
    ap (λ (l : List ℕ). get_or ws a 0 ∷ l) (words_from_lem n (suc a) ws (omega arith)) ∙ sym (take_next n a ws (omega arith))

-- and they depend on nothing else
pub from_same : (n a : ℕ) (ws vs : List ℕ) → ((i : ℕ) → a ≤ i → i < a + n → get_or ws i 0 ≡ get_or vs i 0) → words_from n a ws ≡ words_from n a vs
unfolding words_from
from_same zero a ws vs h = refl
from_same (suc n) a ws vs h =
    ap₂ ◌∷◌ (h a (omega arith) (omega arith)) (from_same n (suc a) ws vs (λ i l m. h i (omega arith) (omega arith)))

pub take_same : (n a : ℕ) (ws vs : List ℕ) → length ws ≡ length vs → a + n ≤ length ws
    → ((i : ℕ) → a ≤ i → i < a + n → get_or ws i 0 ≡ get_or vs i 0) → take n (drop a ws) ≡ take n (drop a vs)
take_same n a ws vs e l h = sym (words_from_lem n a ws l) ∙ from_same n a ws vs h ∙ words_from_lem n a vs (omega arith)

-- ---- sets one after the other

pub length-sets_in : (n c : ℕ) (ws : List ℕ) → length (sets_in n c ws) ≡ c
unfolding sets_in
length-sets_in n zero ws = refl
length-sets_in n (suc c) ws = ap suc (length-sets_in n c (drop n ws))

-- set k has the words from n k on
pub sets_in-at : (n c k : ℕ) (ws : List ℕ) → k < c → get_or (sets_in n c ws) k 0 ≡ value_of (take n (drop (n * k) ws))
unfolding sets_in
sets_in-at n zero k ws h = absurd (not-suc-le-zero h)
sets_in-at n (suc c) zero ws h = ap (λ (m : ℕ). value_of (take n (drop m ws))) (sym (mul-zero n))
sets_in-at n (suc c) (suc k) ws h =
    sets_in-at n c k (drop n ws) (le_of_suc-le-suc h)
    ∙ ap (λ (l : List ℕ). value_of (take n l)) (drop-drop (n * k) n ws ∙ ap (λ (m : ℕ). drop m ws) turn)
  where
    turn : n + n * k ≡ n * suc k
    turn = omega (arith, mul-suc n k)

-- the packages
pub length-sets_of : (ws : List ℕ) → length (sets_of ws) ≡ length ws / 3
unfolding sets_of
length-sets_of ws = length-sets_in 3 (length ws / 3) ws

pub sets_of-at : (ws : List ℕ) (k : ℕ) → k < length ws / 3 → get_or (sets_of ws) k 0 ≡ value_of (take 3 (drop (3 * k) ws))
unfolding sets_of
sets_of-at ws k h = sets_in-at 3 (length ws / 3) k ws h

-- ---- a set that is written is read again, and no other word changes

pub sets_other : (vs ws : List ℕ) (a i : ℕ) → (i < a) ⊎ (a + length vs ≤ i) → get_or (sets ws a vs) i 0 ≡ get_or ws i 0
sets_other [] ws a i h = refl
sets_other (v ∷ vs) ws a i h =
    sets_other vs (set ws a v) (suc a) i (⊎_elim (λ l. inl (omega arith)) (λ l. inr (omega arith)) h)
    ∙ get_or-set_other ws a i v 0 (λ e. ⊎_elim {C = ⊥} (λ l. omega arith) (λ l. omega arith) h)

pub sets-read : (vs ws : List ℕ) (a : ℕ) → a + length vs ≤ length ws → take (length vs) (drop a (sets ws a vs)) ≡ vs
sets-read [] ws a h = refl
sets-read (v ∷ vs) ws a h =
    take_next (length vs) a (sets (set ws a v) (suc a) vs) (omega (arith, length-sets (set ws a v) (suc a) vs, length-set ws a v))
    ∙ ap₂ ◌∷◌
    (sets_other vs (set ws a v) (suc a) a (inl (omega arith)) ∙ get_or-set_same ws a v 0 (omega arith))
    (sets-read vs (set ws a v) (suc a) (omega (arith, length-set ws a v)))

-- ---- the words of sets, and the sets of the words again

pub length-words_in : (n x : ℕ) → length (words_in n x) ≡ n
unfolding words_in
length-words_in zero x = refl
length-words_in (suc n) x = ap suc (length-words_in n (x / 2 ^ 64))

pub value-words_in : (n x : ℕ) → x < 2 ^ (64 * n) → value_of (words_in n x) ≡ x
unfolding words_in value_of
value-words_in zero x h = omega arith
value-words_in (suc n) x h =
    omega (arith, value-words_in n (x / 2 ^ 64) (omega (arith, pow-add 2 (64 * n) 64, ap (λ (k : ℕ). 2 ^ k) (more n))))
  where
    more : (n : ℕ) → 64 * suc n ≡ 64 * n + 64
    more n = omega arith

pub length-spread : (n : ℕ) (xs : List ℕ) → length (spread n xs) ≡ n * length xs
unfolding spread
length-spread n [] = sym (mul-zero n)
length-spread n (x ∷ xs) = omega (arith, length-append (words_in n x) (spread n xs), length-words_in n x, length-spread n xs, mul-suc n (length xs))

pub sets-spread : (n : ℕ) (xs : List ℕ) → ((k : ℕ) → k < length xs → get_or xs k 0 < 2 ^ (64 * n)) → sets_in n (length xs) (spread n xs) ≡ xs
unfolding sets_in spread
sets-spread n [] h = refl
sets-spread n (x ∷ xs) h =
    ap₂ ◌∷◌
    (ap value_of (take_at (words_in n x) (spread n xs) n (length-words_in n x)) ∙ value-words_in n x (h 0 (zero-lt-suc (length xs))))
    (ap (sets_in n (length xs)) (drop_at (words_in n x) (spread n xs) n (length-words_in n x)) ∙ sets-spread n xs (λ k l. h (suc k) (suc-le-suc l)))

-- sets of at most three words each, as they are lent
pub sets_of-spread : (xs : List ℕ) → ((k : ℕ) → k < length xs → get_or xs k 0 < 2 ^ width) → sets_of (spread 3 xs) ≡ xs
unfolding sets_of width
sets_of-spread xs h =
    let e : length (spread 3 xs) / 3 ≡ length xs = omega (arith, length-spread 3 xs) in
    rw e (sets-spread 3 xs h)

-- one set more, behind the others
pub spread-more : (n x : ℕ) (xs : List ℕ) → spread n (xs ++ (x ∷ [])) ≡ spread n xs ++ words_in n x
unfolding spread
spread-more n x [] = append-nil (words_in n x)
spread-more n x (y ∷ xs) =
    ap (λ (l : List ℕ). words_in n y ++ l) (spread-more n x xs) ∙ sym (append_assoc (words_in n y) (spread n xs) (words_in n x))

-- a set of one word
pub words_one : (x : ℕ) → x < 2 ^ 64 → words_in 3 x ≡ x ∷ 0 ∷ 0 ∷ []
unfolding words_in
words_one x h =
    let e : x / 2 ^ 64 ≡ 0 = omega arith in
    rw (mod-eq_of_lt h, e)

-- three words, read from the first
pub whole_set : (ds : List ℕ) → length ds ≡ 3 → value_of (take 3 (drop 0 ds)) ≡ value_of ds
whole_set ds l = ap value_of (take_all 3 ds (omega arith))
