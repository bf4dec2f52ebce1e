-- Facts about sets, one time each, over a list of words of any length: `value_of ws` is the set that the words ws are, lowest first. The functions of
-- src/ cite them at a list of three. Assumes nothing.
use mathlib.Core.Path.{◌≡◌, refl, sym, ap, ◌∙◌}
use mathlib.Core.Bool.{Bool, true, ◌&&◌, and_comm}
use mathlib.Core.List.{List, [], ◌∷◌}
use Prim.Native.Nat.{ℕ, zero, suc, ◌+◌, ◌-◌, ◌*◌, ◌/◌, ◌%◌, ◌^◌, ◌≤◌, ◌<◌, min, zero-le}
use mathlib.Core.Logic.{⊎_elim}
use native.Mathlib.Nat.{zero-add, eq-zero-or-pos, zero-lt-suc, min-eq_left, min-eq_right}
use native.Mathlib.Omega.{arith}
use lib.Dec.{eqb, ltb}
use lib.ListN.{length, get_or, replicate}
use lib.Bits.{bit_and, and_block}
use lib.Pow.{pow_pos, pow-add, pow_mono}
use borrow.Author.Tests.{ltb-true, ltb-false}
use Rattle.base.proofs.Bools.{never, same_test, by_test, and_left, and_right, and_both, eqb_same}
use Rattle.itemset.specs.Items.{holds, insideb, without, union, apartb, belowb, size, lowest}
use Rattle.itemset.specs.Words.{width, value_of}
use Rattle.itemset.proofs.Laws.{holds-none, inside_refl, without_self, union-none, holds-apart, below_lt, lt_below, size-zero}
use Rattle.itemset.proofs.Words.{holds-low, holds_high, eqb_cat, inside_cat, without_cat, union_cat, apart_cat, size_cat, lowest-low, lowest_high}

pub width_is : width ≡ 192
unfolding width
width_is = refl

-- ---- words of 64 bits, and two lists of as many

pub data Words : List ℕ → Type 0 where
  none : Words []
  word : {w : ℕ} {ws : List ℕ} → w < 2 ^ 64 → Words ws → Words (w ∷ ws)

pub data Pairs : List ℕ → List ℕ → Type 0 where
  end : Pairs [] []
  pair : {v w : ℕ} {vs ws : List ℕ} → v < 2 ^ 64 → w < 2 ^ 64 → Pairs vs ws → Pairs (v ∷ vs) (w ∷ ws)

-- one more word
pub value-cons : (w : ℕ) (ws : List ℕ) → value_of (w ∷ ws) ≡ value_of ws * 2 ^ 64 + w
unfolding value_of
value-cons w ws = refl

pub value_none : value_of [] ≡ 0
unfolding value_of
value_none = refl

-- where the lowest word is 0, an item is in the others
pub value-next : (w : ℕ) (ws : List ℕ) → w ≡ 0 → 0 < value_of (w ∷ ws) → 0 < value_of ws
unfolding value_of
value-next w ws e h = omega arith

-- where the other words have no item, the lowest word is the value
pub value-first : (w : ℕ) (ws : List ℕ) → value_of ws ≡ 0 → value_of (w ∷ ws) ≡ w
unfolding value_of
value-first w ws e = omega arith

pub value_one : (w : ℕ) → value_of (w ∷ []) ≡ w
value_one w = value-first w [] value_none

-- n words are below 2 ^ (64 n)
pub value_lt : {ws : List ℕ} → Words ws → value_of ws < 2 ^ (64 * length ws)
unfolding value_of
value_lt none = zero-lt-suc 0
value_lt (word {w} {ws} h r) =
    omega (arith, value_lt r, pow-add 2 (64 * length ws) 64, ap (λ (n : ℕ). 2 ^ n) (more (length ws)))
  where
    more : (n : ℕ) → 64 * suc n ≡ 64 * n + 64
    more n = omega arith

-- ---- tests of two sets, word by word, lowest first

unfoldable pub every : (ℕ → ℕ → Bool) → List ℕ → List ℕ → Bool
every f [] ws = true
every f (v ∷ vs) [] = true
every f (v ∷ vs) (w ∷ ws) = f v w && every f vs ws

-- a test that goes block by block goes word by word
pub every_words : (f : ℕ → ℕ → Bool) → f 0 0 ≡ true
    → ((p q a b : ℕ) → q < 2 ^ 64 → b < 2 ^ 64 → f (p * 2 ^ 64 + q) (a * 2 ^ 64 + b) ≡ f p a && f q b)
    → {vs ws : List ℕ} → Pairs vs ws → f (value_of vs) (value_of ws) ≡ every f vs ws
unfolding value_of every
every_words f z s end = z
every_words f z s (pair {v} {w} {vs} {ws} hv hw r) =
    s (value_of vs) v (value_of ws) w hv hw
    ∙ and_comm (f (value_of vs) (value_of ws)) (f v w)
    ∙ ap (λ (b : Bool). f v w && b) (every_words f z s r)

pub inside_words : {ps qs : List ℕ} → Pairs ps qs → insideb (value_of ps) (value_of qs) ≡ every insideb ps qs
inside_words r = every_words insideb (inside_refl 0) (λ p q a b. inside_cat 64 p q a b) r

pub same_words : {vs ws : List ℕ} → Pairs vs ws → eqb (value_of vs) (value_of ws) ≡ every eqb vs ws
same_words r = every_words eqb (eqb_same 0) (λ p q a b. eqb_cat 64 p q a b) r

pub apart_words : {vs ws : List ℕ} → Pairs vs ws → apartb (value_of vs) (value_of ws) ≡ every apartb vs ws
apart_words r = every_words apartb (holds-apart 0 0 (λ i s t. never s (holds-none i))) (λ p q a b. apart_cat 64 p q a b) r

-- ---- the difference and the union, word by word

unfoldable pub zip : (ℕ → ℕ → ℕ) → List ℕ → List ℕ → List ℕ
zip f [] ws = []
zip f (v ∷ vs) [] = []
zip f (v ∷ vs) (w ∷ ws) = f v w ∷ zip f vs ws

-- what goes block by block goes word by word
zip_words : (f : ℕ → ℕ → ℕ) → f 0 0 ≡ 0
    → ((a b p q : ℕ) → b < 2 ^ 64 → q < 2 ^ 64 → f (a * 2 ^ 64 + b) (p * 2 ^ 64 + q) ≡ f a p * 2 ^ 64 + f b q)
    → {vs ws : List ℕ} → Pairs vs ws → f (value_of vs) (value_of ws) ≡ value_of (zip f vs ws)
unfolding value_of zip
zip_words f z s end = z
zip_words f z s (pair {v} {w} {vs} {ws} hv hw r) =
    s (value_of vs) v (value_of ws) w hv hw ∙ ap (λ (n : ℕ). n * 2 ^ 64 + f v w) (zip_words f z s r)

pub without_words : {qs ps : List ℕ} → Pairs qs ps → without (value_of qs) (value_of ps) ≡ value_of (zip without qs ps)
without_words r = zip_words without (without_self 0) (λ a b p q. without_cat 64 a b p q) r

pub both_words : {vs ws : List ℕ} → Pairs vs ws → bit_and (value_of vs) (value_of ws) ≡ value_of (zip bit_and vs ws)
both_words r = zip_words bit_and refl (λ a b p q hb hq. and_block 64 a p b q hb hq) r

pub union_words : {vs ws : List ℕ} → Pairs vs ws → union (value_of vs) (value_of ws) ≡ value_of (zip union vs ws)
union_words r = zip_words union (union-none 0) (λ a b p q. union_cat 64 a b p q) r

-- ---- the set of one item: its word has one bit, and those below and above are 0

pub single_here : (i n : ℕ) → value_of (2 ^ i ∷ replicate n 0) ≡ 2 ^ i
single_here i n = value-first (2 ^ i) (replicate n 0) (zero_words n)
  where
    zero_words : (n : ℕ) → value_of (replicate n 0) ≡ 0
    zero_words zero = value_none
    zero_words (suc n) = value-first 0 (replicate n 0) (zero_words n)

pub single-next : (i j : ℕ) (ws : List ℕ) → i ≡ 64 + j → value_of ws ≡ 2 ^ j → value_of (0 ∷ ws) ≡ 2 ^ i
unfolding value_of
single-next i j ws e h = omega (arith, pow-add 2 64 j, ap (λ (k : ℕ). 2 ^ k) e)

-- ---- item i is bit i % 64 of word i / 64

pub holds_at : {ws : List ℕ} → Words ws → (j i : ℕ) → i < 64 → holds (64 * j + i) (value_of ws) ≡ holds i (get_or ws j 0)
unfolding value_of
holds_at none j i h = holds-none (64 * j + i) ∙ sym (holds-none i)
holds_at (word {w} {ws} l r) zero i h =
    ap (λ (n : ℕ). holds n (value_of ws * 2 ^ 64 + w)) (zero-add i) ∙ holds-low 64 i (value_of ws) w h
holds_at (word {w} {ws} l r) (suc j) i h =
    ap (λ (n : ℕ). holds n (value_of ws * 2 ^ 64 + w)) (more j)
    ∙ holds_high 64 (64 * j + i) (value_of ws) w l ∙ holds_at r j i h
  where
    more : (j : ℕ) → 64 * suc j + i ≡ 64 + (64 * j + i)
    more j = omega arith

pub holds_words : {ws : List ℕ} → Words ws → (i : ℕ) → holds i (value_of ws) ≡ holds (i % 64) (get_or ws (i / 64) 0)
holds_words {ws} r i =
    ap (λ (n : ℕ). holds n (value_of ws)) (parts i) ∙ holds_at r (i / 64) (i % 64) (omega arith)
  where
    parts : (i : ℕ) → i ≡ 64 * (i / 64) + i % 64
    parts i = omega arith

-- ---- the lowest item is that of the first word that has one

unfoldable pub lowest_words : List ℕ → ℕ
lowest_words [] = zero
lowest_words (zero ∷ ws) = 64 + lowest_words ws
lowest_words (suc w ∷ ws) = lowest (suc w)

pub lowest_here : (w : ℕ) (ws : List ℕ) → 0 < w → lowest_words (w ∷ ws) ≡ lowest w
unfolding lowest_words
lowest_here zero ws h = absurd (omega arith)
lowest_here (suc w) ws h = refl

pub lowest-next : (w : ℕ) (ws : List ℕ) → w ≡ 0 → lowest_words (w ∷ ws) ≡ 64 + lowest_words ws
unfolding lowest_words
lowest-next zero ws h = refl
lowest-next (suc w) ws h = absurd (omega arith)

pub lowest_words_lem : {ws : List ℕ} → Words ws → 0 < value_of ws → lowest (value_of ws) ≡ lowest_words ws
unfolding value_of lowest_words
lowest_words_lem none p = absurd (omega arith)
lowest_words_lem (word {w} {ws} h r) p =
    ⊎_elim
    (λ (e : w ≡ 0). let l : 0 < value_of ws = value-next w ws e p in
    lowest_high 64 (value_of ws) w l e ∙ ap (λ (n : ℕ). 64 + n) (lowest_words_lem r l) ∙ sym (lowest-next w ws e))
    (λ (l : 0 < w). lowest-low 64 (value_of ws) w l h ∙ sym (lowest_here w ws l))
    (eq-zero-or-pos w)

-- ---- below m: each word below what is left of m

unfoldable pub below_words : List ℕ → ℕ → Bool
below_words [] m = true
below_words (w ∷ ws) m = belowb w m && below_words ws (m - 64)

below_cat : (m hi lo : ℕ) → lo < 2 ^ 64 → belowb (hi * 2 ^ 64 + lo) m ≡ belowb lo m && belowb hi (m - 64)
below_cat m hi lo h =
    same_test (belowb (hi * 2 ^ 64 + lo) m) (belowb lo m && belowb hi (m - 64))
    (λ t. let l = below_lt (hi * 2 ^ 64 + lo) m t in
    and_both (belowb lo m) (belowb hi (m - 64)) (lt_below lo m (omega arith)) (lt_below hi (m - 64) (there l)))
    (λ t. lt_below (hi * 2 ^ 64 + lo) m
    (back (below_lt lo m (and_left (belowb lo m) (belowb hi (m - 64)) t)) (below_lt hi (m - 64) (and_right (belowb lo m) (belowb hi (m - 64)) t))))
  where
    few : m ≤ 64 → m - 64 ≡ 0
    few u = omega arith

    many : 64 ≤ m → 2 ^ m ≡ 2 ^ (m - 64) * 2 ^ 64
    many u = ap (λ (n : ℕ). 2 ^ n) (put u) ∙ pow-add 2 (m - 64) 64
      where
        put : 64 ≤ m → m ≡ m - 64 + 64
        put u = omega arith

    there : hi * 2 ^ 64 + lo < 2 ^ m → hi < 2 ^ (m - 64)
    there l = by_test (ltb m 64)
        (λ t. let u : m ≤ 64 = omega (arith, ltb-true m 64 t) in omega (arith, pow_mono u, pow_pos (m - 64)))
        (λ f. omega (arith, many (ltb-false m 64 f)))

    back : lo < 2 ^ m → hi < 2 ^ (m - 64) → hi * 2 ^ 64 + lo < 2 ^ m
    back a b = by_test (ltb m 64)
        (λ t. let u : m ≤ 64 = omega (arith, ltb-true m 64 t) in omega (arith, ap (λ (n : ℕ). 2 ^ n) (few u)))
        (λ f. omega (arith, many (ltb-false m 64 f)))

pub below_words_lem : {ws : List ℕ} → Words ws → (m : ℕ) → belowb (value_of ws) m ≡ below_words ws m
unfolding value_of below_words
below_words_lem none m = lt_below 0 m (pow_pos m)
below_words_lem (word {w} {ws} h r) m =
    below_cat m (value_of ws) w h ∙ ap (λ (b : Bool). belowb w m && b) (below_words_lem r (m - 64))

-- ---- the size is the sum of the words'

unfoldable pub size_words : List ℕ → ℕ
size_words [] = zero
size_words (w ∷ ws) = size w + size_words ws

pub size_words_lem : {ws : List ℕ} → Words ws → size (value_of ws) ≡ size_words ws
unfolding value_of size_words
size_words_lem none = size-zero
size_words_lem (word {w} {ws} h r) = omega (arith, size_cat 64 (value_of ws) w h, size_words_lem r)

-- ---- all items below m: each word up to what is left of m

unfoldable pub all_words : ℕ → ℕ → List ℕ
all_words zero m = []
all_words (suc n) m = (2 ^ min m 64 - 1) ∷ all_words n (m - 64)

pub all_words_lem : (n m : ℕ) → value_of (all_words n m) ≡ 2 ^ min m (64 * n) - 1
unfolding value_of all_words
all_words_lem zero m = ap (λ (k : ℕ). 2 ^ k - 1) (sym (min-eq_right zero-le))
all_words_lem (suc n) m =
    by_test (ltb m 64) (λ t. within (all_words_lem n (m - 64)) (omega (arith, ltb-true m 64 t))) (λ f. beyond (all_words_lem n (m - 64)) (ltb-false m 64 f))
  where
    within : value_of (all_words n (m - 64)) ≡ 2 ^ min (m - 64) (64 * n) - 1 → m ≤ 64
        → value_of (all_words n (m - 64)) * 2 ^ 64 + (2 ^ min m 64 - 1) ≡ 2 ^ min m (64 * suc n) - 1
    within ih u = rw (min-eq_left u, whole) (omega (arith, ih, ap (λ (k : ℕ). 2 ^ k) none_left))
      where
        whole : min m (64 * suc n) ≡ m
        whole = min-eq_left (omega arith)

        none_left : min (m - 64) (64 * n) ≡ 0
        none_left = omega arith

    beyond : value_of (all_words n (m - 64)) ≡ 2 ^ min (m - 64) (64 * n) - 1 → 64 ≤ m
        → value_of (all_words n (m - 64)) * 2 ^ 64 + (2 ^ min m 64 - 1) ≡ 2 ^ min m (64 * suc n) - 1
    beyond ih u =
        rw (min-eq_right u)
        (omega (arith, ih, pow-add 2 (min (m - 64) (64 * n)) 64, ap (λ (k : ℕ). 2 ^ k) more, pow_pos (min (m - 64) (64 * n))))
      where
        more : min m (64 * suc n) ≡ min (m - 64) (64 * n) + 64
        more = omega arith
