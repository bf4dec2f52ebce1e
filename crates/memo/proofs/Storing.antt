-- What a place tells, and what a store leaves. Assumes nothing.
use mathlib.Core.Path.{◌≡◌, refl, sym, ap, ap₂, ◌∙◌}
use mathlib.Core.Bool.{Bool, true, false}
use mathlib.Core.List.{List, [], ◌∷◌, ◌++◌}
use Prim.Native.Nat.{ℕ, ◌+◌, ◌*◌, ◌%◌, ◌^◌, ◌≤◌, ◌<◌}
use native.Mathlib.Nat.{mod-eq_of_lt}
use native.Mathlib.Numerals.{add-one}
use native.Mathlib.Omega.{arith}
use lib.Dec.{ltb}
use lib.ListN.{length, get_or, take, drop, set, length-set}
use lib.Seq.{get_or-set_same, get_or-set_other, get_or-take, take_at, length_front, length-take-le}
use borrow.Author.Tests.{lt-ltb, le-ltb}
use Rattle.base.specs.Words as Words
use Rattle.base.proofs.Wiping.{cleared_reads}
use Rattle.itemset.specs.Words.{value_of}
use Rattle.itemset.proofs.Lists.{value-cons}
use Rattle.itemset.proofs.Stored.{words_from, words_from_lem, take_same}
use Rattle.memo.specs.Memo.{high_at, key_at, number_at, Stored, Cleared}

-- ---- reading

pub high_none : (P : ℕ) (memo : List ℕ) (j : ℕ) → get_or memo (2 * j + 1) 0 < 4294967296 → high_at P memo j ≡ 0
unfolding high_at
high_none P memo j h =
    ap (λ (b : Bool). elim b [ true ↦ 0 | false ↦ value_of (take 2 (drop (2 * P + 2 * j) memo)) ]) (lt-ltb (get_or memo (2 * j + 1) 0) 4294967296 h)

pub high_some : (P : ℕ) (memo : List ℕ) (j : ℕ) → 4294967296 ≤ get_or memo (2 * j + 1) 0
    → high_at P memo j ≡ value_of (take 2 (drop (2 * P + 2 * j) memo))
unfolding high_at
high_some P memo j h =
    ap (λ (b : Bool). elim b [ true ↦ 0 | false ↦ value_of (take 2 (drop (2 * P + 2 * j) memo)) ]) (le-ltb (get_or memo (2 * j + 1) 0) 4294967296 h)

-- the key of a place whose words are known
pub key_is : (P : ℕ) (memo : List ℕ) (j w : ℕ) (ws : List ℕ) → get_or memo (2 * j) 0 ≡ w → high_at P memo j ≡ value_of ws → key_at P memo j ≡ value_of (w ∷ ws)
unfolding key_at
key_is P memo j w ws e h = ap₂ (λ (m n : ℕ). m * 2 ^ 64 + n) h e ∙ sym (value-cons w ws)

pub two_words : (ws : List ℕ) (a : ℕ) → words_from 2 a ws ≡ get_or ws a 0 ∷ get_or ws (a + 1) 0 ∷ []
unfolding words_from
two_words ws a = ap (λ (i : ℕ). get_or ws a 0 ∷ get_or ws i 0 ∷ []) (sym (add-one a))

pub zero_two : value_of (0 ∷ 0 ∷ []) ≡ 0
unfolding value_of
zero_two = refl

-- the key as it is read: without high words, and with them
pub key_low : (P : ℕ) (memo : List ℕ) (j : ℕ) → get_or memo (2 * j + 1) 0 < 4294967296 → value_of (get_or memo (2 * j) 0 ∷ 0 ∷ 0 ∷ []) ≡ key_at P memo j
key_low P memo j h = sym (key_is P memo j (get_or memo (2 * j) 0) (0 ∷ 0 ∷ []) refl (high_none P memo j h ∙ sym zero_two))

pub key_all : (P : ℕ) (memo : List ℕ) (j : ℕ) → 4 * P ≤ length memo → j < P → 4294967296 ≤ get_or memo (2 * j + 1) 0
    → value_of (get_or memo (2 * j) 0 ∷ get_or memo (2 * P + 2 * j) 0 ∷ get_or memo (2 * P + 2 * j + 1) 0 ∷ []) ≡ key_at P memo j
key_all P memo j l m h =
    sym (key_is P memo j (get_or memo (2 * j) 0) (get_or memo (2 * P + 2 * j) 0 ∷ get_or memo (2 * P + 2 * j + 1) 0 ∷ []) refl (high_some P memo j h ∙ ap value_of words))
  where
    words : take 2 (drop (2 * P + 2 * j) memo) ≡ get_or memo (2 * P + 2 * j) 0 ∷ get_or memo (2 * P + 2 * j + 1) 0 ∷ []
    words = sym (words_from_lem 2 (2 * P + 2 * j) memo (omega arith)) ∙ two_words memo (2 * P + 2 * j)

-- ---- writing

-- memo' is memo but for the words of place at
pub record Apart (P : ℕ) (memo : List ℕ) (at : ℕ) (memo' : List ℕ) : Type 0 where
  pub same : length memo' ≡ length memo
  pub low : (i : ℕ) → i < 2 * P → (i ≡ 2 * at → ⊥) → (i ≡ 2 * at + 1 → ⊥) → get_or memo' i 0 ≡ get_or memo i 0
  pub high : (i : ℕ) → 2 * P ≤ i → (i ≡ 2 * P + 2 * at → ⊥) → (i ≡ 2 * P + 2 * at + 1 → ⊥) → get_or memo' i 0 ≡ get_or memo i 0

module _ {P : ℕ} {memo : List ℕ} {at : ℕ} {memo' : List ℕ} (l : 4 * P ≤ length memo) (q : Apart P memo at memo') (j : ℕ) (m : j < P) (f : j ≡ at → ⊥) where
  tag_stays : get_or memo' (2 * j + 1) 0 ≡ get_or memo (2 * j + 1) 0
  tag_stays = q.low (2 * j + 1) (omega arith) (λ e. omega arith) (λ e. f (omega arith))

  low_stays : get_or memo' (2 * j) 0 ≡ get_or memo (2 * j) 0
  low_stays = q.low (2 * j) (omega arith) (λ e. f (omega arith)) (λ e. omega arith)

  words_stay : take 2 (drop (2 * P + 2 * j) memo') ≡ take 2 (drop (2 * P + 2 * j) memo)
  words_stay =
      take_same 2 (2 * P + 2 * j) memo' memo q.same (omega (arith, q.same))
      (λ i a b. q.high i (omega arith) (λ e. f (omega arith)) (λ e. f (omega arith)))

  pub key_stays : key_at P memo' j ≡ key_at P memo j
  unfolding key_at high_at
  key_stays =
      ap₂ (λ (h n : ℕ). h * 2 ^ 64 + n)
      (ap₂ (λ (u : ℕ) (v : List ℕ). elim (ltb u 4294967296) [ true ↦ 0 | false ↦ value_of v ]) tag_stays words_stay)
      low_stays

  pub number_stays : number_at memo' j ≡ number_at memo j
  number_stays = ap (λ (n : ℕ). n % 4294967296) tag_stays

-- a set of one word
pub stored_low : (P : ℕ) (memo : List ℕ) (at w n : ℕ) (ws : List ℕ) → 4 * P ≤ length memo → at < P → n < 4294967296 → value_of ws ≡ 0
    → Stored P memo at (value_of (w ∷ ws)) n (set (set memo (2 * at) w) (2 * at + 1) n)
stored_low P memo at w n ws l m s z = record {
  same = apart.same;
  key = key;
  number = ap (λ (u : ℕ). u % 4294967296) tag ∙ mod-eq_of_lt s;
  other_key = λ j b f. key_stays l apart j b f;
  other_number = λ j b f. number_stays l apart j b f;
}
  where
    long : length (set memo (2 * at) w) ≡ length memo
    long = length-set memo (2 * at) w

    apart : Apart P memo at (set (set memo (2 * at) w) (2 * at + 1) n)
    apart = record {
      same = length-set (set memo (2 * at) w) (2 * at + 1) n ∙ long;
      low = λ i a f g. get_or-set_other (set memo (2 * at) w) (2 * at + 1) i n 0 g ∙ get_or-set_other memo (2 * at) i w 0 f;
      high = λ i a f g. get_or-set_other (set memo (2 * at) w) (2 * at + 1) i n 0 (λ e. omega arith) ∙ get_or-set_other memo (2 * at) i w 0 (λ e. omega arith);
    }

    tag : get_or (set (set memo (2 * at) w) (2 * at + 1) n) (2 * at + 1) 0 ≡ n
    tag = get_or-set_same (set memo (2 * at) w) (2 * at + 1) n 0 (omega (arith, long))

    low : get_or (set (set memo (2 * at) w) (2 * at + 1) n) (2 * at) 0 ≡ w
    low = get_or-set_other (set memo (2 * at) w) (2 * at + 1) (2 * at) n 0 (λ e. omega arith) ∙ get_or-set_same memo (2 * at) w 0 (omega arith)

    key : key_at P (set (set memo (2 * at) w) (2 * at + 1) n) at ≡ value_of (w ∷ ws)
    key = key_is P (set (set memo (2 * at) w) (2 * at + 1) n) at w ws low (high_none P (set (set memo (2 * at) w) (2 * at + 1) n) at (omega (arith, tag)) ∙ sym z)

-- ---- four stores, each read again

module _ (memo : List ℕ) (a b d e w t v u : ℕ) (ab : a < b) (bd : b < d) (de : d < e) (el : e < length memo) where
  abbrev m1 : List ℕ
  m1 = set memo a w

  abbrev m2 : List ℕ
  m2 = set m1 b t

  abbrev m3 : List ℕ
  m3 = set m2 d v

  abbrev pub m4 : List ℕ
  m4 = set m3 e u

  pub four-length : length m4 ≡ length memo
  four-length = length-set m3 e u ∙ length-set m2 d v ∙ length-set m1 b t ∙ length-set memo a w

  pub four_other : (i : ℕ) → (i ≡ a → ⊥) → (i ≡ b → ⊥) → (i ≡ d → ⊥) → (i ≡ e → ⊥) → get_or m4 i 0 ≡ get_or memo i 0
  four_other i f g h k =
      get_or-set_other m3 e i u 0 k ∙ get_or-set_other m2 d i v 0 h ∙ get_or-set_other m1 b i t 0 g ∙ get_or-set_other memo a i w 0 f

  pub read_a : get_or m4 a 0 ≡ w
  read_a =
      get_or-set_other m3 e a u 0 (λ q. omega arith) ∙ get_or-set_other m2 d a v 0 (λ q. omega arith) ∙ get_or-set_other m1 b a t 0 (λ q. omega arith)
      ∙ get_or-set_same memo a w 0 (omega arith)

  pub read_b : get_or m4 b 0 ≡ t
  read_b =
      get_or-set_other m3 e b u 0 (λ q. omega arith) ∙ get_or-set_other m2 d b v 0 (λ q. omega arith)
      ∙ get_or-set_same m1 b t 0 (omega (arith, length-set memo a w))

  pub read_d : get_or m4 d 0 ≡ v
  read_d =
      get_or-set_other m3 e d u 0 (λ q. omega arith) ∙ get_or-set_same m2 d v 0 (omega (arith, length-set memo a w, length-set m1 b t))

  pub read_e : get_or m4 e 0 ≡ u
  read_e = get_or-set_same m3 e u 0 (omega (arith, length-set memo a w, length-set m1 b t, length-set m2 d v))

small : (n : ℕ) → n < 4294967296 → (n + 4294967296) % 4294967296 ≡ n
small n h = omega arith

-- a set of three words
pub stored-all : (P : ℕ) (memo : List ℕ) (at w v u n : ℕ) → 4 * P ≤ length memo → at < P → n < 4294967296
    → Stored P memo at (value_of (w ∷ v ∷ u ∷ [])) n
    (set (set (set (set memo (2 * at) w) (2 * at + 1) (n + 4294967296)) (2 * P + 2 * at) v) (2 * P + 2 * at + 1) u)
stored-all P memo at w v u n l m s =
    let a : ℕ = 2 * at in
    let b : ℕ = 2 * at + 1 in
    let d : ℕ = 2 * P + 2 * at in
    let e : ℕ = 2 * P + 2 * at + 1 in
    let t : ℕ = n + 4294967296 in
    let ab : a < b = omega arith in
    let bd : b < d = omega arith in
    let de : d < e = omega arith in
    let el : e < length memo = omega arith in
    let new = m4 memo a b d e w t v u ab bd de el in
    let long = four-length memo a b d e w t v u ab bd de el in
    let tag = read_b memo a b d e w t v u ab bd de el in
    let other = four_other memo a b d e w t v u ab bd de el in
    let apart : Apart P memo at new = record {
      same = long;
      low = λ i q f g. other i f g (λ z. omega arith) (λ z. omega arith);
      high = λ i q f g. other i (λ z. omega arith) (λ z. omega arith) f g;
    } in
    let words : take 2 (drop d new) ≡ v ∷ u ∷ [] =
    sym (words_from_lem 2 d new (omega (arith, long))) ∙ two_words new d
    ∙ ap₂ (λ (x y : ℕ). x ∷ y ∷ []) (read_d memo a b d e w t v u ab bd de el) (read_e memo a b d e w t v u ab bd de el) in
    record {
      same = long;
      key = key_is P new at w (v ∷ u ∷ []) (read_a memo a b d e w t v u ab bd de el) (high_some P new at (omega (arith, tag)) ∙ ap value_of words);
      number = ap (λ (k : ℕ). k % 4294967296) tag ∙ small n s;
      other_key = λ j i f. key_stays l apart j i f;
      other_number = λ j i f. number_stays l apart j i f;
    }

-- ---- clearing: the words of the first half are 0, so no place has a set

pub cleared_places : (P : ℕ) (memo front : List ℕ) → 4 * P ≤ length memo → Words.Cleared (take (2 * P) memo) front
    → Cleared P memo (front ++ drop (2 * P) memo)
unfolding key_at
cleared_places P memo front l h = record {
  same = length_front memo front (2 * P) h.same;
  none = λ j m. rw (reads (2 * j) (omega arith), high_none P (front ++ drop (2 * P) memo) j (omega (arith, reads (2 * j + 1) (omega arith))));
  zero = λ j m. rw (reads (2 * j + 1) (omega arith));
}
  where
    long : length front ≡ 2 * P
    long = h.same ∙ length-take-le (2 * P) memo (omega arith)

    reads : (i : ℕ) → i < 2 * P → get_or (front ++ drop (2 * P) memo) i 0 ≡ 0
    reads i m =
        sym (get_or-take (2 * P) (front ++ drop (2 * P) memo) i 0 m)
        ∙ ap (λ (ws : List ℕ). get_or ws i 0) (take_at front (drop (2 * P) memo) (2 * P) long) ∙ cleared_reads h i
