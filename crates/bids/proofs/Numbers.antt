-- What bytes stand where in a file, and that `bytes_of` writes what `number_at` reads. Assumes nothing.
use mathlib.Core.Path.{◌≡◌, refl, sym, ap, ◌∙◌}
use mathlib.Core.List.{List, [], ◌∷◌, ◌++◌}
use Prim.Native.Nat.{ℕ, zero, suc, ◌+◌, ◌*◌, ◌/◌, ◌%◌, ◌^◌, ◌<◌, ◌≤◌}
use native.Mathlib.Nat.{add-zero, mul-suc, pow-zero, pow-succ', zero-lt-suc}
use native.Mathlib.Numerals.{add-one}
use native.Mathlib.Omega.{arith}
use lib.Pow.{pow-add}
use lib.ListN.{length, get_or, take, drop, length-append}
use lib.Seq.{take_all, take-length, take-take, take-add, take_at, drop_at, drop-drop, drop-cons, get_or-take, get_or-drop}
use Rattle.std.specs.Int.Bits.{bit_xor}
use Rattle.bids.specs.Bytes.{byte_at, number_at, bytes_of, fnv_from, fnv}

-- ---- bytes that stand in a file

-- the bytes vs stand in b from place i on
pub record Stands (b : List ℕ) (i : ℕ) (vs : List ℕ) : Type 0 where
  pub here : take (length vs) (drop i b) ≡ vs

pub stands_moved : {b vs : List ℕ} {i j : ℕ} → i ≡ j → Stands b i vs → Stands b j vs
stands_moved e p = rw e at p

-- two lists stand one after the other where each stands in its place
pub stands_left : {b : List ℕ} {i : ℕ} (vs ws : List ℕ) → Stands b i (vs ++ ws) → Stands b i vs
stands_left {b} {i} vs ws p = record {
  here =
      let l : length vs ≤ length (vs ++ ws) = simp length-append (omega arith) in
      sym (take-take (length vs) (length (vs ++ ws)) (drop i b) l) ∙ ap (take (length vs)) p.here ∙ take_at vs ws (length vs) refl;
}

pub stands_right : {b : List ℕ} {i n : ℕ} (vs ws : List ℕ) → length vs ≡ n → Stands b i (vs ++ ws) → Stands b (i + n) ws
stands_right {b} {i} {n} vs ws l p = record {
  here =
      let m = length ws in
      let e : vs ++ take m (drop (i + n) b) ≡ vs ++ ws = rw (length-append, take-add, drop-drop, (stands_left vs ws p).here, l) at p.here in
      sym (drop_at vs (take m (drop (i + n) b)) n l) ∙ ap (drop n) e ∙ drop_at vs ws n l;
}

pub stands_both : {b vs ws : List ℕ} {i n : ℕ} → length vs ≡ n → Stands b i vs → Stands b (i + n) ws → Stands b i (vs ++ ws)
stands_both {b} {vs} {ws} {i} l p q =
    let q' = rw (← l) at q in
    record { here = rw (length-append, take-add, drop-drop, p.here, q'.here) }

pub stands_whole : (b : List ℕ) → Stands b 0 b
stands_whole b = record { here = take-length b }

-- what stands at the start and is as long is the file
pub whole_stands : {b vs : List ℕ} → Stands b 0 vs → length b ≤ length vs → vs ≡ b
whole_stands {b} {vs} p l = sym p.here ∙ take_all (length vs) b l

-- ---- one byte

pub byte_stands : {b vs : List ℕ} {v i : ℕ} → Stands b i (v ∷ vs) → byte_at b i ≡ v
byte_stands {b} {vs} {v} {i} p =
    let e : get_or (take (suc (length vs)) (drop i b)) 0 0 ≡ v = ap (λ (l : List ℕ). get_or l 0 0) p.here in
    rw (get_or-take (suc (length vs)) (drop i b) 0 0 (zero-lt-suc (length vs)), get_or-drop, add-zero) at e

pub stands_byte : {b vs : List ℕ} {i : ℕ} → i < length b → Stands b (suc i) vs → Stands b i (byte_at b i ∷ vs)
stands_byte {b} {vs} {i} h p = record { here = rw (drop-cons b i 0, p.here) }

-- ---- numbers

-- each byte is below 256
abbrev pub Bytes : List ℕ → Type 0
Bytes b = (i : ℕ) → byte_at b i < 256

number_one : (b : List ℕ) (i : ℕ) → number_at b i 1 ≡ byte_at b i
unfolding number_at
number_one b i = omega arith

pub number_small : (b : List ℕ) → Bytes b → (i w : ℕ) → number_at b i w < 256 ^ w
unfolding number_at
number_small b h i zero = omega (arith, pow-zero 256)
number_small b h i (suc w) = omega (arith, h i, number_small b h (suc i) w, pow-succ' 256 w)

pub length_bytes : (w v : ℕ) → length (bytes_of w v) ≡ w
unfolding bytes_of
length_bytes zero v = refl
length_bytes (suc w) v = ap suc (length_bytes w (v / 256))

pub bytes_small : (w v : ℕ) → Bytes (bytes_of w v)
unfolding bytes_of
bytes_small zero v i = zero-lt-suc 255
bytes_small (suc w) v zero = omega arith
bytes_small (suc w) v (suc i) = bytes_small w (v / 256) i

pub append-small : (vs ws : List ℕ) → Bytes vs → Bytes ws → Bytes (vs ++ ws)
append-small [] ws p q i = q i
append-small (v ∷ vs) ws p q zero = p 0
append-small (v ∷ vs) ws p q (suc i) = append-small vs ws (λ j. p (suc j)) q i

-- a number in front of other bytes
pub number-apart : {b : List ℕ} {i : ℕ} (w v : ℕ) (ws : List ℕ) → Stands b i (bytes_of w v ++ ws) → Stands b i (bytes_of w v) × Stands b (i + w) ws
number-apart w v ws p = (stands_left (bytes_of w v) ws p, stands_right (bytes_of w v) ws (length_bytes w v) p)

-- a number that is written is read again
pub number_stands : {b : List ℕ} {i : ℕ} (w v : ℕ) → v < 256 ^ w → Stands b i (bytes_of w v) → number_at b i w ≡ v
unfolding number_at bytes_of
number_stands zero v h p = omega (arith, pow-zero 256)
number_stands {b} {i} (suc w) v h p =
    let q : Stands b (suc i) (bytes_of w (v / 256)) = rw add-one at (stands_right (v % 256 ∷ []) (bytes_of w (v / 256)) refl p) in
    omega (arith, byte_stands p, number_stands w (v / 256) (omega (arith, pow-succ' 256 w)) q)

pub one_stands : {b : List ℕ} {i v : ℕ} → v < 256 → Stands b i (bytes_of 1 v) → byte_at b i ≡ v
one_stands {b} {i} {v} h p = sym (number_one b i) ∙ number_stands 1 v h p

-- and one that is read is written where it stands
pub stands_number : (b : List ℕ) → Bytes b → (i w : ℕ) → i + w ≤ length b → Stands b i (bytes_of w (number_at b i w))
unfolding number_at bytes_of
stands_number b h i zero l = record { here = refl }
stands_number b h i (suc w) l =
    let n = number_at b (suc i) w in
    let e : (byte_at b i + 256 * n) % 256 ≡ byte_at b i = omega (arith, h i) in
    let f : (byte_at b i + 256 * n) / 256 ≡ n = omega (arith, h i) in
    rw (e, f) (stands_byte (omega arith) (stands_number b h (suc i) w (omega arith)))

pub stands_one : (b : List ℕ) → Bytes b → (i : ℕ) → i < length b → Stands b i (bytes_of 1 (byte_at b i))
stands_one b h i l = rw (number_one b i) at (stands_number b h i 1 (omega arith))

-- numbers of w bytes are sets of 8 w items
pub pow_bytes : (w : ℕ) → 2 ^ (8 * w) ≡ 256 ^ w
pow_bytes zero = refl
pow_bytes (suc w) = rw mul-suc (omega (arith, pow-add 2 (8 * w) 8, pow_bytes w, pow-succ' 256 w))

-- ---- the check

fnv_from-small : (h : ℕ) (xs : List ℕ) → h < 2 ^ 32 → fnv_from h xs < 2 ^ 32
unfolding fnv_from
fnv_from-small h [] l = l
fnv_from-small h (x ∷ xs) l = fnv_from-small (bit_xor h x * 16777619 % 2 ^ 32) xs (omega arith)

pub fnv-small : (b : List ℕ) → fnv b < 256 ^ 4
unfolding fnv
fnv-small b = fnv_from-small 2166136261 b (omega arith)
