-- A number read byte by byte, from its highest byte down. Assumes nothing.
use mathlib.Core.Path.{◌≡◌, refl}
use mathlib.Core.List.{List}
use Prim.Native.Nat.{ℕ, suc, ◌+◌, ◌*◌, ◌-◌, ◌^◌, ◌<◌, ◌≤◌}
use native.Mathlib.Nat.{pow-suc, pow-le-pow_right, zero-lt-suc}
use native.Mathlib.Omega.{arith}
use Rattle.bids.specs.Bytes.{byte_at, number_at}

-- v is the number of the w bytes behind the one at k, and it is small
pub record Read (b : List ℕ) (k w v : ℕ) : Type 0 where
  pub value : v ≡ number_at b k w
  pub small : v < 256 ^ w

pub read_none : (b : List ℕ) (k : ℕ) {w : ℕ} → w ≡ 0 → Read b k w 0
unfolding number_at
read_none b k e = rw e (record { value = refl; small = omega arith })

-- one byte more, x, in front
pub read_more : (b : List ℕ) (k w : ℕ) {i n v x : ℕ} → i ≡ suc k → n ≡ suc w → Read b i w v → x ≡ byte_at b k → x < 256 → Read b k n (256 * v + x)
unfolding number_at
read_more b k w e f r g h =
    rw f (record { value = let h' : _ ≡ number_at b (suc k) w = rw e at r.value in rw (h', g) (omega arith); small = omega (arith, r.small, pow-suc 256 w) })

-- a number of up to seven bytes has room for one more
pub seven : {v : ℕ} (w : ℕ) → w ≤ 7 → v < 256 ^ w → v < 2 ^ 56
seven w p q = omega (arith, q, pow-le-pow_right (zero-lt-suc 255) p)

-- all bytes were read
pub read_all : (b : List ℕ) (k w : ℕ) {i v : ℕ} → i ≡ 0 → Read b (k + i) (w - i) v → Read b k w v
read_all b k w {i} e r =
    let f : k + i ≡ k = omega arith in
    let g : w - i ≡ w = omega arith in
    rw (f, g) at r
