-- Shifts and products in 64 bits. Assumes nothing.
use mathlib.Core.Path.{◌≡◌, subst, subst⁻¹}
use Prim.Native.Nat.{ℕ, ◌+◌, ◌*◌, ◌^◌, ◌<◌, ◌≤◌}
use native.Mathlib.Nat.{le_of_lt, lt_of_le_of_lt, mul-le-mul_left, mul-lt-mul_of_pos_right}
use native.Mathlib.Decide.{dec_lt}
use native.Mathlib.Omega.{arith}
use lib.Pow.{pow_pos, pow-add}

pub product : (k : ℕ) {a b : ℕ} → a < 2 ^ k → b < 2 ^ k → a * b < 2 ^ (k + k)
product k {a} {b} ha hb =
    subst⁻¹ (λ (n : ℕ). a * b < n) (pow-add 2 k k)
    (lt_of_le_of_lt (mul-le-mul_left a (le_of_lt hb)) (mul-lt-mul_of_pos_right ha (pow_pos k)))

-- slots that stand above s schools in one word leave some of it to them
pub shift_small : (s slots : ℕ) → s ≤ 64 → slots * 2 ^ s < 2 ^ 64 → (slots ≡ 0 → ⊥) → s < 64
shift_small s slots few fits h = go (dec_lt s 64)
  where
    go : Dec (s < 64) → s < 64
    go (yes p) = p
    go (no p) =
        let e : s ≡ 64 = omega arith in
        let q : slots * 2 ^ 64 < 2 ^ 64 = subst (λ (x : ℕ). slots * 2 ^ x < 2 ^ 64) e fits in
        absurd (omega arith)
