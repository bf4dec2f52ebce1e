-- An empty table. Assumes nothing.
use mathlib.Core.Path.{◌≡◌, sym, ap, ◌∙◌}
use mathlib.Core.List.{List, [], ◌∷◌, ◌++◌}
use Prim.Native.Nat.{ℕ, ◌+◌, ◌≤◌, ◌<◌}
use native.Mathlib.Numerals.{add-one}
use native.Mathlib.Omega.{arith}
use lib.ListN.{length, set, take, replicate, replicate-append-replicate, get_or-eq_default}
use lib.Seq.{take_all, take-suc-set}
use Rattle.zdd.specs.Table.{count}

pub no_word : (t : List ℕ) → length t ≡ 0 → 0 ≡ count t
no_word t e = sym (get_or-eq_default t 0 {n = 0} (omega arith))

-- the words before i are 0
pub cleared_more : (t : List ℕ) (i : ℕ) → i < length t → take i t ≡ replicate i 0 → take (i + 1) (set t i 0) ≡ replicate (i + 1) 0
cleared_more t i h e =
    rw add-one (take-suc-set t i 0 h ∙ ap (λ (l : List ℕ). l ++ (0 ∷ [])) e ∙ replicate-append-replicate i 1 0 ∙ ap (λ (n : ℕ). replicate n 0) (add-one i))

pub cleared_all : (t : List ℕ) (i n : ℕ) → length t ≤ i → i ≤ length t → length t ≡ n → take i t ≡ replicate i 0 → t ≡ replicate n 0
cleared_all t i n a b l e =
    let q : i ≡ n = omega arith in
    sym (take_all i t a) ∙ e ∙ ap (λ (k : ℕ). replicate k 0) q
