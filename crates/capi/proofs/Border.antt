-- A set in an array of three words. Assumes nothing.
use mathlib.Core.Path.{◌≡◌, sym, ap, ◌∙◌, subst}
use mathlib.Core.List.{List}
use Prim.Native.Nat.{ℕ}
use native.Mathlib.Omega.{arith}
use lib.ListN.{length, take, drop}
use lib.Seq.{sets, length-sets}
use Rattle.itemset.proofs.Stored.{whole_set, sets-read}
use Rattle.itemset.specs.Words.{value_of}

pub written-set : (vs ds : List ℕ) → length vs ≡ 3 → length ds ≡ 3 → value_of (sets ds 0 vs) ≡ value_of vs
written-set vs ds k l =
    sym (whole_set (sets ds 0 vs) (length-sets ds 0 vs ∙ l))
    ∙ ap value_of (subst (λ (n : ℕ). take n (drop 0 (sets ds 0 vs)) ≡ vs) k (sets-read vs ds 0 (omega arith)))
