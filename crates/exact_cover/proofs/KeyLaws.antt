-- The array of keys as it is filled. Assumes nothing.
use mathlib.Core.Path.{◌≡◌, sym, ap, ◌∙◌}
use mathlib.Core.List.{List}
use Prim.Native.Nat.{ℕ, ◌+◌, ◌*◌, ◌≤◌, ◌<◌}
use native.Mathlib.Decide.{ℕ_discrete}
use native.Mathlib.Omega.{arith}
use lib.ListN.{length, get_or, set, take, length-set}
use lib.Seq.{get_or-set_same, get_or-set_other, get_or-take, length-take-le, ext_get_or}
use Rattle.exact_cover.specs.Problem.{Problem, row, compulsory, earliest, Rows}
use Rattle.exact_cover.specs.Cover.{keys_of, Keyed}
use Rattle.exact_cover.specs.Recursion.{rank}
use Rattle.exact_cover.proofs.Lead.{lead_is}
use Rattle.exact_cover.proofs.Order.{length-keys, rank_is}

-- the keys of the packages below k are there
pub record KeyedTo (Q : Problem) (k : ℕ) (keys : List ℕ) : Type 0 where
  pub long : length keys ≡ 512
  pub each : (j : ℕ) → j < k → j < length Q.packages → get_or keys j 0 ≡ rank Q j

pub keyed_start : (Q : Problem) {keys : List ℕ} → length keys ≡ 512 → KeyedTo Q 0 keys
keyed_start Q e = record { long = e; each = λ j l. absurd (omega arith) }

pub keyed_more : {Q : Problem} {keys : List ℕ} (k v : ℕ) → k < 512 → v ≡ earliest Q.order (compulsory Q (row Q k)) * 512 + k → KeyedTo Q k keys
    → KeyedTo Q (k + 1) (set keys k v)
keyed_more {Q} {keys} k v h e f = record {
  long = length-set keys k v ∙ f.long;
  each = λ j l n. at j l n (ℕ_discrete j k);
}
  where
    at : (j : ℕ) → j < k + 1 → j < length Q.packages → Dec (j ≡ k) → get_or (set keys k v) j 0 ≡ rank Q j
    at j l n (yes q) =
        rw q
        (get_or-set_same keys k v 0 (omega (arith, f.long)) ∙ e ∙ ap (λ (i : ℕ). i * 512 + k) (sym (lead_is Q (row Q k)))
        ∙ sym (rank_is Q k (omega arith)))
    at j l n (no q) = get_or-set_other keys k j v 0 q ∙ f.each j (omega arith) n

pub keyed_all : {Q : Problem} {keys : List ℕ} (k : ℕ) → Rows Q → length Q.packages ≤ k → KeyedTo Q k keys → Keyed Q keys
keyed_all {Q} {keys} k r l f =
    let n : length (take (length Q.packages) keys) ≡ length Q.packages = length-take-le (length Q.packages) keys (omega (arith, r.few, f.long)) in
    record {
      long = f.long;
      are = ext_get_or 0 (take (length Q.packages) keys) (keys_of Q) (n ∙ sym (length-keys Q))
          (λ i h. get_or-take (length Q.packages) keys i 0 (omega arith) ∙ f.each i (omega arith) (omega arith));
    }
