-- THEOREM: the contract of a call determines the report, but for the answer's number, and the table, but for the numbers of its new nodes: two
-- tables that meet it hold the same families, and each family has one number in each. Assumes nothing.
use mathlib.Core.Path.{◌≡◌, sym, ◌∙◌, subst, subst⁻¹}
use mathlib.Core.Logic.{◌⊎◌, inl, inr}
use mathlib.Core.List.Memᴰ
use mathlib.Core.List.{List}
use Prim.Native.Nat.{ℕ, ◌+◌, ◌<◌}
use native.Mathlib.Decide.{dec_lt}
use native.Mathlib.Omega.{arith}
use lib.ListN.{length}
use Rattle.zdd.specs.Table.{Family, count, nodes_of, families, Nodes, ◌∈◌}
use Rattle.zdd.specs.Branches.{branches}
use Rattle.zdd.proofs.Words.{length-nodes}
use Rattle.zdd.proofs.Tested.{sound_of}
use Rattle.zdd.proofs.Counting.{branch_below, number_of, number_in}
use Rattle.zdd.proofs.Below.{below_branch}
use Rattle.statement.specs.Replies.{Report}
use Rattle.query.specs.Questions.{family_at}
use Rattle.statement.specs.Postconditions.{Answered}
use Rattle.statement.proofs.Kept.{keeps, grows}
use Rattle.statement.proofs.Made.{made-missing, new_exactly}

module _ {K : List ℕ} {F : Family} {s : ℕ} {t : List ℕ} {r : Report} {t' : List ℕ} (A : Answered K F s t r t') where
  nodes : Nodes K (nodes_of t')
  nodes = (sound_of K t' A.sound).nodes

  -- what a number of the new table denotes was denoted before, or is a branch family of the answer
  old_or_branch : (k : ℕ) → k < count t' + 2 → (family_at t' k ∈ families (nodes_of t)) ⊎ (family_at t' k ∈ branches F)
  old_or_branch k h = go (dec_lt k (count t + 2))
    where
      go : Dec (k < count t + 2) → (family_at t' k ∈ families (nodes_of t)) ⊎ (family_at t' k ∈ branches F)
      go (yes l) = inl (Memᴰ.cast (keeps A k l) (number_in (nodes_of t) k (omega (arith, length-nodes t))))
      go (no l) = inr (subst (λ (G : Family). family_at t' k ∈ branches G) A.holds
          (below_branch nodes ((new_exactly A k (omega arith)).0 h) (omega arith) (omega (arith, A.known, length-nodes t'))))

  -- and it has a number in any other table that meets the contract
  found : (G : Family) → (G ∈ families (nodes_of t)) ⊎ (G ∈ branches F) → (k : ℕ) × (k < count t' + 2) × (G ≡ family_at t' k)
  found G (inl m) =
      let j = number_of (nodes_of t) G m in
      let l : j.0 < count t + 2 = omega (arith, j.1, length-nodes t) in
      (j.0, omega (arith, grows A), j.2 ∙ sym (keeps A j.0 l))
  found G (inr m) =
      let j =
      branch_below nodes A.number (omega (arith, A.known, length-nodes t')) G
      (subst⁻¹ (λ (X : Family). G ∈ branches X) A.holds m) in
      (j.0, omega (arith, j.1, length-nodes t'), j.2)

pub same-families : {K : List ℕ} {F : Family} {s : ℕ} {t : List ℕ} {r r₂ : Report} {t' t₂ : List ℕ}
    → Answered K F s t r t' → Answered K F s t r₂ t₂
    → (k : ℕ) → k < count t' + 2 → (j : ℕ) × (j < count t₂ + 2) × (family_at t' k ≡ family_at t₂ j)
same-families {t' = t'} A B k h = found B (family_at t' k) (old_or_branch A k h)

pub same-report : {K : List ℕ} {F : Family} {s : ℕ} {t : List ℕ} {r r₂ : Report} {t' t₂ : List ℕ}
    → Answered K F s t r t' → Answered K F s t r₂ t₂ → (r.steps ≡ r₂.steps) × (r.made ≡ r₂.made) × (count t' ≡ count t₂) × (length t' ≡ length t₂)
same-report A B = (
  A.steps ∙ sym B.steps,
  made-missing A ∙ sym (made-missing B),
  omega (arith, A.grown, B.grown, made-missing A ∙ sym (made-missing B)),
  A.long ∙ sym B.long,
)
