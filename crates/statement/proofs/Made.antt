-- The nodes made. THEOREMS: the new numbers below an answer are as many as were missing for its family, so that `made` is what it was said to be of
-- families; of a call that answers the new numbers are just those below its answer; and a family that the table holds is found. Assumes nothing.
use mathlib.Core.Path.{◌≡◌, sym, ap, ◌∙◌, subst, subst⁻¹}
use mathlib.Core.Logic.{◌⊎◌, inl, inr, ◌↔◌}
use mathlib.Core.Bool.{true}
use mathlib.Core.List.{List, ◌++◌}
use Prim.Native.Nat.{ℕ, suc, ◌+◌, ◌≤◌, ◌<◌}
use native.Mathlib.Nat.{eq-zero-or-pos}
use native.Mathlib.Omega.{arith}
use lib.ListN.{length, take, drop}
use Rattle.zdd.specs.Table.{Node, Family, count, nodes_of, family, soundb, Nodes}
use Rattle.zdd.specs.Branches.{missing}
use Rattle.zdd.specs.Below.{Below, new_below}
use Rattle.zdd.proofs.Words.{length-nodes}
use Rattle.zdd.proofs.Tested.{sound_of}
use Rattle.zdd.proofs.Canon.{canonical}
use Rattle.zdd.proofs.Below.{below-append, below-known, below_le, new_all, new_missing}
use Rattle.query.specs.Questions.{family_at}
use Rattle.statement.specs.Replies.{Report}
use Rattle.statement.specs.Postconditions.{Answered}
use Rattle.statement.proofs.Kept.{nodes_split, keeps, grows}

-- THEOREM: where a sound table t' keeps the nodes of t, the numbers below a that t did not have are as many as t lacks for a's family
pub below-missing : (K t t' : List ℕ) → soundb K t' ≡ true → take (count t) (nodes_of t') ≡ nodes_of t → (a : ℕ) → a < count t' + 2
    → length (new_below (count t) (nodes_of t') a) ≡ missing (nodes_of t) (family_at t' a)
below-missing K t t' s old a h =
    let ms : List Node = drop (count t) (nodes_of t') in
    let e : nodes_of t' ≡ nodes_of t ++ ms = nodes_split t t' old in
    let n : Nodes K (nodes_of t ++ ms) = subst (λ (l : List Node). Nodes K l) e (sound_of K t' s).nodes in
    let k : a < suc (suc (length (nodes_of t ++ ms))) = subst (λ (l : List Node). a < suc (suc (length l))) e (omega (arith, length-nodes t')) in
    subst⁻¹ (λ (l : List Node). length (new_below (count t) l a) ≡ missing (nodes_of t) (family l a)) e
    (subst (λ (c : ℕ). length (new_below c (nodes_of t ++ ms) a) ≡ missing (nodes_of t) (family (nodes_of t ++ ms) a)) (length-nodes t)
    (new_missing (nodes_of t) ms n a k))

module _ {K : List ℕ} {F : Family} {s : ℕ} {t : List ℕ} {r : Report} {t' : List ℕ} (A : Answered K F s t r t') where
  -- THEOREM: what is made was missing
  pub made-missing : r.made ≡ missing (nodes_of t) F
  made-missing = omega (arith, A.made, below-missing K t t' A.sound A.old A.number A.known, ap (missing (nodes_of t)) A.holds)

  nodes : Nodes K (nodes_of t')
  nodes = (sound_of K t' A.sound).nodes

  number-known : A.number < suc (suc (length (nodes_of t')))
  number-known = omega (arith, A.known, length-nodes t')

  -- THEOREM: of the numbers that t did not have, those of t' are just those below the answer
  pub new_exactly : (k : ℕ) → count t + 2 ≤ k → (k < count t' + 2) ↔ Below (nodes_of t') A.number k
  new_exactly k l = (
    λ h. new_all nodes (count t) A.number number-known (omega (arith, A.made, A.grown, length-nodes t')) k l (omega (arith, length-nodes t')),
    λ b. omega (arith, below-known nodes b number-known, length-nodes t'),
  )

  -- what was below an old number still is
  pub old_below : {a k : ℕ} → Below (nodes_of t) a k → Below (nodes_of t') a k
  old_below {a} {k} b = subst⁻¹ (λ (l : List Node). Below l a k) (nodes_split t t' A.old) (below-append (drop (count t) (nodes_of t')) b)

  -- THEOREM: a family that the table holds is answered with the number that it has, and no node is made
  module _ (a : ℕ) (h : a < count t + 2) (e : family_at t a ≡ F) where
    pub found_number : A.number ≡ a
    found_number =
        canonical nodes A.number a number-known (omega (arith, h, grows A, length-nodes t')) (A.holds ∙ sym e ∙ sym (keeps A a h))

    pub found-made : r.made ≡ 0
    found-made = go (eq-zero-or-pos r.made)
      where
        go : (r.made ≡ 0) ⊎ (0 < r.made) → r.made ≡ 0
        go (inl z) = z
        go (inr l) = absurd (omega (arith, h, below_le nodes ((new_exactly (count t + 2) (omega arith)).0 (omega (arith, A.grown))), found_number))
