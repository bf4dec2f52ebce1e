-- A call that makes an answer: where it is refused, its contract; where it answers, the old numbers hold what they held. Assumes nothing.
use mathlib.Core.Path.{◌≡◌, sym, ap, ◌∙◌, subst}
use mathlib.Core.List.{List, ◌++◌}
use Prim.Native.Nat.{ℕ, ◌+◌, ◌≤◌, ◌<◌}
use native.Mathlib.Omega.{arith}
use lib.ListN.{take, drop, take-append-drop}
use Rattle.zdd.specs.Table.{Node, Family, count, nodes_of, family}
use Rattle.zdd.proofs.Grow.{family-append}
use Rattle.zdd.proofs.Words.{length-nodes}
use Rattle.query.specs.Questions.{family_at}
use Rattle.statement.specs.Replies.{Report}
use Rattle.statement.specs.Postconditions.{Declined, Answered, Makes}

-- the call's refusal n is k, and k is said
pub refused-makes : {K t t' : List ℕ} {n s : ℕ} {F : Family} {r : Report} (k : ℕ) → n ≡ k → (k ≡ 0 → ⊥) → Declined k t r t' → Makes K n F s t r t'
refused-makes {K} {t} {t'} {n} {s} {F} {r} k e f d = record {
  declined = λ h. subst (λ (i : ℕ). Declined i t r t') (sym e) d;
  answered = λ z. absurd (f (sym e ∙ z));
}

-- a table that keeps the nodes of another has these first, and then the new ones
pub nodes_split : (t t' : List ℕ) → take (count t) (nodes_of t') ≡ nodes_of t → nodes_of t' ≡ nodes_of t ++ drop (count t) (nodes_of t')
nodes_split t t' old = sym (take-append-drop (count t) (nodes_of t')) ∙ ap (λ (l : List Node). l ++ drop (count t) (nodes_of t')) old

module _ {K : List ℕ} {F : Family} {s : ℕ} {t : List ℕ} {r : Report} {t' : List ℕ} (A : Answered K F s t r t') where
  pub keeps : (k : ℕ) → k < count t + 2 → family_at t' k ≡ family_at t k
  keeps k h =
      ap (λ (l : List Node). family l k) (nodes_split t t' A.old) ∙ family-append (nodes_of t) (drop (count t) (nodes_of t')) k (omega (arith, length-nodes t))

  pub grows : count t ≤ count t'
  grows = omega (arith, A.grown)
