-- What code that reads and writes the words of a sound table needs, by the numbers k of the nodes. Assumes nothing.
use mathlib.Core.Path.{◌≡◌, ap, ◌∙◌, subst}
use mathlib.Core.List.{List}
use Prim.Native.Nat.{ℕ, zero, suc, ◌+◌, ◌-◌, ◌*◌, ◌≤◌, ◌<◌}
use native.Mathlib.Omega.{arith}
use lib.ListN.{length, get_or}
use Rattle.zdd.specs.Table.{Node, blank, fork, count, nodes_of, family, key, Over, Fine, Sound, Keys}
use Rattle.zdd.proofs.Grow.{family-node}
use Rattle.zdd.proofs.Words.{at-word, node_at_lem, length-nodes}
use Rattle.zdd.proofs.Listing.{Listed, family-listed}

-- a child's condition, by the child's number
pub over-of-key : (K : List ℕ) (ns : List Node) (b c : ℕ) → (2 ≤ c → b ≤ key K (get_or ns (c - 2) blank).label) → Over K ns b c
over-of-key K ns b zero f = tt
over-of-key K ns b (suc zero) f = tt
over-of-key K ns b (suc (suc i)) f =
    let z : suc (suc i) - 2 ≡ i = omega arith in
    subst (λ (j : ℕ). b ≤ key K (get_or ns j blank).label) z (f (omega arith))

pub key-of-over : (K : List ℕ) (ns : List Node) (b c : ℕ) → Over K ns b c → 2 ≤ c → b ≤ key K (get_or ns (c - 2) blank).label
key-of-over K ns b zero o h = absurd (omega arith)
key-of-over K ns b (suc zero) o h = absurd (omega arith)
key-of-over K ns b (suc (suc i)) o h =
    let z : i ≡ suc (suc i) - 2 = omega arith in
    subst (λ (j : ℕ). b ≤ key K (get_or ns j blank).label) z o

-- the three words of number k, from word a on
pub fine_at : {K ws : List ℕ} → Sound K ws → (k a : ℕ) → 2 ≤ k → k < count ws + 2 → a ≡ 1 + 3 * (k - 2) → Fine K (nodes_of ws) (k - 2) (at-word ws a)
fine_at {K} {ws} s k a l h e =
    subst (λ (x : Node). Fine K (nodes_of ws) (k - 2) x) (node_at_lem ws (k - 2) a (omega arith) e) (s.nodes.each (k - 2) (omega (arith, length-nodes ws)))

pub family-at : {K ws : List ℕ} → Sound K ws → (k a : ℕ) → 2 ≤ k → k < count ws + 2 → a ≡ 1 + 3 * (k - 2)
    → family (nodes_of ws) k ≡ fork (get_or ws a 0) (family (nodes_of ws) (get_or ws (a + 2) 0)) (family (nodes_of ws) (get_or ws (a + 1) 0))
family-at {K} {ws} s k a l h e =
    let i : ℕ = k - 2 in
    let w : i < length (nodes_of ws) = omega (arith, length-nodes ws) in
    let f : Fine K (nodes_of ws) i (get_or (nodes_of ws) i blank) = s.nodes.each i w in
    let z : k ≡ suc (suc i) = omega arith in
    ap (family (nodes_of ws)) z
    ∙ family-node (nodes_of ws) i w f.lo-below f.hi-below
    ∙ ap (λ (x : Node). fork x.label (family (nodes_of ws) x.hi) (family (nodes_of ws) x.lo)) (node_at_lem ws i a (omega arith) e)

pub sound_listed : {K ws : List ℕ} → Keys K → Sound K ws → (k : ℕ) → k < count ws + 2 → Listed K (family (nodes_of ws) k)
sound_listed {K} {ws} a s k h = family-listed a s.nodes k (omega (arith, length-nodes ws))
