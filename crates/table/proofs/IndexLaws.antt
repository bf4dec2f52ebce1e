-- The laws of a table's index: it is empty at first, it takes one more number, and it goes by the nodes that it has alone. Assumes nothing.
use mathlib.Core.Path.{◌≡◌, sym, ap, subst, ◌∙◌}
use mathlib.Core.List.{List, ◌++◌}
use Prim.Native.Nat.{ℕ, ◌+◌, ◌-◌, ◌<◌, ◌≤◌}
use native.Mathlib.Omega.{arith}
use lib.ListN.{length, get_or, length-set, get_or-append, replicate, length-replicate}
use Rattle.base.proofs.Wiping.{zeros}
use Rattle.zdd.specs.Table.{Node, blank}
use Rattle.buckets.specs.Chain.{Index, inserted}
use Rattle.table.specs.State.{hash_of, bucket, Fresh, IndexedTo}
use Rattle.buckets.proofs.ChainLaws as chain

-- the bucket of a number whose node is known
pub bucket-of : (ns : List Node) (k i : ℕ) (x : Node) → k ≡ i + 2 → get_or ns i blank ≡ x → bucket ns k ≡ hash_of x
unfolding bucket
bucket-of ns k i x e n =
    let z : k - 2 ≡ i = omega arith in
    ap (λ (j : ℕ). hash_of (get_or ns j blank)) z ∙ ap hash_of n

pub none : (ns : List Node) {index : List ℕ} → Fresh index → IndexedTo ns 2 index
none ns {index} f = record { long = f.long; chain = chain.empty (bucket ns) 2 65536 index (omega arith) (omega (arith, f.long)) f.zero }

-- the node at index i joins
pub more : {ns : List Node} {index : List ℕ} (i h m : ℕ) (x : Node) → IndexedTo ns (i + 2) index → m ≡ i + 2
    → i < 65534 → h < 65536 → h ≡ hash_of x → get_or ns i blank ≡ x
    → IndexedTo ns (i + 1 + 2) (inserted 65536 h m index)
more {ns} {index} i h m x d e few lt q n =
    let z : m + 1 ≡ i + 1 + 2 = omega arith in
    let y : i + 2 ≡ m = omega arith in
    record {
      long = simp length-set d.long;
      chain = subst (λ (k : ℕ). Index (bucket ns) 2 65536 k (inserted 65536 h m index)) z
          (chain.more (bucket ns) 2 65536 m h index (omega arith) (omega (arith, d.long)) lt (bucket-of ns m i x e n ∙ sym q)
          (subst (λ (k : ℕ). Index (bucket ns) 2 65536 k index) y d.chain));
    }

-- nodes behind those of the index
pub behind : {ns : List Node} {index : List ℕ} (ms : List Node) (m : ℕ) → m ≤ length ns + 2 → IndexedTo ns m index → IndexedTo (ns ++ ms) m index
unfolding bucket
behind {ns} {index} ms m h d = record {
  long = d.long;
  chain = chain.same (bucket ns) (bucket (ns ++ ms)) 2 65536 m index
      (λ k a b. sym (ap hash_of (get_or-append ns ms blank (k - 2) (omega arith)))) d.chain;
}

-- a new array of zeros
pub fresh : (n : ℕ) → n ≡ 131072 → Fresh (replicate n 0)
fresh n e = record { long = length-replicate n 0 ∙ e; zero = zeros n }
