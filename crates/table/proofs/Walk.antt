-- The walk of find along a bucket: where it stands, and that no node that it passed is the triple. Assumes nothing.
use mathlib.Core.Path.{◌≡◌, sym, subst, ap, ◌∙◌}
use mathlib.Core.List.{List}
use Prim.Native.Nat.{ℕ, ◌+◌, ◌-◌, ◌<◌, ◌≤◌}
use native.Mathlib.Decide.{dec_lt, ℕ_discrete}
use native.Mathlib.Omega.{arith}
use lib.ListN.{get_or}
use Rattle.zdd.specs.Table.{Node, blank}
use Rattle.buckets.specs.Chain.{Last}
use Rattle.table.specs.State.{hash_of, bucket, IndexedTo, Found}
use Rattle.table.proofs.IndexLaws.{bucket-of}

pub record FindWalk (ns : List Node) (m : ℕ) (x : Node) (k : ℕ) : Type 0 where
  pub below : k < m
  pub own : 0 < k → (2 ≤ k) × (bucket ns k ≡ hash_of x)
  pub past : (i : ℕ) → k < i + 2 → i + 2 < m → get_or ns i blank ≡ x → ⊥

pub start : {ns : List Node} {m : ℕ} {index : List ℕ} (x : Node) (h : ℕ) → IndexedTo ns m index → h ≡ hash_of x → h < 65536 → FindWalk ns m x (get_or index h 0)
start {ns} {m} {index} x h d q lt =
    let e = d.chain.at_head h lt in
    record {
      below = e.below;
      own = λ u. ((e.own u).0, (e.own u).1 ∙ q);
      past = λ i p r n. e.gap (i + 2) p (omega arith) r (bucket-of ns (i + 2) i x (omega arith) n ∙ sym q);
    }

module _ {ns : List Node} {m : ℕ} {index : List ℕ} (x : Node) (k : ℕ) (d : IndexedTo ns m index) (w : FindWalk ns m x k) (pos : 0 < k) where
  pub falls : get_or index (65536 + k) 0 < k
  falls = (d.chain.at_next k (w.own pos).0 w.below).below

  pub step : (get_or ns (k - 2) blank ≡ x → ⊥) → FindWalk ns m x (get_or index (65536 + k) 0)
  step f =
      let e = subst (λ (b : ℕ). Last (bucket ns) 2 b k (get_or index (65536 + k) 0)) (w.own pos).1 (d.chain.at_next k (w.own pos).0 w.below) in
      record {
        below = omega (arith, e.below, w.below);
        own = e.own;
        past = λ i p r n. at e f i p r n (dec_lt (i + 2) k) (ℕ_discrete (i + 2) k);
      }
    where
      at : Last (bucket ns) 2 (hash_of x) k (get_or index (65536 + k) 0) → (get_or ns (k - 2) blank ≡ x → ⊥) → (i : ℕ) → get_or index (65536 + k) 0 < i + 2 → i + 2 < m → get_or ns i blank ≡ x
          → Dec (i + 2 < k) → Dec (i + 2 ≡ k) → ⊥
      at e f i p r n (yes lt) s = e.gap (i + 2) p (omega arith) lt (bucket-of ns (i + 2) i x (omega arith) n)
      at e f i p r n (no a) (yes z) = let y : k - 2 ≡ i = omega arith in f (ap (λ (j : ℕ). get_or ns j blank) y ∙ n)
      at e f i p r n (no a) (no b) = w.past i (omega arith) r n

-- what the walk finds
pub hit : {ns : List Node} {m k : ℕ} {x : Node} → FindWalk ns m x k → get_or ns (k - 2) blank ≡ x → 0 < k → Found ns m x k
hit w e pos = record { node = λ p. ((w.own p).0, (w.below, e)); none = λ z. absurd (omega arith) }

pub miss : {ns : List Node} {m k : ℕ} {x : Node} → FindWalk ns m x k → k ≡ 0 → Found ns m x 0
miss w z = record { node = λ p. absurd (omega arith); none = λ e i r n. w.past i (omega arith) r n }
