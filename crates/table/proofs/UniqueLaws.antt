-- The three ends of find or make: there is no room, the node is there, the node is appended. Assumes nothing.
use mathlib.Core.Path.{◌≡◌, refl, sym, ap, subst, subst⁻¹, ◌∙◌}
use mathlib.Core.Bool.{false}
use mathlib.Core.List.{List, [], ◌∷◌, ◌++◌}
use Prim.Native.Nat.{ℕ, suc, ◌+◌, ◌-◌, ◌*◌, ◌<◌, ◌≤◌}
use native.Mathlib.Omega.{arith}
use lib.ListN.{length, get_or, set}
use lib.Seq.{get_or_at}
use Rattle.zdd.specs.Table.{Node, blank, Family, fork, count, capacity, nodes_of, family, Fine}
use Rattle.zdd.proofs.Grow.{family-node}
use Rattle.zdd.proofs.Tested.{capacity_most, capacity-least}
use Rattle.zdd.proofs.Words.{length-nodes, Appended, appended_nodes, appended_sound, stored}
use Rattle.zdd.specs.Work.{Got}
use Rattle.zdd.proofs.Got.{got_eq, got_there, got_made, got_full}
use Rattle.buckets.specs.Chain.{inserted}
use Rattle.table.specs.State.{hash_of, Room, IndexedTo, Indexed, Found, Absent, Appends, May, Unique}
use Rattle.table.proofs.IndexLaws as indexed
use Rattle.table.proofs.GrownLaws.{grown_refl, grown_append}

-- ---- room

pub full_few : {t : List ℕ} → Room t → 65534 ≤ count t → count t ≡ capacity t
full_few {t} r h = omega (arith, r.fit, r.few, capacity_most t, capacity-least t (count t) r.few (omega (arith, r.fit)))

pub full-long : {t : List ℕ} → Room t → length t ≤ 3 * count t + 3 → count t ≡ capacity t
full-long {t} r h = omega (arith, r.fit, r.few, capacity_most t, capacity-least t (count t) r.few (omega (arith, r.fit)))

-- ---- there is no room

-- x may be the next node
next_fine : {K t : List ℕ} {x : Node} → May K t x → Fine K (nodes_of t) (length (nodes_of t)) x
next_fine {K} {t} {x} m = subst (λ (k : ℕ). Fine K (nodes_of t) k x) (sym (length-nodes t)) m.fine

pub made_none : {t index : List ℕ} {x : Node} → Indexed t index → Absent t x → count t ≡ capacity t → Unique t t index x 0
made_none {t} {index} {x} d a e K m = record {
  grown = grown_refl m.sound;
  indexed = d;
  gained = record {
    got = λ n. absurd (n refl);
    full = λ z.
        got_full (capacity t) m.sound.nodes x (next_fine m) (λ i h. a i (omega (arith, length-nodes t))) 0 (omega arith) (omega (arith, length-nodes t));
  };
}

-- ---- the node is there

pub made_old : {t index : List ℕ} {x : Node} {r : ℕ} → Indexed t index → Found (nodes_of t) (count t + 2) x r → 0 < r → Unique t t index x r
made_old {t} {index} {x} {r} d f p K m =
    let n = f.node p in
    let i : ℕ = r - 2 in
    let w : i < length (nodes_of t) = omega (arith, n.0, n.1.0, length-nodes t) in
    let y : Fine K (nodes_of t) i (get_or (nodes_of t) i blank) = m.sound.nodes.each i w in
    let z : r ≡ suc (suc i) = omega (arith, n.0) in
    record {
      grown = grown_refl m.sound;
      indexed = d;
      gained = record {
        got = λ q.
            got_eq (ap (family (nodes_of t)) z ∙ family-node (nodes_of t) i w y.lo-below y.hi-below
            ∙ ap (λ (v : Node). fork v.label (family (nodes_of t) v.hi) (family (nodes_of t) v.lo)) n.1.1)
            (got_there (capacity t) false r m.sound.nodes (omega (arith, n.1.0, length-nodes t)));
        full = λ e. absurd (omega arith);
      };
    }

-- ---- the node is appended

-- what append stores is the node behind the others
appended_stores : {t : List ℕ} (x : Node) → 3 * count t + 3 < length t
    → Appended t x (set (set (set (set t (3 * count t + 1) x.label) (3 * count t + 2) x.lo) (3 * count t + 3) x.hi) 0 (count t + 1))
appended_stores {t} x room =
    stored t x (3 * count t + 1) (3 * count t + 2) (3 * count t + 3) (count t + 1) (omega arith) (omega arith) (omega arith) (omega arith) (omega arith)

pub appended_by : {t t' index' : List ℕ} {x : Node} {r : ℕ} → Appends t t' index' x r → 3 * count t + 3 < length t → Appended t x t'
appended_by {t} {t'} {index'} {x} {r} d room = subst⁻¹ (λ (ws : List ℕ). Appended t x ws) d.words (appended_stores x room)

-- the index of the longer table
pub indexed_more : {t t' index : List ℕ} {x : Node} (h m : ℕ) → Appended t x t' → Indexed t index
    → count t < 65534 → 3 * count t + 3 < length t → h < 65536 → h ≡ hash_of x → m ≡ count t + 2
    → Indexed t' (inserted 65536 h m index)
indexed_more {t} {t'} {index} {x} h m p d few fit lt q e =
    let z : count t + 1 ≡ count t' = omega (arith, p.counted) in
    record {
      room = record { fit = omega (arith, p.long); few = omega arith };
      entries = subst (λ (ns : List Node). IndexedTo ns (count t' + 2) (inserted 65536 h m index)) (sym (appended_nodes p))
          (subst (λ (k : ℕ). IndexedTo (nodes_of t ++ (x ∷ [])) (k + 2) (inserted 65536 h m index)) z
          (indexed.more (count t) h m x (indexed.behind (x ∷ []) (count t + 2) (omega (arith, length-nodes t)) d.entries) e few lt q
          (get_or_at (nodes_of t) x [] blank (count t) (length-nodes t))));
    }

-- the stores of append, as the code makes them
pub appends : {t index : List ℕ} (x : Node) (h : ℕ) → Indexed t index → h < 65536 → h ≡ hash_of x → (count t < 65534) × (3 * count t + 3 < length t)
    → Appends t (set (set (set (set t (3 * count t + 1) x.label) (3 * count t + 2) x.lo) (3 * count t + 3) x.hi) 0 (count t + 1)) (inserted 65536 h (count t + 2) index) x (count t + 2)
appends {t} {index} x h d lt q room = record {
  number = refl;
  words = refl;
  indexed = indexed_more h (count t + 2) (appended_stores x room.1) d room.0 room.1 lt q refl;
}

pub made_new : {t t' index' : List ℕ} {x : Node} {r : ℕ} → Absent t x → (count t < 65534) × (3 * count t + 3 < length t) → Appends t t' index' x r
    → Unique t t' index' x r
made_new {t} {t'} {index'} {x} {r} a room d K m =
    let p = appended_by d room.1 in
    let z : suc (suc (length (nodes_of t))) ≡ r = omega (arith, length-nodes t, d.number) in
    let F : Family = fork x.label (family (nodes_of t) x.hi) (family (nodes_of t) x.lo) in
    record {
      grown = grown_append p (appended_sound m.sound p (omega (arith, room.1)) room.0 m.fine a);
      indexed = d.indexed;
      gained = record {
        got = λ n.
            subst⁻¹ (λ (ns : List Node). Got K (capacity t) (nodes_of t) false r ns false F) (appended_nodes p)
            (subst (λ (k : ℕ). Got K (capacity t) (nodes_of t) false k (nodes_of t ++ (x ∷ [])) false F) z
            (got_made (capacity t) m.sound.nodes x (next_fine m) (λ i h. a i (omega (arith, length-nodes t)))));
        full = λ q. absurd (omega (arith, d.number));
      };
    }
