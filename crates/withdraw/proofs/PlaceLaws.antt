-- One node in the words: found, or written behind those that there are. Assumes nothing.
use mathlib.Core.Path.{◌≡◌, refl}
use mathlib.Core.List.{List}
use Prim.Native.Nat.{ℕ, ◌+◌, ◌-◌, ◌<◌}
use native.Mathlib.Omega.{arith}
use Rattle.zdd.specs.Table.{Node, node, count, nodes_of}
use Rattle.zdd.proofs.Words.{length-nodes, appended_nodes}
use Rattle.table.specs.State.{Indexed, Found, Appends}
use Rattle.table.proofs.UniqueLaws.{appended_by}
use Rattle.withdraw.specs.State.{Rewritten, Placed, Renewal, Roomy}

pub rewritten_same : {t index : List ℕ} → Indexed t index → Rewritten t t index
rewritten_same d = record { long = refl; indexed = d; behind = λ j h. refl }

pub placed_old : {t index : List ℕ} {x : Node} {r : ℕ} → Indexed t index → Found (nodes_of t) (count t + 2) x r → 0 < r → Placed t t index x r
placed_old {t} {index} {x} {r} d f p =
    let g = f.node p in
    record {
      words = rewritten_same d;
      place = record { old = λ h. (refl, (g.0, g.1.1)); new = λ h. absurd (omega (arith, g.1.0, length-nodes t)) };
    }

pub placed_new : {t t' index' : List ℕ} {x : Node} {z r : ℕ} → Roomy t → Found (nodes_of t) (count t + 2) x z → z ≡ 0 → Appends t t' index' x r → Placed t t' index' x r
placed_new {t} {t'} {index'} {x} {z} {r} y f ez d =
    let p = appended_by d y.fit in
    record {
      words = record { long = p.long; indexed = d.indexed; behind = λ j b. p.behind j (omega arith) };
      place = record {
        old = λ b. absurd (omega (arith, d.number, length-nodes t));
        new = λ b. (omega (arith, d.number, length-nodes t), (appended_nodes p, λ i b e. f.none ez i (omega (arith, length-nodes t)) e));
      };
    }

-- ---- the new number of a node

pub renewal_void : {name lo hi : ℕ} {t index : List ℕ} → Indexed t index → hi ≡ 0 → Renewal name lo hi t t index lo
renewal_void d e = record {
  words = rewritten_same d;
  nodes = record { skip = λ _. (refl, refl); void = λ _. (refl, refl); made = λ a b. absurd (omega arith) };
}

pub renewal_skip : {name lo hi : ℕ} {t index : List ℕ} → Indexed t index → name ≡ 0 → Renewal name lo hi t t index lo
renewal_skip d e = record {
  words = rewritten_same d;
  nodes = record { skip = λ _. (refl, refl); void = λ _. (refl, refl); made = λ a b. absurd (omega arith) };
}

pub renewal_placed : {name lo hi : ℕ} {t t' index' : List ℕ} {r : ℕ} → 0 < name → 0 < hi → Placed t t' index' (node (name - 1) lo hi) r
    → Renewal name lo hi t t' index' r
renewal_placed a b p = record {
  words = p.words;
  nodes = record { skip = λ z. absurd (omega arith); void = λ z. absurd (omega arith); made = λ _ _. p.place };
}
