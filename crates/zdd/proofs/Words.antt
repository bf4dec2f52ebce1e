-- Nodes in the words of a table. THEOREM: three words written behind the nodes of a sound table, and the count raised, append a node.
-- Assumes nothing.
use mathlib.Core.Path.{◌≡◌, refl, sym, ap, ◌∙◌, subst}
use mathlib.Core.List.{List, [], ◌∷◌, ◌++◌}
use mathlib.Core.Logic.{◌⊎◌, inl, inr}
use Prim.Native.Nat.{ℕ, zero, suc, ◌+◌, ◌-◌, ◌*◌, ◌/◌, ◌≤◌, ◌<◌}
use native.Mathlib.Nat.{not-suc-le-zero, le_of_suc-le-suc, eq-or-lt_of_le}
use native.Mathlib.Omega.{arith}
use lib.ListN.{length, get_or, drop, set, length-set, length-append, get_or-append}
use lib.Seq.{get_or-drop, get_or_at, ext_get_or, get_or-set_same, get_or-set_other}
use Rattle.zdd.specs.Table.{Node, node, blank, count, triples, nodes_of, Fine, Nodes, Sound}
use Rattle.zdd.proofs.Extend.{nodes-append}

length-triples : (n : ℕ) (ws : List ℕ) → length (triples n ws) ≡ n
unfolding triples
length-triples zero ws = refl
length-triples (suc n) ws = ap suc (length-triples n (drop 3 ws))

pub length-nodes : (ws : List ℕ) → length (nodes_of ws) ≡ count ws
unfolding nodes_of
length-nodes ws = length-triples (count ws) (drop 1 ws)

-- the node of three words
abbrev pub at-word : List ℕ → ℕ → Node
at-word ws a = node (get_or ws a 0) (get_or ws (a + 1) 0) (get_or ws (a + 2) 0)

drop-word : (ws : List ℕ) (d a b : ℕ) → b ≡ d + a → at-word (drop d ws) a ≡ at-word ws b
drop-word ws d a b e = λ i. node (word a b e i) (word (a + 1) (b + 1) (omega arith) i) (word (a + 2) (b + 2) (omega arith) i)
  where
    word : (a b : ℕ) → b ≡ d + a → get_or (drop d ws) a 0 ≡ get_or ws b 0
    word a b e = get_or-drop d ws a 0 ∙ ap (λ (k : ℕ). get_or ws k 0) (sym e)

triple_at : (n : ℕ) (ws : List ℕ) (i a : ℕ) → i < n → a ≡ 3 * i → get_or (triples n ws) i blank ≡ at-word ws a
unfolding triples
triple_at zero ws i a h e = absurd (not-suc-le-zero h)
triple_at (suc n) ws zero a h e = let z : 0 ≡ a = omega arith in ap (λ (k : ℕ). at-word ws k) z
triple_at (suc n) ws (suc i) a h e = triple_at n (drop 3 ws) i (3 * i) (le_of_suc-le-suc h) refl ∙ drop-word ws 3 (3 * i) a (omega arith)

-- node i + 2 stands in the words from 1 + 3 * i on
pub node_at_lem : (ws : List ℕ) (i a : ℕ) → i < count ws → a ≡ 1 + 3 * i → get_or (nodes_of ws) i blank ≡ at-word ws a
unfolding nodes_of
node_at_lem ws i a h e = triple_at (count ws) (drop 1 ws) i (3 * i) h refl ∙ drop-word ws 1 (3 * i) a (omega arith)

-- the count is within the capacity
pub within-capacity : {K ws : List ℕ} → Sound K ws → count ws ≤ (length ws - 1) / 3
within-capacity {K} {ws} s = omega (arith, s.room)

-- ---- a node is appended

-- vs is ws with the node x in the three words behind the last node, and one more in word 0
pub record Appended (ws : List ℕ) (x : Node) (vs : List ℕ) : Type 0 where
  pub long : length vs ≡ length ws
  pub counted : count vs ≡ suc (count ws)
  pub new_label : get_or vs (1 + 3 * count ws) 0 ≡ x.label
  pub new_lo : get_or vs (2 + 3 * count ws) 0 ≡ x.lo
  pub new_hi : get_or vs (3 + 3 * count ws) 0 ≡ x.hi
  pub before : (j : ℕ) → 0 < j → j ≤ 3 * count ws → get_or vs j 0 ≡ get_or ws j 0
  pub behind : (j : ℕ) → 3 + 3 * count ws < j → get_or vs j 0 ≡ get_or ws j 0

pub appended_nodes : {ws vs : List ℕ} {x : Node} → Appended ws x vs → nodes_of vs ≡ nodes_of ws ++ (x ∷ [])
appended_nodes {ws} {vs} {x} p =
    ext_get_or blank (nodes_of vs) (nodes_of ws ++ (x ∷ []))
    (omega (arith, length-nodes vs, length-nodes ws, length-append (nodes_of ws) (x ∷ []), p.counted))
    (λ i h. go i (eq-or-lt_of_le (omega (arith, length-nodes vs, p.counted))))
  where
    go : (i : ℕ) → (i ≡ count ws) ⊎ (i < count ws) → get_or (nodes_of vs) i blank ≡ get_or (nodes_of ws ++ (x ∷ [])) i blank
    go i (inl e) =
        node_at_lem vs i (1 + 3 * i) (omega (arith, p.counted)) refl
        ∙ (λ d. node (new (1 + 3 * i) (1 + 3 * count ws) x.label (omega arith) p.new_label d)
        (new (1 + 3 * i + 1) (2 + 3 * count ws) x.lo (omega arith) p.new_lo d)
        (new (1 + 3 * i + 2) (3 + 3 * count ws) x.hi (omega arith) p.new_hi d))
        ∙ sym (get_or_at (nodes_of ws) x [] blank i (length-nodes ws ∙ sym e))
      where
        new : (a b v : ℕ) → a ≡ b → get_or vs b 0 ≡ v → get_or vs a 0 ≡ v
        new a b v q e = ap (λ (k : ℕ). get_or vs k 0) q ∙ e
    go i (inr h) =
        node_at_lem vs i (1 + 3 * i) (omega (arith, p.counted)) refl
        ∙ (λ d. node (p.before (1 + 3 * i) (omega arith) (omega arith) d)
        (p.before (1 + 3 * i + 1) (omega arith) (omega arith) d)
        (p.before (1 + 3 * i + 2) (omega arith) (omega arith) d))
        ∙ sym (node_at_lem ws i (1 + 3 * i) h refl)
        ∙ sym (get_or-append (nodes_of ws) (x ∷ []) blank i (omega (arith, length-nodes ws)))

-- THEOREM: a sound table with room stays sound when a node that meets the conditions, and is not there yet, is written
pub appended_sound : {K ws vs : List ℕ} {x : Node} → Sound K ws → Appended ws x vs
    → 3 + 3 * count ws < length ws → count ws < 65534 → Fine K (nodes_of ws) (count ws) x
    → ((i : ℕ) → i < count ws → get_or (nodes_of ws) i blank ≡ x → ⊥)
    → Sound K vs
appended_sound {K} {ws} {vs} {x} s p room few f fresh =
    let n : Nodes K (nodes_of ws ++ (x ∷ [])) =
    nodes-append K (nodes_of ws) x s.nodes (subst (λ (k : ℕ). Fine K (nodes_of ws) k x) (sym (length-nodes ws)) f)
    (λ i h. fresh i (omega (arith, length-nodes ws))) in
    record {
      room = omega (arith, p.counted, p.long);
      few = omega (arith, p.counted);
      nodes = subst (λ (l : List Node). Nodes K l) (sym (appended_nodes p)) n;
      rest = λ j h. p.behind j (omega (arith, p.counted)) ∙ s.rest j (omega (arith, p.counted));
    }

-- the four stores, in the order of the words behind the nodes and then word 0
abbrev pub write : List ℕ → Node → List ℕ
write ws x =
    set (set (set (set ws (1 + 3 * count ws) x.label) (2 + 3 * count ws) x.lo) (3 + 3 * count ws) x.hi) 0 (suc (count ws))

pub written : (ws : List ℕ) (x : Node) → 3 + 3 * count ws < length ws → Appended ws x (write ws x)
written ws x h =
    let n : ℕ = count ws in
    let w1 : List ℕ = set ws (1 + 3 * n) x.label in
    let w2 : List ℕ = set w1 (2 + 3 * n) x.lo in
    let w3 : List ℕ = set w2 (3 + 3 * n) x.hi in
    let l1 : length w1 ≡ length ws = length-set ws (1 + 3 * n) x.label in
    let l2 : length w2 ≡ length ws = length-set w1 (2 + 3 * n) x.lo ∙ l1 in
    let l3 : length w3 ≡ length ws = length-set w2 (3 + 3 * n) x.hi ∙ l2 in
    let far : (j : ℕ) → 0 < j → get_or (set w3 0 (suc n)) j 0 ≡ get_or w3 j 0 = λ j z. get_or-set_other w3 0 j (suc n) 0 (omega arith) in
    let o3 : (j : ℕ) → (j ≡ 3 + 3 * n → ⊥) → get_or w3 j 0 ≡ get_or w2 j 0 = λ j z. get_or-set_other w2 (3 + 3 * n) j x.hi 0 z in
    let o2 : (j : ℕ) → (j ≡ 2 + 3 * n → ⊥) → get_or w2 j 0 ≡ get_or w1 j 0 = λ j z. get_or-set_other w1 (2 + 3 * n) j x.lo 0 z in
    let o1 : (j : ℕ) → (j ≡ 1 + 3 * n → ⊥) → get_or w1 j 0 ≡ get_or ws j 0 = λ j z. get_or-set_other ws (1 + 3 * n) j x.label 0 z in
    record {
      long = length-set w3 0 (suc n) ∙ l3;
      counted = get_or-set_same w3 0 (suc n) 0 (omega arith);
      new_label =
          far (1 + 3 * n) (omega arith) ∙ o3 (1 + 3 * n) (omega arith) ∙ o2 (1 + 3 * n) (omega arith)
          ∙ get_or-set_same ws (1 + 3 * n) x.label 0 (omega arith);
      new_lo = far (2 + 3 * n) (omega arith) ∙ o3 (2 + 3 * n) (omega arith) ∙ get_or-set_same w1 (2 + 3 * n) x.lo 0 (omega arith);
      new_hi = far (3 + 3 * n) (omega arith) ∙ get_or-set_same w2 (3 + 3 * n) x.hi 0 (omega arith);
      before = λ j z b. far j z ∙ o3 j (omega arith) ∙ o2 j (omega arith) ∙ o1 j (omega arith);
      behind = λ j b. far j (omega arith) ∙ o3 j (omega arith) ∙ o2 j (omega arith) ∙ o1 j (omega arith);
    }

-- the same at places and at a count that are known by equations, as code computes them
pub stored : (ws : List ℕ) (x : Node) (a b c m : ℕ) → 3 + 3 * count ws < length ws
    → a ≡ 1 + 3 * count ws → b ≡ 2 + 3 * count ws → c ≡ 3 + 3 * count ws → m ≡ suc (count ws)
    → Appended ws x (set (set (set (set ws a x.label) b x.lo) c x.hi) 0 m)
stored ws x a b c m h ea eb ec em =
    subst (λ (vs : List ℕ). Appended ws x vs)
    (λ i. set (set (set (set ws (sym ea i) x.label) (sym eb i) x.lo) (sym ec i) x.hi) 0 (sym em i))
    (written ws x h)
