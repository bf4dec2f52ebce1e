-- The parts of two numbers at the earlier of their first labels: what the parts make is a part of what the numbers make, whatever the operation.
-- Assumes nothing.
use mathlib.Core.Path.{◌≡◌, refl, sym, ap, subst, subst⁻¹, ◌∙◌}
use mathlib.Core.Bool.{Bool, false, ◌&&◌, ◌||◌}
use mathlib.Core.List.{List}
use Prim.Native.Nat.{ℕ, suc, ◌+◌, ◌-◌, ◌*◌, ◌<◌, ◌≤◌}
use native.Mathlib.Omega.{arith}
use native.Mathlib.Decide.{dec_lt}
use lib.ListN.{length, get_or}
use Rattle.zdd.specs.Table.{Node, blank, count, nodes_of, family, key, Over, Fine, Nodes, Sound, Keys}
use Rattle.zdd.specs.Work.{Split}
use Rattle.zdd.specs.Operations.{combine, minus}
use Rattle.zdd.proofs.Grow.{family-zero}
use Rattle.zdd.proofs.Words.{length-nodes}
use Rattle.zdd.proofs.TableLaws.{over-of-key}
use Rattle.zdd.proofs.Parts.{split_same, split_left, split_right}
use Rattle.zdd.proofs.Join.{apart-turn}
use Rattle.zdd.proofs.JoinParts.{split_join_left, split_join_right, hi-apart, lo-apart, labels_apart}
use Rattle.family.specs.declared.Operation.{Operation}
use Rattle.family.specs.declared.Operation.TheVariants.{Union, Intersection, Difference, Join}
use Rattle.family.specs.Memo.{combined, Combinable, beside_of, Two, Top, Cut}
use Rattle.family.proofs.RestrictLaws.{two_more, word-node, word-label}

-- ---- the number beside a label that it lacks

pub beside-join : (op : Operation) (k : ℕ) → op ≡ Join → beside_of op k ≡ k
beside-join op k h = ap (λ (o : Operation). beside_of o k) h

beside_most : (op : Operation) (k : ℕ) → beside_of op k ≤ k
beside_most Union k = omega arith
beside_most Intersection k = omega arith
beside_most Difference k = omega arith
beside_most Join k = omega arith

-- ---- nodes

module _ {K : List ℕ} (k : Keys K) {ns : List Node} (n : Nodes K ns) where
  abbrev node_at : ℕ → Node
  node_at i = get_or ns i blank

  -- a node, and a number that begins after its label: the operations that are tests of membership, and then all
  left_tested : (o : Bool → Bool → Bool) → o false false ≡ false
      → (i g : ℕ) → i < length ns → g < suc (suc (length ns)) → Over K ns (suc (key K (node_at i).label)) g
      → Split K (combine o K (family ns (suc (suc i))) (family ns g)) (node_at i).label
      (combine o K (family ns (node_at i).hi) (family ns 0)) (combine o K (family ns (node_at i).lo) (family ns g))
  left_tested o z i g w b v = rw (family-zero ns) (split_left k n o z i g w b v)

  left_split : (op : Operation) (i g : ℕ) → i < length ns → g < suc (suc (length ns)) → Over K ns (suc (key K (node_at i).label)) g
      → Split K (combined op K (family ns (suc (suc i))) (family ns g)) (node_at i).label
      (combined op K (family ns (node_at i).hi) (family ns (beside_of op g))) (combined op K (family ns (node_at i).lo) (family ns g))
  left_split Union = left_tested ◌||◌ refl
  left_split Intersection = left_tested ◌&&◌ refl
  left_split Difference = left_tested minus refl
  left_split Join = split_join_left k n

  pub node-left : (op : Operation) (i g : ℕ) → i < length ns → g < suc (suc (length ns)) → Over K ns (suc (key K (node_at i).label)) g → Combinable op ns (suc (suc i)) g
      → Cut op K ns (suc (suc i)) g (node_at i).label (node_at i).hi (beside_of op g) (node_at i).lo g
  node-left op i g w b v c =
      let x : Fine K ns i (node_at i) = n.each i w in
      record {
        label-known = x.label-known;
        f1_known = omega (arith, x.hi-below);
        g1_known = omega (arith, beside_most op g);
        f0_known = omega (arith, x.lo-below);
        g0_known = b;
        falls1 = omega (arith, x.hi-below, beside_most op g);
        falls0 = omega (arith, x.lo-below);
        hi_combinable = λ l. rw (beside-join op g l) (hi-apart n i w (c l));
        lo_combinable = λ l. lo-apart n i w (c l);
        split = left_split op i g w b v;
      }

  -- a number that begins after a node's label, and the node: the same
  right_tested : (o : Bool → Bool → Bool) → o false false ≡ false
      → (f j : ℕ) → f < suc (suc (length ns)) → j < length ns → Over K ns (suc (key K (node_at j).label)) f
      → Split K (combine o K (family ns f) (family ns (suc (suc j)))) (node_at j).label
      (combine o K (family ns 0) (family ns (node_at j).hi)) (combine o K (family ns f) (family ns (node_at j).lo))
  right_tested o z f j b w v = rw (family-zero ns) (split_right k n o z f j b w v)

  right_split : (op : Operation) (f j : ℕ) → f < suc (suc (length ns)) → j < length ns → Over K ns (suc (key K (node_at j).label)) f
      → Split K (combined op K (family ns f) (family ns (suc (suc j)))) (node_at j).label
      (combined op K (family ns (beside_of op f)) (family ns (node_at j).hi)) (combined op K (family ns f) (family ns (node_at j).lo))
  right_split Union = right_tested ◌||◌ refl
  right_split Intersection = right_tested ◌&&◌ refl
  right_split Difference = right_tested minus refl
  right_split Join = split_join_right k n

  pub node_right : (op : Operation) (f j : ℕ) → f < suc (suc (length ns)) → j < length ns → Over K ns (suc (key K (node_at j).label)) f → Combinable op ns f (suc (suc j))
      → Cut op K ns f (suc (suc j)) (node_at j).label (beside_of op f) (node_at j).hi f (node_at j).lo
  node_right op f j b w v c =
      let x : Fine K ns j (node_at j) = n.each j w in
      record {
        label-known = x.label-known;
        f1_known = omega (arith, beside_most op f);
        g1_known = omega (arith, x.hi-below);
        f0_known = b;
        g0_known = omega (arith, x.lo-below);
        falls1 = omega (arith, x.hi-below, beside_most op f);
        falls0 = omega (arith, x.lo-below);
        hi_combinable = λ l. rw (beside-join op f l) (apart-turn (hi-apart n j w (apart-turn (c l))));
        lo_combinable = λ l. apart-turn (lo-apart n j w (apart-turn (c l)));
        split = right_split op f j b w v;
      }

  -- two nodes with one label, which have it in common
  same_split : (op : Operation) (i j : ℕ) → i < length ns → j < length ns → (node_at i).label ≡ (node_at j).label → Combinable op ns (suc (suc i)) (suc (suc j))
      → Split K (combined op K (family ns (suc (suc i))) (family ns (suc (suc j)))) (node_at i).label
      (combined op K (family ns (node_at i).hi) (family ns (node_at j).hi)) (combined op K (family ns (node_at i).lo) (family ns (node_at j).lo))
  same_split Union i j a b e c = split_same k n ◌||◌ refl i j a b e
  same_split Intersection i j a b e c = split_same k n ◌&&◌ refl i j a b e
  same_split Difference i j a b e c = split_same k n minus refl i j a b e
  same_split Join i j a b e c = absurd (labels_apart n i j a b (c refl) e)

  pub node-same : (op : Operation) (i j : ℕ) → i < length ns → j < length ns → (node_at i).label ≡ (node_at j).label → Combinable op ns (suc (suc i)) (suc (suc j))
      → Cut op K ns (suc (suc i)) (suc (suc j)) (node_at i).label (node_at i).hi (node_at j).hi (node_at i).lo (node_at j).lo
  node-same op i j a b e c =
      let x : Fine K ns i (node_at i) = n.each i a in
      let y : Fine K ns j (node_at j) = n.each j b in
      record {
        label-known = x.label-known;
        f1_known = omega (arith, x.hi-below);
        g1_known = omega (arith, y.hi-below);
        f0_known = omega (arith, x.lo-below);
        g0_known = omega (arith, y.lo-below);
        falls1 = omega (arith, x.hi-below, y.hi-below);
        falls0 = omega (arith, x.lo-below, y.lo-below);
        hi_combinable = λ l. absurd (labels_apart n i j a b (c l) e);
        lo_combinable = λ l. absurd (labels_apart n i j a b (c l) e);
        split = same_split op i j a b e c;
      }

-- ---- the key of a number's label

pub two_turn : {f g : ℕ} → Two f g → Two g f
two_turn w = record { some = w.other; other = w.some; differ = λ e. w.differ (sym e) }

-- of two numbers the one whose label is not the later has one
pub top-node : {K : List ℕ} {ns : List Node} {f g a b : ℕ} → Top K ns f a → Top K ns g b → Two f g → a ≤ b → 2 ≤ f
top-node {K} {ns} {f} {g} ta tb w h = go (dec_lt f 2) (dec_lt g 2)
  where
    go : Dec (f < 2) → Dec (g < 2) → 2 ≤ f
    go (no x) y = omega arith
    go (yes x) (no y) = absurd (omega (arith, ta.end x, (tb.key_of (omega arith)).1))
    go (yes x) (yes y) = let e : f ≡ g = omega (arith, w.some, w.other) in absurd (w.differ e)

pub top_end : (K : List ℕ) (ns : List Node) (f : ℕ) → f < 2 → Top K ns f 4294967296
top_end K ns f h = record { end = λ z. refl; key_of = λ z. absurd (omega arith) }

pub top_of : {K t : List ℕ} → Sound K t → (f a : ℕ) → 2 ≤ f → f < count t + 2 → a ≡ 3 * f - 5
    → (r : ℕ) → r ≡ get_or K (get_or t a 0) 0 → r < 4294967296 → Top K (nodes_of t) f r
top_of {K} {t} s f a l w e r q z = record {
  end = λ h. absurd (omega arith);
  key_of = λ h. (q ∙ ap (λ (x : ℕ). get_or K x 0) (sym (word-label s f a l w e)), z);
}

-- ---- the words of two numbers

module _ {K t : List ℕ} (s : Sound K t) (k : Keys K) {f g : ℕ} (w : (f < count t + 2) × (g < count t + 2)) (two : Two f g) {a b : ℕ} (ta : Top K (nodes_of t) f a) (tb : Top K (nodes_of t) g b)
    (op : Operation) (c : Combinable op (nodes_of t) f g) where
  -- the node of a number
  abbrev node_of : ℕ → Node
  node_of j = get_or (nodes_of t) (j - 2) blank

  lenf : f < suc (suc (length (nodes_of t)))
  lenf = omega (arith, w.0, length-nodes t)

  leng : g < suc (suc (length (nodes_of t)))
  leng = omega (arith, w.1, length-nodes t)

  -- f's label is the earlier one
  pub cut_left : (v g1 : ℕ) → v ≡ 3 * f - 5 → g1 ≡ beside_of op g → a < b
      → Cut op K (nodes_of t) f g (get_or t v 0) (get_or t (v + 2) 0) g1 (get_or t (v + 1) 0) g
  cut_left v g1 e e1 h =
      let l : 2 ≤ f = top-node ta tb two (omega arith) in
      let back : suc (suc (f - 2)) ≡ f = two_more f l in
      subst⁻¹ (λ (j : ℕ). Cut op K (nodes_of t) f g (get_or t v 0) (get_or t (v + 2) 0) j (get_or t (v + 1) 0) g) e1
      (subst (λ (x : Node). Cut op K (nodes_of t) f g x.label x.hi (beside_of op g) x.lo g) (word-node s f v l w.0 e)
      (subst (λ (j : ℕ). Cut op K (nodes_of t) j g (node_of f).label (node_of f).hi (beside_of op g) (node_of f).lo g) back
      (node-left k s.nodes op (f - 2) g (omega (arith, lenf)) leng
      (over-of-key K (nodes_of t) (suc (key K (node_of f).label)) g (λ z. omega (arith, (ta.key_of l).0, (tb.key_of z).0)))
      (subst⁻¹ (λ (j : ℕ). Combinable op (nodes_of t) j g) back c))))

  -- g's is
  pub cut_right : (v f1 : ℕ) → v ≡ 3 * g - 5 → f1 ≡ beside_of op f → b < a
      → Cut op K (nodes_of t) f g (get_or t v 0) f1 (get_or t (v + 2) 0) f (get_or t (v + 1) 0)
  cut_right v f1 e e1 h =
      let l : 2 ≤ g = top-node tb ta (two_turn two) (omega arith) in
      let back : suc (suc (g - 2)) ≡ g = two_more g l in
      subst⁻¹ (λ (j : ℕ). Cut op K (nodes_of t) f g (get_or t v 0) j (get_or t (v + 2) 0) f (get_or t (v + 1) 0)) e1
      (subst (λ (x : Node). Cut op K (nodes_of t) f g x.label (beside_of op f) x.hi f x.lo) (word-node s g v l w.1 e)
      (subst (λ (j : ℕ). Cut op K (nodes_of t) f j (node_of g).label (beside_of op f) (node_of g).hi f (node_of g).lo) back
      (node_right k s.nodes op f (g - 2) lenf (omega (arith, leng))
      (over-of-key K (nodes_of t) (suc (key K (node_of g).label)) f (λ z. omega (arith, (tb.key_of l).0, (ta.key_of z).0)))
      (subst⁻¹ (λ (j : ℕ). Combinable op (nodes_of t) f j) back c))))

  -- they have one label
  pub cut-same : (v x : ℕ) → v ≡ 3 * f - 5 → x ≡ 3 * g - 5 → a ≡ b
      → Cut op K (nodes_of t) f g (get_or t v 0) (get_or t (v + 2) 0) (get_or t (x + 2) 0) (get_or t (v + 1) 0) (get_or t (x + 1) 0)
  cut-same v x ev ex e =
      let lf : 2 ≤ f = top-node ta tb two (omega arith) in
      let lg : 2 ≤ g = top-node tb ta (two_turn two) (omega arith) in
      let backf : suc (suc (f - 2)) ≡ f = two_more f lf in
      let backg : suc (suc (g - 2)) ≡ g = two_more g lg in
      let i : f - 2 < length (nodes_of t) = omega (arith, lenf) in
      let j : g - 2 < length (nodes_of t) = omega (arith, leng) in
      subst (λ (y : Node). Cut op K (nodes_of t) f g y.label y.hi (get_or t (x + 2) 0) y.lo (get_or t (x + 1) 0)) (word-node s f v lf w.0 ev)
      (subst (λ (y : Node). Cut op K (nodes_of t) f g (node_of f).label (node_of f).hi y.hi (node_of f).lo y.lo) (word-node s g x lg w.1 ex)
      (subst (λ (m : ℕ). Cut op K (nodes_of t) f m (node_of f).label (node_of f).hi (node_of g).hi (node_of f).lo (node_of g).lo) backg
      (subst (λ (m : ℕ). Cut op K (nodes_of t) m (suc (suc (g - 2))) (node_of f).label (node_of f).hi (node_of g).hi (node_of f).lo (node_of g).lo) backf
      (node-same k s.nodes op (f - 2) (g - 2) i j
      (k.apart (node_of f).label (node_of g).label (s.nodes.each (f - 2) i).label-known (s.nodes.each (g - 2) j).label-known
      (sym (ta.key_of lf).0 ∙ e ∙ (tb.key_of lg).0))
      (subst⁻¹ (λ (m : ℕ). Combinable op (nodes_of t) m (suc (suc (g - 2)))) backf (subst⁻¹ (λ (m : ℕ). Combinable op (nodes_of t) f m) backg c))))))
