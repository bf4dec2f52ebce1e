-- The operations on the numbers of a table, by their first labels: what the children make is a part of what the numbers make, in each case of the
-- recursion. Assumes nothing.
use mathlib.Core.Path.{◌≡◌, sym, ap, ◌∙◌, subst}
use mathlib.Core.Bool.{Bool, false}
use mathlib.Core.List.{List, []}
use Prim.Native.Nat.{ℕ, suc, ◌<◌}
use native.Mathlib.Omega.{arith}
use lib.Dec.{eqb}
use lib.ListN.{length, get_or}
use Rattle.zdd.specs.Table.{Node, blank, Family, fork, family, key, Over, Nodes, Keys}
use Rattle.zdd.proofs.Grow.{family-node}
use Rattle.zdd.specs.Work.{From, Split}
use Rattle.zdd.proofs.Member.{from_nil, family_from}
use Rattle.zdd.proofs.Listing.{Listed, listed_nil, family-listed}
use Rattle.zdd.specs.Operations.{combine, including, excluding}
use Rattle.zdd.proofs.Operations.{from_combine, nodes-same, nodes-left, nodes_right}
use Rattle.zdd.proofs.Restrict.{including_after, excluding_after, including_other, excluding_other, including-same, excluding-same}

module _ {K : List ℕ} (k : Keys K) {ns : List Node} (n : Nodes K ns) where
  -- the parts of the node at index i
  pub hi-listed : (i : ℕ) → i < length ns → Listed K (family ns (get_or ns i blank).hi)
  hi-listed i w = family-listed k n (get_or ns i blank).hi (omega (arith, (n.each i w).hi-below))

  pub lo-listed : (i : ℕ) → i < length ns → Listed K (family ns (get_or ns i blank).lo)
  lo-listed i w = family-listed k n (get_or ns i blank).lo (omega (arith, (n.each i w).lo-below))

  pub hi_after : (i : ℕ) → i < length ns → From K (suc (key K (get_or ns i blank).label)) (family ns (get_or ns i blank).hi)
  hi_after i w = family_from n (get_or ns i blank).hi (omega (arith, (n.each i w).hi-below)) (suc (key K (get_or ns i blank).label)) (n.each i w).hi_after

  pub lo_after : (i : ℕ) → i < length ns → From K (suc (key K (get_or ns i blank).label)) (family ns (get_or ns i blank).lo)
  lo_after i w = family_from n (get_or ns i blank).lo (omega (arith, (n.each i w).lo-below)) (suc (key K (get_or ns i blank).label)) (n.each i w).lo_after

  -- ---- union, intersection, difference

  module _ (op : Bool → Bool → Bool) (off : op false false ≡ false) where
    -- two nodes with one label
    pub split_same : (i j : ℕ) → i < length ns → j < length ns → (get_or ns i blank).label ≡ (get_or ns j blank).label
        → Split K (combine op K (family ns (suc (suc i))) (family ns (suc (suc j)))) (get_or ns i blank).label
        (combine op K (family ns (get_or ns i blank).hi) (family ns (get_or ns j blank).hi))
        (combine op K (family ns (get_or ns i blank).lo) (family ns (get_or ns j blank).lo))
    split_same i j a b e = record {
      is = nodes-same op off k n i j a b e;
      hi_from =
          from_combine op K off (suc (key K (get_or ns i blank).label)) (family ns (get_or ns i blank).hi) (family ns (get_or ns j blank).hi)
          (hi-listed i a) (hi-listed j b) (hi_after i a)
          (subst (λ (l : ℕ). From K (suc (key K l)) (family ns (get_or ns j blank).hi)) (sym e) (hi_after j b));
      lo_from =
          from_combine op K off (suc (key K (get_or ns i blank).label)) (family ns (get_or ns i blank).lo) (family ns (get_or ns j blank).lo)
          (lo-listed i a) (lo-listed j b) (lo_after i a)
          (subst (λ (l : ℕ). From K (suc (key K l)) (family ns (get_or ns j blank).lo)) (sym e) (lo_after j b));
    }

    -- a node, and a number that begins after its label
    pub split_left : (i g : ℕ) → i < length ns → g < suc (suc (length ns)) → Over K ns (suc (key K (get_or ns i blank).label)) g
        → Split K (combine op K (family ns (suc (suc i))) (family ns g)) (get_or ns i blank).label
        (combine op K (family ns (get_or ns i blank).hi) [])
        (combine op K (family ns (get_or ns i blank).lo) (family ns g))
    split_left i g a b o = record {
      is = nodes-left op off k n i g a b o;
      hi_from =
          from_combine op K off (suc (key K (get_or ns i blank).label)) (family ns (get_or ns i blank).hi) []
          (hi-listed i a) (listed_nil K) (hi_after i a) (from_nil K (suc (key K (get_or ns i blank).label)));
      lo_from =
          from_combine op K off (suc (key K (get_or ns i blank).label)) (family ns (get_or ns i blank).lo) (family ns g)
          (lo-listed i a) (family-listed k n g b) (lo_after i a) (family_from n g b (suc (key K (get_or ns i blank).label)) o);
    }

    -- a number that begins after a node's label, and the node
    pub split_right : (f j : ℕ) → f < suc (suc (length ns)) → j < length ns → Over K ns (suc (key K (get_or ns j blank).label)) f
        → Split K (combine op K (family ns f) (family ns (suc (suc j)))) (get_or ns j blank).label
        (combine op K [] (family ns (get_or ns j blank).hi))
        (combine op K (family ns f) (family ns (get_or ns j blank).lo))
    split_right f j a b o = record {
      is = nodes_right op off k n f j a b o;
      hi_from =
          from_combine op K off (suc (key K (get_or ns j blank).label)) [] (family ns (get_or ns j blank).hi)
          (listed_nil K) (hi-listed j b) (from_nil K (suc (key K (get_or ns j blank).label))) (hi_after j b);
      lo_from =
          from_combine op K off (suc (key K (get_or ns j blank).label)) (family ns f) (family ns (get_or ns j blank).lo)
          (family-listed k n f a) (lo-listed j b) (family_from n f a (suc (key K (get_or ns j blank).label)) o) (lo_after j b);
    }

  -- ---- the sets that hold p, and those that do not

  node_is : (i : ℕ) → i < length ns → fork (get_or ns i blank).label (family ns (get_or ns i blank).hi) (family ns (get_or ns i blank).lo) ≡ family ns (suc (suc i))
  node_is i w = sym (family-node ns i w (n.each i w).lo-below (n.each i w).hi-below)

  module _ (p : ℕ) where
    -- a number that begins after p
    pub with_after : (g : ℕ) → g < suc (suc (length ns)) → Over K ns (suc (key K p)) g → including K p (family ns g) ≡ []
    with_after g b o = including_after K k p (family ns g) (family-listed k n g b) (family_from n g b (suc (key K p)) o)

    pub without_after : (g : ℕ) → g < suc (suc (length ns)) → Over K ns (suc (key K p)) g → excluding K p (family ns g) ≡ family ns g
    without_after g b o = excluding_after K k p (family ns g) (family-listed k n g b) (family_from n g b (suc (key K p)) o)

    -- a node with another label (one before p, in the recursion)
    pub with_other : (i : ℕ) → i < length ns → eqb p (get_or ns i blank).label ≡ false
        → Split K (including K p (family ns (suc (suc i)))) (get_or ns i blank).label
        (including K p (family ns (get_or ns i blank).hi)) (including K p (family ns (get_or ns i blank).lo))
    with_other i w e =
        subst (λ (F : Family). Split K (including K p F) (get_or ns i blank).label (including K p (family ns (get_or ns i blank).hi)) (including K p (family ns (get_or ns i blank).lo))) (node_is i w)
        (including_other K k p (get_or ns i blank).label (n.each i w).label-known (family ns (get_or ns i blank).hi) (family ns (get_or ns i blank).lo)
        (hi-listed i w) (lo-listed i w) (hi_after i w) (lo_after i w) e)

    pub without_other : (i : ℕ) → i < length ns → eqb p (get_or ns i blank).label ≡ false
        → Split K (excluding K p (family ns (suc (suc i)))) (get_or ns i blank).label
        (excluding K p (family ns (get_or ns i blank).hi)) (excluding K p (family ns (get_or ns i blank).lo))
    without_other i w e =
        subst (λ (F : Family). Split K (excluding K p F) (get_or ns i blank).label (excluding K p (family ns (get_or ns i blank).hi)) (excluding K p (family ns (get_or ns i blank).lo))) (node_is i w)
        (excluding_other K k p (get_or ns i blank).label (n.each i w).label-known (family ns (get_or ns i blank).hi) (family ns (get_or ns i blank).lo)
        (hi-listed i w) (lo-listed i w) (hi_after i w) (lo_after i w) e)

    -- a node with the label p
    pub with-same : (i : ℕ) → i < length ns → (get_or ns i blank).label ≡ p
        → Split K (including K p (family ns (suc (suc i)))) (get_or ns i blank).label (family ns (get_or ns i blank).hi) []
    with-same i w e =
        subst (λ (F : Family). Split K (including K p F) (get_or ns i blank).label (family ns (get_or ns i blank).hi) []) (node_is i w)
        (including-same K k p (get_or ns i blank).label (n.each i w).label-known (family ns (get_or ns i blank).hi) (family ns (get_or ns i blank).lo)
        (hi-listed i w) (lo-listed i w) (hi_after i w) (lo_after i w) e)

    pub without-same : (i : ℕ) → i < length ns → (get_or ns i blank).label ≡ p → excluding K p (family ns (suc (suc i))) ≡ family ns (get_or ns i blank).lo
    without-same i w e =
        ap (excluding K p) (sym (node_is i w))
        ∙ excluding-same K k p (get_or ns i blank).label (n.each i w).label-known (family ns (get_or ns i blank).hi) (family ns (get_or ns i blank).lo)
        (hi-listed i w) (lo-listed i w) (hi_after i w) (lo_after i w) e
