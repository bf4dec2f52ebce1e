-- The laws of growth: it is reflexive and transitive, and keeps the families of the old numbers. Assumes nothing.
use mathlib.Core.Path.{◌≡◌, refl, sym, ap, ◌∙◌}
use mathlib.Core.List.{List, [], ◌∷◌, ◌++◌}
use Prim.Native.Nat.{ℕ, ◌+◌, ◌*◌, ◌<◌, ◌≤◌}
use native.Mathlib.Omega.{arith}
use lib.ListN.{length, get_or, take, drop, take-append-drop, length-take}
use lib.Seq.{take-take, take-length, get_or-take, take_at}
use Rattle.zdd.specs.Table.{Node, blank, count, nodes_of, family, Sound}
use Rattle.zdd.proofs.Grow.{family-append}
use Rattle.zdd.proofs.Words.{at-word, node_at_lem, length-nodes, Appended, appended_nodes}
use Rattle.table.specs.State.{Grown}

pub grown_refl : {K t : List ℕ} → Sound K t → Grown K t t
grown_refl {K} {t} s = record {
  long = refl;
  sound = s;
  old = ap (λ (n : ℕ). take n (nodes_of t)) (sym (length-nodes t)) ∙ take-length (nodes_of t);
}

-- there are no fewer nodes
pub grown_more : {K t t' : List ℕ} → Grown K t t' → count t ≤ count t'
grown_more {K} {t} {t'} g = omega (arith, length-take (count t) (nodes_of t'), ap length g.old, length-nodes t, length-nodes t')

pub grown_trans : {K t t' t'' : List ℕ} → Grown K t t' → Grown K t' t'' → Grown K t t''
grown_trans {K} {t} {t'} {t''} g h = record {
  long = h.long ∙ g.long;
  sound = h.sound;
  old = sym (take-take (count t) (count t') (nodes_of t'') (grown_more g)) ∙ ap (take (count t)) h.old ∙ g.old;
}

-- the old nodes, then new ones
pub grown_nodes : {K t t' : List ℕ} → Grown K t t' → nodes_of t' ≡ nodes_of t ++ drop (count t) (nodes_of t')
grown_nodes {K} {t} {t'} g =
    sym (take-append-drop (count t) (nodes_of t')) ∙ ap (λ (l : List Node). l ++ drop (count t) (nodes_of t')) g.old

-- THEOREM: an old number's family is as it was
pub grown_family : {K t t' : List ℕ} → Grown K t t' → (k : ℕ) → k < count t + 2 → family (nodes_of t') k ≡ family (nodes_of t) k
grown_family {K} {t} {t'} g k h =
    ap (λ (l : List Node). family l k) (grown_nodes g) ∙ family-append (nodes_of t) (drop (count t) (nodes_of t')) k (omega (arith, length-nodes t))

pub grown_node : {K t t' : List ℕ} → Grown K t t' → (i : ℕ) → i < count t → get_or (nodes_of t') i blank ≡ get_or (nodes_of t) i blank
grown_node {K} {t} {t'} g i h =
    sym (get_or-take (count t) (nodes_of t') i blank h) ∙ ap (λ (l : List Node). get_or l i blank) g.old

-- the three words of an old node
pub grown_word : {K t t' : List ℕ} → Grown K t t' → (i a : ℕ) → i < count t → a ≡ 1 + 3 * i → at-word t' a ≡ at-word t a
grown_word {K} {t} {t'} g i a h e = sym (node_at_lem t' i a (omega (arith, grown_more g)) e) ∙ grown_node g i h ∙ node_at_lem t i a h e

-- a node is appended
pub grown_append : {K t t' : List ℕ} {x : Node} → Appended t x t' → Sound K t' → Grown K t t'
grown_append {K} {t} {t'} {x} p s = record {
  long = p.long;
  sound = s;
  old = ap (take (count t)) (appended_nodes p) ∙ take_at (nodes_of t) (x ∷ []) (count t) (length-nodes t);
}
