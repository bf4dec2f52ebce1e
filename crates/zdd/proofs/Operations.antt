-- The operations on families, each a filter of all sets by a test on membership in the two families, and their equations by label.
-- Assumes nothing.
use mathlib.Core.Path.{◌≡◌, refl, sym, ap, ap₂, ◌∙◌, subst}
use mathlib.Core.Bool.{Bool, true, false, ◌&&◌, ◌||◌, and_self, or_self, and-not_self, or-false, and-true, and-false}
use mathlib.Core.List.{List, [], ◌∷◌}
use mathlib.Core.Logic.{◌⊎◌, inl, inr}
use Prim.Native.Nat.{ℕ, suc, ◌≤◌, ◌<◌}
use native.Mathlib.Omega.{arith}
use lib.Dec.{eqb}
use lib.ListN.{length, get_or}
use borrow.Author.Tests.{eqb-true}
use Rattle.base.proofs.Bools.{never, drop_test}
use Rattle.zdd.specs.Table.{Node, blank, Family, fork, family, key, Over, Fine, Nodes, Keys, elem, sets}
use Rattle.zdd.proofs.Grow.{family-node}
use Rattle.zdd.proofs.Member.{avoids_at, from_at, from_of, from_nil, from_avoids, family_from, elem-fork-nil, elem-fork-cons}
use Rattle.zdd.specs.Work.{From}
use Rattle.zdd.proofs.Listing.{Listed, listed_nil, listed-fork, listed-filter, listed-elem, listed_same, family-listed, elem-filter}
use Rattle.zdd.specs.Operations.{combine, minus, union, inter, differ}

pub listed-combine : (op : Bool → Bool → Bool) (K : List ℕ) (F G : Family) → Listed K (combine op K F G)
unfolding combine
listed-combine op K F G = listed-filter K (λ t. op (elem t F) (elem t G))

module _ (op : Bool → Bool → Bool) (K : List ℕ) (off : op false false ≡ false) where
  -- a test that passes has one of its two arguments true
  one_of : (a b : Bool) → op a b ≡ true → (a ≡ true) ⊎ (b ≡ true)
  one_of true b e = inl refl
  one_of false true e = inr refl
  one_of false false e = absurd (never e off)

  -- what is in the combination of two listed families
  pub elem-combine : (F G : Family) → Listed K F → Listed K G → (t : List ℕ) → elem t (combine op K F G) ≡ op (elem t F) (elem t G)
  unfolding combine
  elem-combine F G f g t =
      elem-filter (λ t. op (elem t F) (elem t G)) t (sets K)
      ∙ drop_test (op (elem t F) (elem t G)) (elem t (sets K)) (λ e. go (one_of (elem t F) (elem t G) e))
    where
      go : (elem t F ≡ true) ⊎ (elem t G ≡ true) → elem t (sets K) ≡ true
      go (inl e) = listed-elem K F f t e
      go (inr e) = listed-elem K G g t e

  pub from_combine : (b : ℕ) (F G : Family) → Listed K F → Listed K G → From K b F → From K b G → From K b (combine op K F G)
  from_combine b F G lf lg f g = from_of K b (combine op K F G) (λ q t e. go q t (one_of (elem (q ∷ t) F) (elem (q ∷ t) G) (sym (elem-combine F G lf lg (q ∷ t)) ∙ e)))
    where
      go : (q : ℕ) (t : List ℕ) → (elem (q ∷ t) F ≡ true) ⊎ (elem (q ∷ t) G ≡ true) → b ≤ key K q
      go q t (inl e) = from_at K b F f q t e
      go q t (inr e) = from_at K b G g q t e

  -- THEOREM: two families with a first label p in common are combined part by part
  pub combine-fork : Keys K → (p : ℕ) → p < length K → (F1 F0 G1 G0 : Family)
      → Listed K F1 → Listed K F0 → Listed K G1 → Listed K G0
      → From K (suc (key K p)) F1 → From K (suc (key K p)) F0 → From K (suc (key K p)) G1 → From K (suc (key K p)) G0
      → combine op K (fork p F1 F0) (fork p G1 G0) ≡ fork p (combine op K F1 G1) (combine op K F0 G0)
  combine-fork k p h F1 F0 G1 G0 l1 l0 m1 m0 f1 f0 g1 g0 =
      listed_same K k (combine op K (fork p F1 F0) (fork p G1 G0)) (fork p (combine op K F1 G1) (combine op K F0 G0))
      (listed-combine op K (fork p F1 F0) (fork p G1 G0))
      (listed-fork K k p h (combine op K F1 G1) (combine op K F0 G0)
      (from_combine (suc (key K p)) F1 G1 l1 m1 f1 g1) (from_combine (suc (key K p)) F0 G0 l0 m0 f0 g0)
      (listed-combine op K F1 G1) (listed-combine op K F0 G0))
      (λ t. elem-combine (fork p F1 F0) (fork p G1 G0) (listed-fork K k p h F1 F0 f1 f0 l1 l0) (listed-fork K k p h G1 G0 g1 g0 m1 m0) t ∙ same t)
    where
      none : (F : Family) → From K (suc (key K p)) F → (t : List ℕ) → elem (p ∷ t) F ≡ false
      none F f t = avoids_at p F (from_avoids K (suc (key K p)) p F f (omega arith)) t

      -- by whether the set begins with p
      by_label : (c a x b y : Bool) → (c ≡ true → x ≡ false) → (c ≡ true → y ≡ false)
          → op ((c && a) || x) ((c && b) || y) ≡ ((c && op a b) || op x y)
      by_label false a x b y hx hy = refl
      by_label true a x b y hx hy =
          ap₂ op (ap (λ (z : Bool). a || z) (hx refl) ∙ or-false a) (ap (λ (z : Bool). b || z) (hy refl) ∙ or-false b)
          ∙ sym (ap (λ (z : Bool). op a b || z) (ap₂ op (hx refl) (hy refl) ∙ off) ∙ or-false (op a b))

      same : (t : List ℕ) → op (elem t (fork p F1 F0)) (elem t (fork p G1 G0)) ≡ elem t (fork p (combine op K F1 G1) (combine op K F0 G0))
      same [] =
          ap₂ op (elem-fork-nil p F1 F0) (elem-fork-nil p G1 G0)
          ∙ sym (elem-combine F0 G0 l0 m0 [])
          ∙ sym (elem-fork-nil p (combine op K F1 G1) (combine op K F0 G0))
      same (q ∷ t) =
          ap₂ op (elem-fork-cons p q t F1 F0) (elem-fork-cons p q t G1 G0)
          ∙ by_label (eqb q p) (elem t F1) (elem (q ∷ t) F0) (elem t G1) (elem (q ∷ t) G0)
          (λ e. ap (λ (r : ℕ). elem (r ∷ t) F0) (eqb-true q p e) ∙ none F0 f0 t)
          (λ e. ap (λ (r : ℕ). elem (r ∷ t) G0) (eqb-true q p e) ∙ none G0 g0 t)
          ∙ ap₂ (λ (x y : Bool). (eqb q p && x) || y) (sym (elem-combine F1 G1 l1 m1 t)) (sym (elem-combine F0 G0 l0 m0 (q ∷ t)))
          ∙ sym (elem-fork-cons p q t (combine op K F1 G1) (combine op K F0 G0))

  -- the first label stands in F alone: `fork p [] G` is G
  pub combine-left : Keys K → (p : ℕ) → p < length K → (F1 F0 G : Family)
      → Listed K F1 → Listed K F0 → Listed K G
      → From K (suc (key K p)) F1 → From K (suc (key K p)) F0 → From K (suc (key K p)) G
      → combine op K (fork p F1 F0) G ≡ fork p (combine op K F1 []) (combine op K F0 G)
  combine-left k p h F1 F0 G l1 l0 m f1 f0 g =
      combine-fork k p h F1 F0 [] G l1 l0 (listed_nil K) m f1 f0 (from_nil K (suc (key K p))) g

  -- the first label stands in G alone
  pub combine_right : Keys K → (p : ℕ) → p < length K → (F G1 G0 : Family)
      → Listed K F → Listed K G1 → Listed K G0
      → From K (suc (key K p)) F → From K (suc (key K p)) G1 → From K (suc (key K p)) G0
      → combine op K F (fork p G1 G0) ≡ fork p (combine op K [] G1) (combine op K F G0)
  combine_right k p h F G1 G0 l m1 m0 f g1 g0 =
      combine-fork k p h [] F G1 G0 (listed_nil K) l m1 m0 (from_nil K (suc (key K p))) f g1 g0

  -- ---- where the walk ends

  -- the combination is F
  pub combine-first : Keys K → (F G : Family) → Listed K F → Listed K G → ((t : List ℕ) → op (elem t F) (elem t G) ≡ elem t F) → combine op K F G ≡ F
  combine-first k F G f g h = listed_same K k (combine op K F G) F (listed-combine op K F G) f (λ t. elem-combine F G f g t ∙ h t)

  pub combine_second : Keys K → (F G : Family) → Listed K F → Listed K G → ((t : List ℕ) → op (elem t F) (elem t G) ≡ elem t G) → combine op K F G ≡ G
  combine_second k F G f g h = listed_same K k (combine op K F G) G (listed-combine op K F G) g (λ t. elem-combine F G f g t ∙ h t)

  pub combine-none : Keys K → (F G : Family) → Listed K F → Listed K G → ((t : List ℕ) → op (elem t F) (elem t G) ≡ false) → combine op K F G ≡ []
  unfolding elem
  combine-none k F G f g h = listed_same K k (combine op K F G) [] (listed-combine op K F G) (listed_nil K) (λ t. elem-combine F G f g t ∙ h t)

-- ---- each operation where a family is empty, or the two are one

module _ (K : List ℕ) (k : Keys K) (F : Family) (f : Listed K F) where
  pub union-nil : union K F [] ≡ F
  unfolding elem
  union-nil = combine-first ◌||◌ K refl k F [] f (listed_nil K) (λ t. or-false (elem t F))

  pub nil-union : union K [] F ≡ F
  unfolding elem
  nil-union = combine_second ◌||◌ K refl k [] F (listed_nil K) f (λ t. refl)

  pub union_self : union K F F ≡ F
  union_self = combine-first ◌||◌ K refl k F F f f (λ t. or_self (elem t F))

  pub inter-nil : inter K F [] ≡ []
  unfolding elem
  inter-nil = combine-none ◌&&◌ K refl k F [] f (listed_nil K) (λ t. and-false (elem t F))

  pub nil-inter : inter K [] F ≡ []
  unfolding elem
  nil-inter = combine-none ◌&&◌ K refl k [] F (listed_nil K) f (λ t. refl)

  pub inter_self : inter K F F ≡ F
  inter_self = combine-first ◌&&◌ K refl k F F f f (λ t. and_self (elem t F))

  pub differ-nil : differ K F [] ≡ F
  unfolding elem
  differ-nil = combine-first minus K refl k F [] f (listed_nil K) (λ t. and-true (elem t F))

  pub nil-differ : differ K [] F ≡ []
  unfolding elem
  nil-differ = combine-none minus K refl k [] F (listed_nil K) f (λ t. refl)

  pub differ_self : differ K F F ≡ []
  differ_self = combine-none minus K refl k F F f f (λ t. and-not_self (elem t F))

-- ---- the same for the numbers of a table

module _ (op : Bool → Bool → Bool) (off : op false false ≡ false) {K : List ℕ} (k : Keys K) {ns : List Node} (n : Nodes K ns) where
  -- the parts of the node at index i
  parts : (i : ℕ) → i < length ns
      → Listed K (family ns (get_or ns i blank).hi) × Listed K (family ns (get_or ns i blank).lo)
      × From K (suc (key K (get_or ns i blank).label)) (family ns (get_or ns i blank).hi)
      × From K (suc (key K (get_or ns i blank).label)) (family ns (get_or ns i blank).lo)
      × (family ns (suc (suc i)) ≡ fork (get_or ns i blank).label (family ns (get_or ns i blank).hi) (family ns (get_or ns i blank).lo))
  parts i w =
      let x : Node = get_or ns i blank in
      let f : Fine K ns i x = n.each i w in
      let r : x.hi < suc (suc (length ns)) = omega (arith, f.hi-below) in
      let l : x.lo < suc (suc (length ns)) = omega (arith, f.lo-below) in (
        family-listed k n x.hi r,
        family-listed k n x.lo l,
        family_from n x.hi r (suc (key K x.label)) f.hi_after,
        family_from n x.lo l (suc (key K x.label)) f.lo_after,
        family-node ns i w f.lo-below f.hi-below,
      )

  -- two nodes with one label
  pub nodes-same : (i j : ℕ) → i < length ns → j < length ns → (get_or ns i blank).label ≡ (get_or ns j blank).label
      → combine op K (family ns (suc (suc i))) (family ns (suc (suc j)))
      ≡ fork (get_or ns i blank).label
      (combine op K (family ns (get_or ns i blank).hi) (family ns (get_or ns j blank).hi))
      (combine op K (family ns (get_or ns i blank).lo) (family ns (get_or ns j blank).lo))
  nodes-same i j a b e =
      let x : Node = get_or ns i blank in
      let y : Node = get_or ns j blank in
      let p = parts i a in
      let q = parts j b in
      ap₂ (combine op K) p.4 (q.4 ∙ ap (λ (l : ℕ). fork l (family ns y.hi) (family ns y.lo)) (sym e))
      ∙ combine-fork op K off k x.label (n.each i a).label-known (family ns x.hi) (family ns x.lo) (family ns y.hi) (family ns y.lo)
      p.0 p.1 q.0 q.1 p.2 p.3
      (subst (λ (l : ℕ). From K (suc (key K l)) (family ns y.hi)) (sym e) q.2)
      (subst (λ (l : ℕ). From K (suc (key K l)) (family ns y.lo)) (sym e) q.3)

  -- a node, and a number that begins after its label
  pub nodes-left : (i g : ℕ) → i < length ns → g < suc (suc (length ns)) → Over K ns (suc (key K (get_or ns i blank).label)) g
      → combine op K (family ns (suc (suc i))) (family ns g)
      ≡ fork (get_or ns i blank).label (combine op K (family ns (get_or ns i blank).hi) []) (combine op K (family ns (get_or ns i blank).lo) (family ns g))
  nodes-left i g a b o =
      let x : Node = get_or ns i blank in
      let p = parts i a in
      ap (λ (F : Family). combine op K F (family ns g)) p.4
      ∙ combine-left op K off k x.label (n.each i a).label-known (family ns x.hi) (family ns x.lo) (family ns g)
      p.0 p.1 (family-listed k n g b) p.2 p.3 (family_from n g b (suc (key K x.label)) o)

  pub nodes_right : (f j : ℕ) → f < suc (suc (length ns)) → j < length ns → Over K ns (suc (key K (get_or ns j blank).label)) f
      → combine op K (family ns f) (family ns (suc (suc j)))
      ≡ fork (get_or ns j blank).label (combine op K [] (family ns (get_or ns j blank).hi)) (combine op K (family ns f) (family ns (get_or ns j blank).lo))
  nodes_right f j a b o =
      let y : Node = get_or ns j blank in
      let q = parts j b in
      ap (combine op K (family ns f)) q.4
      ∙ combine_right op K off k y.label (n.each j b).label-known (family ns f) (family ns y.hi) (family ns y.lo)
      (family-listed k n f a) q.0 q.1 (family_from n f a (suc (key K y.label)) o) q.2 q.3
