-- The join by first labels. THEOREM `join-left`: where p comes before every label of F1, F0 and G, the join of the fork of p, F1 and F0 with G is the fork of
-- p and the joins of F1 and of F0 with G. `split_join_left`, `split_join_right`: the same for the numbers of a table. Assumes nothing.
use mathlib.Core.Path.{◌≡◌, sym, ap, ◌∙◌, subst, subst⁻¹}
use mathlib.Core.Logic.{⊎_elim}
use mathlib.Core.Bool.{Bool, true, ◌||◌, or_assoc}
use mathlib.Core.List.{List, ◌∷◌}
use Prim.Native.Nat.{ℕ, suc, ◌<◌}
use lib.Dec.{eqb}
use lib.ListN.{length, get_or}
use Rattle.base.proofs.Bools.{same_test, or_cases, or_right}
use Rattle.zdd.specs.Table.{Node, blank, Family, fork, family, key, sets, elem, has, Over, Nodes, Keys}
use Rattle.zdd.specs.Operations.{is_union, join, Apart}
use Rattle.zdd.specs.Work.{From, Split}
use Rattle.zdd.proofs.Member.{from_of, family_from, fork-of, fork-hi, fork-lo}
use Rattle.zdd.proofs.Canon.{family-parts, label-set}
use Rattle.zdd.proofs.Listing.{Listed, has_first, listed-elem, listed_same, listed-fork, family-listed}
use Rattle.zdd.proofs.Ordered.{sets_ext}
use Rattle.zdd.proofs.Restrict.{labels_from}
use Rattle.zdd.proofs.Parts.{hi-listed, lo-listed, hi_after, lo_after}
use Rattle.zdd.proofs.Unions.{union_labels, labels_union, merge, merge_set, merge_union}
use Rattle.zdd.proofs.Join.{Joined, listed-join, join-set, join_means, join-of, join_comm}

module _ (K : List ℕ) (k : Keys K) where
  -- the same two sets, the first as one of another family
  joined_by : (F F' G : Family) {s : List ℕ} (r : Joined K F G s) → elem r.first F' ≡ true → Joined K F' G s
  joined_by F F' G r e = record {
    first = r.first;
    second = r.second;
    first-set = r.first-set;
    second_set = r.second_set;
    first_in = e;
    second_in = r.second_in;
    union = r.union;
  }

  pub from_join : (b : ℕ) (F G : Family) → Listed K F → Listed K G → From K b F → From K b G → From K b (join K F G)
  from_join b F G lf lg f g = from_of K b (join K F G) (λ q t e.
      let r = join-of K F G (q ∷ t) e in
      ⊎_elim (labels_from K k b F lf f r.first r.first_in q) (labels_from K k b G lg g r.second r.second_in q)
      (or_cases (has q r.first) (has q r.second) (sym (union_labels r.first r.second (q ∷ t) r.union q) ∙ has_first q t)))

  module _ (p : ℕ) (known : p < length K) (F1 F0 G : Family) (l1 : Listed K F1) (l0 : Listed K F0) (lg : Listed K G)
      (f1 : From K (suc (key K p)) F1) (f0 : From K (suc (key K p)) F0) (g : From K (suc (key K p)) G) where
    hi_from : From K (suc (key K p)) (join K F1 G)
    hi_from = from_join (suc (key K p)) F1 G l1 lg f1 g

    lo_from : From K (suc (key K p)) (join K F0 G)
    lo_from = from_join (suc (key K p)) F0 G l0 lg f0 g

    abbrev whole : Family
    whole = join K (fork p F1 F0) G

    abbrev parts : Family
    parts = fork p (join K F1 G) (join K F0 G)

    parts-listed : Listed K parts
    parts-listed = listed-fork K k p known (join K F1 G) (join K F0 G) hi_from lo_from (listed-join K F1 G) (listed-join K F0 G)

    -- a set of the fork, one of G, and their union: s has p where the first has it
    to : (s : List ℕ) → elem s whole ≡ true → elem s parts ≡ true
    unfolding has
    to s e = ⊎_elim by_hi by_lo (fork-of p r.first F1 F0 r.first_in)
      where
        c : elem s (sets K) ≡ true
        c = join-set K (fork p F1 F0) G s e

        r : Joined K (fork p F1 F0) G s
        r = join-of K (fork p F1 F0) G s e

        by_lo : elem r.first F0 ≡ true → elem s parts ≡ true
        by_lo d = fork-lo p s (join K F1 G) (join K F0 G) ((join_means K F0 G s c).1 (joined_by (fork p F1 F0) F0 G r d))

        by_hi : (u : List ℕ) × (r.first ≡ p ∷ u) × (elem u F1 ≡ true) → elem s parts ≡ true
        by_hi (u, q, d) =
            let v : List ℕ = r.second in
            let a : elem u (sets K) ≡ true = listed-elem K F1 l1 u d in
            let x : is_union u v (merge K u v) ≡ true = merge_union K u v a r.second_set in
            let in-hi : elem (merge K u v) (join K F1 G) ≡ true =
            (join_means K F1 G (merge K u v) (merge_set K u v)).1
            (record { first = u; second = v; first-set = a; second_set = r.second_set; first_in = d; second_in = r.second_in; union = x }) in
            let there : elem (p ∷ merge K u v) parts ≡ true = fork-hi p (merge K u v) (join K F1 G) (join K F0 G) in-hi in
            let same : s ≡ p ∷ merge K u v =
            sets_ext K k s (p ∷ merge K u v) c (listed-elem K parts parts-listed (p ∷ merge K u v) there) (λ y.
            union_labels r.first v s r.union y ∙ ap (λ (w : List ℕ). has y w || has y v) q ∙ or_assoc (eqb y p) (has y u) (has y v)
            ∙ ap (λ (b : Bool). eqb y p || b) (sym (union_labels u v (merge K u v) x y))) in
            ap (λ (w : List ℕ). elem w parts) same ∙ there

    back : (s : List ℕ) → elem s parts ≡ true → elem s whole ≡ true
    unfolding has
    back s e = ⊎_elim by_hi by_lo (fork-of p s (join K F1 G) (join K F0 G) e)
      where
        c : elem s (sets K) ≡ true
        c = listed-elem K parts parts-listed s e

        by_lo : elem s (join K F0 G) ≡ true → elem s whole ≡ true
        by_lo d =
            let r = join-of K F0 G s d in
            (join_means K (fork p F1 F0) G s c).1 (joined_by F0 (fork p F1 F0) G r (fork-lo p r.first F1 F0 r.first_in))

        by_hi : (t : List ℕ) × (s ≡ p ∷ t) × (elem t (join K F1 G) ≡ true) → elem s whole ≡ true
        by_hi (t, q, d) =
            let r = join-of K F1 G t d in
            let i : elem (p ∷ r.first) (fork p F1 F0) ≡ true = fork-hi p r.first F1 F0 r.first_in in
            (join_means K (fork p F1 F0) G s c).1 (record {
              first = p ∷ r.first;
              second = r.second;
              first-set = listed-elem K (fork p F1 F0) (listed-fork K k p known F1 F0 f1 f0 l1 l0) (p ∷ r.first) i;
              second_set = r.second_set;
              first_in = i;
              second_in = r.second_in;
              union = labels_union (p ∷ r.first) r.second s (λ y.
                  ap (has y) q ∙ ap (λ (b : Bool). eqb y p || b) (union_labels r.first r.second t r.union y)
                  ∙ sym (or_assoc (eqb y p) (has y r.first) (has y r.second)));
            })

    -- THEOREM
    pub join-left : Split K (join K (fork p F1 F0) G) p (join K F1 G) (join K F0 G)
    join-left = record {
      is = listed_same K k whole parts (listed-join K (fork p F1 F0) G) parts-listed (λ s. same_test (elem s whole) (elem s parts) (to s) (back s));
      hi_from = hi_from;
      lo_from = lo_from;
    }

-- ---- the same for the numbers of a table

module _ {K : List ℕ} (k : Keys K) {ns : List Node} (n : Nodes K ns) where
  -- a node, and a number that begins after its label
  pub split_join_left : (i g : ℕ) → i < length ns → g < suc (suc (length ns)) → Over K ns (suc (key K (get_or ns i blank).label)) g
      → Split K (join K (family ns (suc (suc i))) (family ns g)) (get_or ns i blank).label
      (join K (family ns (get_or ns i blank).hi) (family ns g)) (join K (family ns (get_or ns i blank).lo) (family ns g))
  split_join_left i g w b o =
      let x : Node = get_or ns i blank in
      subst⁻¹ (λ (F : Family). Split K (join K F (family ns g)) x.label (join K (family ns x.hi) (family ns g)) (join K (family ns x.lo) (family ns g))) (family-parts n i w)
      (join-left K k x.label (n.each i w).label-known (family ns x.hi) (family ns x.lo) (family ns g)
      (hi-listed k n i w) (lo-listed k n i w) (family-listed k n g b) (hi_after k n i w) (lo_after k n i w) (family_from n g b (suc (key K x.label)) o))

  -- a number that begins after a node's label, and the node
  pub split_join_right : (f j : ℕ) → f < suc (suc (length ns)) → j < length ns → Over K ns (suc (key K (get_or ns j blank).label)) f
      → Split K (join K (family ns f) (family ns (suc (suc j)))) (get_or ns j blank).label
      (join K (family ns f) (family ns (get_or ns j blank).hi)) (join K (family ns f) (family ns (get_or ns j blank).lo))
  split_join_right f j a w o =
      let turn : (g : ℕ) → join K (family ns g) (family ns f) ≡ join K (family ns f) (family ns g) = λ g. join_comm K k (family ns g) (family ns f) in
      rw (sym (turn (suc (suc j))), sym (turn (get_or ns j blank).hi), sym (turn (get_or ns j blank).lo)) (split_join_left j f w a o)

-- ---- families with no label in common

-- a node's children have no other labels than the node
module _ {K : List ℕ} {ns : List Node} (n : Nodes K ns) (i : ℕ) (w : i < length ns) {G : Family} (x : Apart (family ns (suc (suc i))) G) where
  abbrev label : ℕ
  label = (get_or ns i blank).label

  abbrev F1 : Family
  F1 = family ns (get_or ns i blank).hi

  abbrev F0 : Family
  F0 = family ns (get_or ns i blank).lo

  fork-apart : Apart (fork label F1 F0) G
  fork-apart = subst (λ (F : Family). Apart F G) (family-parts n i w) x

  pub hi-apart : Apart (family ns (get_or ns i blank).hi) G
  unfolding has
  hi-apart = record { clash = λ u v a b q h. fork-apart.clash (label ∷ u) v (fork-hi label u F1 F0 a) b q (or_right (eqb q label) (has q u) h) }

  pub lo-apart : Apart (family ns (get_or ns i blank).lo) G
  lo-apart = record { clash = λ u v a b. fork-apart.clash u v (fork-lo label u F1 F0 a) b }

-- two nodes with one label are not apart
pub labels_apart : {K : List ℕ} {ns : List Node} → Nodes K ns → (i j : ℕ) → i < length ns → j < length ns
    → Apart (family ns (suc (suc i))) (family ns (suc (suc j))) → (get_or ns i blank).label ≡ (get_or ns j blank).label → ⊥
labels_apart {K} {ns} n i j a b x e =
    let p : ℕ = (get_or ns i blank).label in
    let u = label-set n i a in
    let v = label-set n j b in
    x.clash (p ∷ u.0) ((get_or ns j blank).label ∷ v.0) u.1 v.1 p (has_first p u.0)
    (subst⁻¹ (λ (q : ℕ). has q ((get_or ns j blank).label ∷ v.0) ≡ true) e (has_first (get_or ns j blank).label v.0))
