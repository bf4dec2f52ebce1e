-- THEOREM: in a sound table two numbers with one family are one number. Assumes nothing.
use mathlib.Core.Path.{◌≡◌, refl, sym, ap, ap₂, ◌∙◌, subst}
use mathlib.Core.Bool.{true}
use mathlib.Core.List.{List, [], ◌∷◌, cons≢nil, head-eq_of_cons-eq, tail-eq_of_cons-eq}
use Prim.Native.Nat.{ℕ, zero, suc, ◌<◌}
use native.Mathlib.Omega.{arith}
use lib.ListN.{length, get_or}
use Rattle.base.proofs.Bools.{never}
use Rattle.zdd.specs.Table.{Node, node, blank, Family, fork, family, key, Nodes, elem}
use Rattle.zdd.proofs.Grow.{family_ind, downward, family-node, family-zero, family_one}
use Rattle.zdd.proofs.Member.{Avoids, avoids_at, from_avoids, family_from, elem-head}

-- a family that begins with the set p ∷ t is none that avoids p
not-both : (p : ℕ) (t : List ℕ) (F G : Family) → Avoids p F → F ≡ (p ∷ t) ∷ G → ⊥
not-both p t F G a e = never (ap (λ (H : Family). elem (p ∷ t) H) e ∙ elem-head (p ∷ t) G) (avoids_at p F a t)

-- a fork that begins with p is taken apart in one way
cut : (p : ℕ) (F1 F0 G1 G0 : Family) → Avoids p F0 → Avoids p G0 → fork p F1 F0 ≡ fork p G1 G0 → (F1 ≡ G1) × (F0 ≡ G0)
cut p [] F0 [] G0 a b e = (refl, e)
cut p [] F0 (g ∷ G1) G0 a b e = absurd (not-both p g F0 (fork p G1 G0) a e)
cut p (f ∷ F1) F0 [] G0 a b e = absurd (not-both p f G0 (fork p F1 F0) b (sym e))
cut p (f ∷ F1) F0 (g ∷ G1) G0 a b e =
    let r : (F1 ≡ G1) × (F0 ≡ G0) = cut p F1 F0 G1 G0 a b (tail-eq_of_cons-eq e) in
    (ap₂ (λ (x : List ℕ) (xs : Family). x ∷ xs) (tail-eq_of_cons-eq (head-eq_of_cons-eq e)) r.0, r.1)

-- two forks that are one, each by its label: the labels are one
labels : (p q : ℕ) (F1 F0 G1 G0 : Family) → (F1 ≡ [] → ⊥) → (G1 ≡ [] → ⊥) → fork p F1 F0 ≡ fork q G1 G0 → p ≡ q
labels p q [] F0 G1 G0 a b e = absurd (a refl)
labels p q (f ∷ F1) F0 [] G0 a b e = absurd (b refl)
labels p q (f ∷ F1) F0 (g ∷ G1) G0 a b e = head-eq_of_cons-eq (head-eq_of_cons-eq e)

fork-some : (p : ℕ) (F1 F0 : Family) → (F1 ≡ [] → ⊥) → fork p F1 F0 ≡ [] → ⊥
fork-some p [] F0 a e = a refl
fork-some p (f ∷ F1) F0 a e = cons≢nil e

fork_not_one : (p : ℕ) (F1 F0 : Family) → (F1 ≡ [] → ⊥) → fork p F1 F0 ≡ [] ∷ [] → ⊥
fork_not_one p [] F0 a e = a refl
fork_not_one p (f ∷ F1) F0 a e = cons≢nil (head-eq_of_cons-eq e)

-- only number 0 has no set
pub family-some : {K : List ℕ} {ns : List Node} → Nodes K ns → (k : ℕ) → k < suc (suc (length ns)) → 0 < k → family ns k ≡ [] → ⊥
family-some {K} {ns} n k h =
    family_ind ns (downward n) (λ k F. 0 < k → F ≡ [] → ⊥)
    (λ z e. omega arith)
    (λ z e. cons≢nil e)
    (λ i w r l z e. fork-some (get_or ns i blank).label (family ns (get_or ns i blank).hi) (family ns (get_or ns i blank).lo) (r (n.each i w).hi-some) e)
    k h

-- the parts of a node: hi's family has a set, and no set of lo's begins with the label
module _ {K : List ℕ} {ns : List Node} (n : Nodes K ns) (i : ℕ) (w : i < length ns) where
  pub hi-family-some : family ns (get_or ns i blank).hi ≡ [] → ⊥
  hi-family-some = let f = n.each i w in family-some n (get_or ns i blank).hi (omega (arith, f.hi-below)) f.hi-some

  pub lo-family_avoids : Avoids (get_or ns i blank).label (family ns (get_or ns i blank).lo)
  lo-family_avoids =
      let x : Node = get_or ns i blank in
      let f = n.each i w in
      from_avoids K (suc (key K x.label)) x.label (family ns x.lo)
      (family_from n x.lo (omega (arith, f.lo-below)) (suc (key K x.label)) f.lo_after) (omega arith)

  pub family-parts : family ns (suc (suc i)) ≡ fork (get_or ns i blank).label (family ns (get_or ns i blank).hi) (family ns (get_or ns i blank).lo)
  family-parts = family-node ns i w (n.each i w).lo-below (n.each i w).hi-below

  -- a set that begins with the label
  pub label-set : (t : List ℕ) × (elem ((get_or ns i blank).label ∷ t) (family ns (suc (suc i))) ≡ true)
  label-set = go (family ns (get_or ns i blank).hi) hi-family-some family-parts
    where
      go : (F1 : Family) → (F1 ≡ [] → ⊥) → family ns (suc (suc i)) ≡ fork (get_or ns i blank).label F1 (family ns (get_or ns i blank).lo)
          → (t : List ℕ) × (elem ((get_or ns i blank).label ∷ t) (family ns (suc (suc i))) ≡ true)
      go [] a e = absurd (a refl)
      go (t ∷ F1) a e = (t, ap (elem ((get_or ns i blank).label ∷ t)) e ∙ elem-head _ _)

module _ {K : List ℕ} {ns : List Node} (n : Nodes K ns) where
  -- what two nodes with one family have in common, their children's families told apart
  parts : (i j : ℕ) → i < length ns → j < length ns
      → fork (get_or ns i blank).label (family ns (get_or ns i blank).hi) (family ns (get_or ns i blank).lo)
      ≡ fork (get_or ns j blank).label (family ns (get_or ns j blank).hi) (family ns (get_or ns j blank).lo)
      → ((get_or ns i blank).label ≡ (get_or ns j blank).label)
      × (family ns (get_or ns i blank).hi ≡ family ns (get_or ns j blank).hi)
      × (family ns (get_or ns i blank).lo ≡ family ns (get_or ns j blank).lo)
  parts i j a b e =
      let x : Node = get_or ns i blank in
      let y : Node = get_or ns j blank in
      let same : x.label ≡ y.label =
      labels x.label y.label (family ns x.hi) (family ns x.lo) (family ns y.hi) (family ns y.lo) (hi-family-some n i a) (hi-family-some n j b) e in
      let r : (family ns x.hi ≡ family ns y.hi) × (family ns x.lo ≡ family ns y.lo) =
      cut x.label (family ns x.hi) (family ns x.lo) (family ns y.hi) (family ns y.lo)
      (lo-family_avoids n i a) (subst (λ (p : ℕ). Avoids p (family ns y.lo)) (sym same) (lo-family_avoids n j b))
      (e ∙ ap (λ (p : ℕ). fork p (family ns y.hi) (family ns y.lo)) (sym same)) in
      (same, r.0, r.1)

  -- each number is told by its family
  pub canonical : (i j : ℕ) → i < suc (suc (length ns)) → j < suc (suc (length ns)) → family ns i ≡ family ns j → i ≡ j
  canonical i j a b e =
      family_ind ns (downward n) (λ k F. (j : ℕ) → j < suc (suc (length ns)) → F ≡ family ns j → k ≡ j)
      zeros ones steps i a j b e
    where
      zeros : (j : ℕ) → j < suc (suc (length ns)) → [] ≡ family ns j → 0 ≡ j
      zeros zero b e = refl
      zeros (suc j) b e = absurd (family-some n (suc j) b (omega arith) (sym e))

      ones : (j : ℕ) → j < suc (suc (length ns)) → [] ∷ [] ≡ family ns j → 1 ≡ j
      ones zero b e = absurd (cons≢nil (e ∙ family-zero ns))
      ones (suc zero) b e = refl
      ones (suc (suc j)) b e =
          absurd (fork_not_one (get_or ns j blank).label (family ns (get_or ns j blank).hi) (family ns (get_or ns j blank).lo)
          (hi-family-some n j (omega arith)) (sym (e ∙ family-parts n j (omega arith))))

      steps : (i : ℕ) → i < length ns
          → ((j : ℕ) → j < suc (suc (length ns)) → family ns (get_or ns i blank).hi ≡ family ns j → (get_or ns i blank).hi ≡ j)
          → ((j : ℕ) → j < suc (suc (length ns)) → family ns (get_or ns i blank).lo ≡ family ns j → (get_or ns i blank).lo ≡ j)
          → (j : ℕ) → j < suc (suc (length ns))
          → fork (get_or ns i blank).label (family ns (get_or ns i blank).hi) (family ns (get_or ns i blank).lo) ≡ family ns j
          → suc (suc i) ≡ j
      steps i w r l zero b e =
          absurd (fork-some (get_or ns i blank).label (family ns (get_or ns i blank).hi) (family ns (get_or ns i blank).lo) (hi-family-some n i w) (e ∙ family-zero ns))
      steps i w r l (suc zero) b e =
          absurd (fork_not_one (get_or ns i blank).label (family ns (get_or ns i blank).hi) (family ns (get_or ns i blank).lo) (hi-family-some n i w) (e ∙ family_one ns))
      steps i w r l (suc (suc j)) b e =
          let v : j < length ns = omega arith in
          let p = parts i j w v (e ∙ family-parts n j v) in
          let hs : (get_or ns i blank).hi ≡ (get_or ns j blank).hi = r (get_or ns j blank).hi (omega (arith, (n.each j v).hi-below)) p.1 in
          let ls : (get_or ns i blank).lo ≡ (get_or ns j blank).lo = l (get_or ns j blank).lo (omega (arith, (n.each j v).lo-below)) p.2 in
          ap (λ (k : ℕ). suc (suc k)) (n.once i j w v (λ d. node (p.0 d) (ls d) (hs d)))
