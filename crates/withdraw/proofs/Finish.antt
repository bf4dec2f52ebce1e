-- THEOREM: when all nodes are done each live number's new number holds what is left of its family, and every new node is below the new number of a listed
-- answer. Assumes nothing.
use mathlib.Core.Path.{◌≡◌, sym, ap, ap₂, ◌∙◌, subst}
use mathlib.Core.Bool.{true, false}
use mathlib.Core.List.{List}
use mathlib.Core.Logic.{◌⊎◌, inl, inr}
use Prim.Native.Nat.{ℕ, suc, ◌+◌, ◌-◌, ◌≤◌, ◌<◌}
use native.Mathlib.Decide.{ℕ_discrete}
use native.Mathlib.Omega.{arith}
use lib.ListN.{length, get_or}
use Rattle.base.proofs.Bools.{by_test}
use Rattle.zdd.specs.Table.{Node, node, blank, Family, fork, family, has, Fine, Nodes}
use Rattle.zdd.proofs.Grow.{family_ind, downward, family-node, family-zero, family_one}
use Rattle.zdd.proofs.Below.{below_trans}
use Rattle.zdd.proofs.Ranks.{withdrawn-nil, withdrawn_one, withdrawn_gone, withdrawn_stays}
use Rattle.zdd.specs.Below.{Below, itself, by_lo, by_hi}
use Rattle.zdd.specs.Withdrawal.{rank, withdrawn}
use Rattle.withdraw.specs.State.{Live, Wanted, listed, lo-of, hi_of, Marked, Linked, Passed}

module _ {gone K : List ℕ} {ns : List Node} {marks answers : List ℕ} {ms : List Node} {f : List ℕ}
    (n : Nodes K ns) (d : Marked gone ns answers marks) (p : Passed gone K ns marks (length ns) ms f) where
  -- a new node, by its number
  new_node : {K' : List ℕ} → Nodes K' ms → (v l a b : ℕ) → v < length ms + 2 → 2 ≤ v → get_or ms (v - 2) blank ≡ node l a b
      → family ms v ≡ fork l (family ms b) (family ms a)
  new_node {K'} m v l a b h u e =
      let z : v ≡ suc (suc (v - 2)) = omega arith in
      let i : v - 2 < length ms = omega arith in
      let g : Fine K' ms (v - 2) (get_or ms (v - 2) blank) = m.each (v - 2) i in
      ap (family ms) z ∙ family-node ms (v - 2) i g.lo-below g.hi-below
      ∙ ap (λ (x : Node). fork x.label (family ms x.hi) (family ms x.lo)) e

  -- the new nodes are sound for some keys
  pub holds : {K' : List ℕ} → Nodes K' ms → (k : ℕ) → k < suc (suc (length ns)) → Live marks k → family ms (get_or f k 0) ≡ withdrawn gone (family ns k)
  holds news k h =
      family_ind ns (downward n) (λ k F. Live marks k → family ms (get_or f k 0) ≡ withdrawn gone F)
      (λ _. ap (family ms) p.zero ∙ family-zero ms ∙ sym (withdrawn-nil gone))
      (λ _. ap (family ms) p.one ∙ family_one ms ∙ sym (withdrawn_one gone))
      (λ i w r l m. node-holds i w r l (m (omega arith)))
      k h
    where
      node-holds : (i : ℕ) → i < length ns
          → (Live marks (get_or ns i blank).hi → family ms (get_or f (get_or ns i blank).hi 0) ≡ withdrawn gone (family ns (get_or ns i blank).hi))
          → (Live marks (get_or ns i blank).lo → family ms (get_or f (get_or ns i blank).lo 0) ≡ withdrawn gone (family ns (get_or ns i blank).lo))
          → 0 < get_or marks (suc (suc i)) 0
          → family ms (get_or f (suc (suc i)) 0) ≡ withdrawn gone (fork (get_or ns i blank).label (family ns (get_or ns i blank).hi) (family ns (get_or ns i blank).lo))
      node-holds i w r l m = by_test (has x.label gone) withdraw stay
        where
          x : Node
          x = get_or ns i blank

          c : Linked gone ms (get_or ns i blank) (get_or f (suc (suc i)) 0) (get_or f (get_or ns i blank).lo 0) (get_or f (get_or ns i blank).hi 0)
          c = p.linked i w m

          lo-left : family ms (get_or f x.lo 0) ≡ withdrawn gone (family ns x.lo)
          lo-left = l (d.lo_too i (omega arith) w m)

          withdraw : has x.label gone ≡ true → family ms (get_or f (suc (suc i)) 0) ≡ withdrawn gone (fork x.label (family ns x.hi) (family ns x.lo))
          withdraw e = ap (family ms) (c.skip e) ∙ lo-left ∙ sym (withdrawn_gone gone x.label (family ns x.hi) (family ns x.lo) e)

          stay : has x.label gone ≡ false → family ms (get_or f (suc (suc i)) 0) ≡ withdrawn gone (fork x.label (family ns x.hi) (family ns x.lo))
          stay e = go (ℕ_discrete (get_or f x.hi 0) 0) ∙ sym (withdrawn_stays gone x.label (family ns x.hi) (family ns x.lo) e)
            where
              hi-left : family ms (get_or f x.hi 0) ≡ withdrawn gone (family ns x.hi)
              hi-left = r (d.hi_too i (omega arith) w m e)

              go : Dec (get_or f x.hi 0 ≡ 0) → family ms (get_or f (suc (suc i)) 0) ≡ fork (rank gone x.label) (withdrawn gone (family ns x.hi)) (withdrawn gone (family ns x.lo))
              go (yes z) =
                  ap (family ms) (c.void z) ∙ lo-left
                  ∙ ap (λ (F : Family). fork (rank gone x.label) F (withdrawn gone (family ns x.lo)))
                  (sym (family-zero ms) ∙ ap (family ms) (sym z) ∙ hi-left)
              go (no z) =
                  let g = c.made e (omega arith) in
                  new_node news (get_or f (suc (suc i)) 0) (rank gone x.label) (get_or f x.lo 0) (get_or f x.hi 0) (p.below (suc (suc i)) (omega arith)) g.0 g.1
                  ∙ ap₂ (λ (F G : Family). fork (rank gone x.label) F G) hi-left lo-left

  -- below the new number of a listed answer
  abbrev Reached : ℕ → Type 0
  Reached v = (j : ℕ) × ((j < length answers) × Below ms (get_or f (get_or answers j 0) 0) v)

  -- a wanted number is marked
  wanted_live : {k : ℕ} → Wanted gone ns answers k → Live marks k
  wanted_live {k} (listed j h e) = subst (Live marks) e (d.all j h)
  wanted_live {k} (lo-of i w v e) = subst (Live marks) e (d.lo_too i (omega arith) w (wanted_live v (omega arith)))
  wanted_live {k} (hi_of i w v s e) = subst (Live marks) e (d.hi_too i (omega arith) w (wanted_live v (omega arith)) s)

  abbrev Told : ℕ → Type 0
  Told v = (v < 2) ⊎ Reached v

  -- with a new node its children are below what a listed answer became
  children : (v l a b : ℕ) → v < length ms + 2 → 2 ≤ v → get_or ms (v - 2) blank ≡ node l a b → Told v → Reached a × Reached b
  children v l a b h u e (inl z) = absurd (omega arith)
  children v l a b h u e (inr r) =
      let i : v - 2 < length ms = omega arith in (
        down a (by_lo (v - 2) i (subst (Below ms (get_or ms (v - 2) blank).lo) (ap (λ (x : Node). x.lo) e) itself)),
        down b (by_hi (v - 2) i (subst (Below ms (get_or ms (v - 2) blank).hi) (ap (λ (x : Node). x.hi) e) itself)),
      )
    where
      z : suc (suc (v - 2)) ≡ v
      z = omega arith

      down : (c : ℕ) → Below ms (suc (suc (v - 2))) c → Reached c
      down c x = (r.0, (r.1.0, below_trans r.1.1 (subst (λ (k : ℕ). Below ms k c) z x)))

  told_lo : (i : ℕ) → i < length ns → 0 < get_or marks (suc (suc i)) 0 → Told (get_or f (suc (suc i)) 0) → Told (get_or f (get_or ns i blank).lo 0)
  told_lo i w m t = by_test (has (get_or ns i blank).label gone) (λ e. subst Told (c.skip e) t) (λ e. go e (ℕ_discrete (get_or f (get_or ns i blank).hi 0) 0))
    where
      c : Linked gone ms (get_or ns i blank) (get_or f (suc (suc i)) 0) (get_or f (get_or ns i blank).lo 0) (get_or f (get_or ns i blank).hi 0)
      c = p.linked i w m

      go : has (get_or ns i blank).label gone ≡ false → Dec (get_or f (get_or ns i blank).hi 0 ≡ 0) → Told (get_or f (get_or ns i blank).lo 0)
      go e (yes z) = subst Told (c.void z) t
      go e (no z) =
          let g = c.made e (omega arith) in
          inr (children (get_or f (suc (suc i)) 0) (rank gone (get_or ns i blank).label) (get_or f (get_or ns i blank).lo 0) (get_or f (get_or ns i blank).hi 0)
          (p.below (suc (suc i)) (omega arith)) g.0 g.1 t).0

  told_hi : (i : ℕ) → i < length ns → 0 < get_or marks (suc (suc i)) 0 → has (get_or ns i blank).label gone ≡ false → Told (get_or f (suc (suc i)) 0)
      → Told (get_or f (get_or ns i blank).hi 0)
  told_hi i w m e t = go (ℕ_discrete (get_or f (get_or ns i blank).hi 0) 0)
    where
      go : Dec (get_or f (get_or ns i blank).hi 0 ≡ 0) → Told (get_or f (get_or ns i blank).hi 0)
      go (yes z) = inl (omega arith)
      go (no z) =
          let g = (p.linked i w m).made e (omega arith) in
          inr (children (get_or f (suc (suc i)) 0) (rank gone (get_or ns i blank).label) (get_or f (get_or ns i blank).lo 0) (get_or f (get_or ns i blank).hi 0)
          (p.below (suc (suc i)) (omega arith)) g.0 g.1 t).1

  -- what a wanted number became is 0, 1 or below what a listed answer became
  told : {k : ℕ} → Wanted gone ns answers k → Told (get_or f k 0)
  told (listed j h e) = inr (j, (h, subst (λ (k : ℕ). Below ms (get_or f (get_or answers j 0) 0) (get_or f k 0)) e itself))
  told (lo-of i w v e) = subst (λ (k : ℕ). Told (get_or f k 0)) e (told_lo i w (wanted_live v (omega arith)) (told v))
  told (hi_of i w v s e) = subst (λ (k : ℕ). Told (get_or f k 0)) e (told_hi i w (wanted_live v (omega arith)) s (told v))

  -- so every new node is below what a listed answer became
  pub needed : (j : ℕ) → j < length ms → (i : ℕ) × ((i < length answers) × Below ms (get_or f (get_or answers i 0) 0) (suc (suc j)))
  needed j h =
      let r = p.onto j h in
      go r.1.1.1 (told (d.only (suc (suc r.0)) (omega arith) (omega (arith, r.1.0)) r.1.1.0))
    where
      go : {v : ℕ} → v ≡ suc (suc j) → Told v → Reached (suc (suc j))
      go {v} e (inl z) = absurd (omega arith)
      go {v} e (inr r) = subst Reached e r
