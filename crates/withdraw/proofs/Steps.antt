-- The pass over the nodes, children first: how it starts, and that it goes on with each node. Assumes nothing.
use mathlib.Core.Path.{◌≡◌, refl, sym, ap, ◌∙◌, subst}
use mathlib.Core.Bool.{true, false}
use mathlib.Core.List.{List, [], ◌∷◌, ◌++◌, append-nil}
use mathlib.Core.Logic.{◌⊎◌, inl, inr}
use Prim.Native.Nat.{ℕ, zero, suc, ◌+◌, ◌-◌, ◌≤◌, ◌<◌}
use native.Mathlib.Nat.{not-suc-le-zero, eq-or-lt_of_le}
use native.Mathlib.Decide.{dec_lt, ℕ_discrete}
use native.Mathlib.Omega.{arith}
use lib.ListN.{length, get_or, set, length-append, get_or-append}
use lib.Seq.{get_or_at, get_or-set_same, get_or-set_other, set-get_or}
use Rattle.base.proofs.Bools.{clash, by_test}
use Rattle.zdd.specs.Table.{Node, node, blank, key, has, Over, Fine, Nodes}
use Rattle.zdd.proofs.Extend.{nodes-append}
use Rattle.zdd.proofs.TableLaws.{over-of-key}
use Rattle.zdd.specs.Withdrawal.{rank, Shorter}
use Rattle.withdraw.specs.State.{Names, Place, Renewed, Linked, Later, Passed}
use Rattle.zdd.proofs.Ranks.{rank_less}

nodes-none : (K : List ℕ) → Nodes K []
nodes-none K = record { each = λ i h. absurd (not-suc-le-zero h); once = λ i j h. absurd (not-suc-le-zero h) }

pub pass_start : (gone K : List ℕ) (ns : List Node) (marks : List ℕ) → get_or marks 0 0 ≡ 0 → get_or marks 1 0 ≡ 1 → Passed gone K ns marks 0 [] marks
pass_start gone K ns marks z o = record {
  sound = λ K' s. nodes-none K';
  fewer = omega arith;
  zero = z;
  one = o;
  ahead = λ k a b. refl;
  below = λ k a. low k a;
  late = λ j h. absurd (not-suc-le-zero h);
  linked = λ j h. absurd (not-suc-le-zero h);
  onto = λ j h. absurd (not-suc-le-zero h);
}
  where
    low : (k : ℕ) → k < 0 + 2 → get_or marks k 0 < length {A = Node} [] + 2
    low zero a = omega arith
    low (suc zero) a = omega arith
    low (suc (suc k)) a = absurd (omega arith)

module _ {gone K : List ℕ} {ns : List Node} {marks : List ℕ} {i : ℕ} {ms : List Node} {f : List ℕ}
    (n : Nodes K ns) (p : Passed gone K ns marks i ms f) (w : i < length ns) (long : length ns + 2 ≤ length f) where
  -- any new number v for it, that stands among the new nodes ms ++ more
  module _ (more : List Node) (v : ℕ) (sound : (K' : List ℕ) → Shorter gone K K' → Nodes K' (ms ++ more)) (fewer : length (ms ++ more) ≤ suc i)
      (below : v < length (ms ++ more) + 2) (late : 2 ≤ v → Later gone K (get_or ns i blank).label (get_or (ms ++ more) (v - 2) blank).label)
      (linked : 0 < get_or marks (suc (suc i)) 0
      → Linked gone (ms ++ more) (get_or ns i blank) v (get_or f (get_or ns i blank).lo 0) (get_or f (get_or ns i blank).hi 0))
      (onto : (j : ℕ) → length ms ≤ j → j < length (ms ++ more) → (0 < get_or marks (suc (suc i)) 0) × (v ≡ suc (suc j))) where
    own : get_or (set f (suc (suc i)) v) (suc (suc i)) 0 ≡ v
    own = get_or-set_same f (suc (suc i)) v 0 (omega arith)

    other : (k : ℕ) → k < suc (suc i) → get_or (set f (suc (suc i)) v) k 0 ≡ get_or f k 0
    other k h = get_or-set_other f (suc (suc i)) k v 0 (λ e. let z : suc (suc i) ≡ suc (suc i) = refl in omega arith)

    old : (k : ℕ) → k < suc (suc i) → 2 ≤ get_or f k 0 → get_or (ms ++ more) (get_or f k 0 - 2) blank ≡ get_or ms (get_or f k 0 - 2) blank
    old k h l = get_or-append ms more blank (get_or f k 0 - 2) (omega (arith, p.below k (omega arith)))

    pub step : Passed gone K ns marks (suc i) (ms ++ more) (set f (suc (suc i)) v)
    step = record {
      sound = sound;
      fewer = fewer;
      zero = other 0 (omega arith) ∙ p.zero;
      one = other 1 (omega arith) ∙ p.one;
      ahead = λ k a b. get_or-set_other f (suc (suc i)) k v 0 (λ e. omega arith) ∙ p.ahead k (omega arith) b;
      below = λ k a. below_at k (eq-or-lt_of_le (le k a));
      late = λ j h. late-at j (eq-or-lt_of_le (le' j h));
      linked = λ j h. linked_at j (eq-or-lt_of_le (le' j h));
      onto = λ j h. onto_at j h (dec_lt j (length ms));
    }
      where
        le : (k : ℕ) → k < suc i + 2 → k ≤ suc (suc i)
        le k a = omega arith

        le' : (j : ℕ) → j < suc i → j ≤ i
        le' j a = omega arith

        below_at : (k : ℕ) → (k ≡ suc (suc i)) ⊎ (k < suc (suc i)) → get_or (set f (suc (suc i)) v) k 0 < length (ms ++ more) + 2
        below_at k (inl e) = rw (e, own) below
        below_at k (inr h) = rw (other k h) (omega (arith, p.below k (omega arith), length-append ms more))

        late-at : (j : ℕ) → (j ≡ i) ⊎ (j < i) → 2 ≤ get_or (set f (suc (suc i)) v) (suc (suc j)) 0
            → Later gone K (get_or ns j blank).label (get_or (ms ++ more) (get_or (set f (suc (suc i)) v) (suc (suc j)) 0 - 2) blank).label
        late-at j (inl e) l = rw (e, own) (late (rw (e, own) at l))
        late-at j (inr h) l =
            let o : get_or (set f (suc (suc i)) v) (suc (suc j)) 0 ≡ get_or f (suc (suc j)) 0 = other (suc (suc j)) (omega arith) in
            let l' : 2 ≤ get_or f (suc (suc j)) 0 = rw o at l in
            rw (o, old (suc (suc j)) (omega arith) l') (p.late j h l')

        linked_at : (j : ℕ) → (j ≡ i) ⊎ (j < i) → 0 < get_or marks (suc (suc j)) 0
            → Linked gone (ms ++ more) (get_or ns j blank) (get_or (set f (suc (suc i)) v) (suc (suc j)) 0)
            (get_or (set f (suc (suc i)) v) (get_or ns j blank).lo 0) (get_or (set f (suc (suc i)) v) (get_or ns j blank).hi 0)
        linked_at j (inl e) m =
            rw (e, own, other (get_or ns i blank).lo (n.each i w).lo-below, other (get_or ns i blank).hi (n.each i w).hi-below) (linked (rw e at m))
        linked_at j (inr h) m =
            let g : Fine K ns j (get_or ns j blank) = n.each j (omega arith) in
            let l : Linked gone ms (get_or ns j blank) (get_or f (suc (suc j)) 0) (get_or f (get_or ns j blank).lo 0) (get_or f (get_or ns j blank).hi 0) = p.linked j h m in
            rw (other (suc (suc j)) (omega arith), other (get_or ns j blank).lo (omega (arith, g.lo-below)), other (get_or ns j blank).hi (omega (arith, g.hi-below)))
            (record {
              skip = l.skip;
              void = l.void;
              made = λ a b. ((l.made a b).0, old (suc (suc j)) (omega arith) (l.made a b).0 ∙ (l.made a b).1);
            })

        onto_at : (j : ℕ) → j < length (ms ++ more) → Dec (j < length ms)
            → (k : ℕ) × ((k < suc i) × ((0 < get_or marks (suc (suc k)) 0) × (get_or (set f (suc (suc i)) v) (suc (suc k)) 0 ≡ suc (suc j))))
        onto_at j h (yes a) =
            let r = p.onto j a in
            (r.0, (omega (arith, r.1.0), (r.1.1.0, other (suc (suc r.0)) (omega (arith, r.1.0)) ∙ r.1.1.1)))
        onto_at j h (no a) =
            let r = onto j (omega arith) h in
            (i, (omega arith, (r.0, own ∙ r.1)))

  -- a new number v among the new nodes that there are
  pass_same : (v : ℕ) → v < length ms + 2 → (2 ≤ v → Later gone K (get_or ns i blank).label (get_or ms (v - 2) blank).label)
      → (0 < get_or marks (suc (suc i)) 0 → Linked gone ms (get_or ns i blank) v (get_or f (get_or ns i blank).lo 0) (get_or f (get_or ns i blank).hi 0))
      → Passed gone K ns marks (suc i) ms (set f (suc (suc i)) v)
  pass_same v below late linked =
      subst (λ (l : List Node). Passed gone K ns marks (suc i) l (set f (suc (suc i)) v)) (append-nil ms)
      (step [] v
      (λ K' s. rw (append-nil ms) (p.sound K' s))
      (rw (append-nil ms) (omega (arith, p.fewer)))
      (rw (append-nil ms) below)
      (λ l. rw (append-nil ms) (late l))
      (λ m. rw (append-nil ms) (linked m))
      (λ j a b. absurd (omega (arith, length-append ms []))))

  -- a number that is not marked keeps its 0
  pub pass-unmarked : get_or f (suc (suc i)) 0 ≡ 0 → Passed gone K ns marks (suc i) ms f
  pass-unmarked e =
      subst (λ (l : List ℕ). Passed gone K ns marks (suc i) ms l)
      (ap (λ (v : ℕ). set f (suc (suc i)) v) (sym e) ∙ set-get_or f (suc (suc i)) 0)
      (pass_same 0 (omega arith) (λ l. absurd (omega arith)) (λ m. absurd (omega (arith, p.ahead (suc (suc i)) (omega arith) (omega arith)))))

  -- the new label of a child comes later than the label p
  child : (q c : ℕ) → c < suc (suc i) → Over K ns (suc (key K q)) c → 2 ≤ get_or f c 0
      → (l : Later gone K q (get_or ms (get_or f c 0 - 2) blank).label) × (key K q < key K l.other)
  child q zero h o l = absurd (omega (arith, p.zero))
  child q (suc zero) h o l = absurd (omega (arith, p.one))
  child q (suc (suc j)) h o l =
      let g = p.late j (omega arith) l in
      (record { other = g.other; known = g.known; stays = g.stays; named = g.named; after = omega (arith, g.after) }, omega (arith, g.after))

  child_over : (K' : List ℕ) → Shorter gone K K' → (q : ℕ) → q < length K → has q gone ≡ false → (c : ℕ) → c < suc (suc i) → Over K ns (suc (key K q)) c
      → Over K' ms (suc (key K' (rank gone q))) (get_or f c 0)
  child_over K' s q k e c h o =
      over-of-key K' ms (suc (key K' (rank gone q))) (get_or f c 0) (λ l.
      let g = child q c h o l in
      subst (λ (r : ℕ). key K' (rank gone q) < key K' r) g.0.named (s.order q g.0.other k g.0.known e g.0.stays g.1))

  -- the new node may be the next
  fine_new : (K' : List ℕ) → Shorter gone K K' → has (get_or ns i blank).label gone ≡ false → 0 < get_or f (get_or ns i blank).hi 0
      → Fine K' ms (length ms) (node (rank gone (get_or ns i blank).label) (get_or f (get_or ns i blank).lo 0) (get_or f (get_or ns i blank).hi 0))
  fine_new K' s e h =
      let g : Fine K ns i (get_or ns i blank) = n.each i w in
      record {
        label-known = omega (arith, s.long, rank_less gone (get_or ns i blank).label (length K) e g.label-known);
        lo-below = omega (arith, p.below (get_or ns i blank).lo (omega (arith, g.lo-below)));
        hi-below = omega (arith, p.below (get_or ns i blank).hi (omega (arith, g.hi-below)));
        hi-some = h;
        lo_after = child_over K' s (get_or ns i blank).label g.label-known e (get_or ns i blank).lo g.lo-below g.lo_after;
        hi_after = child_over K' s (get_or ns i blank).label g.label-known e (get_or ns i blank).hi g.hi-below g.hi_after;
      }

  -- its own label is no earlier
  own_late : has (get_or ns i blank).label gone ≡ false → Later gone K (get_or ns i blank).label (rank gone (get_or ns i blank).label)
  own_late e = record { other = (get_or ns i blank).label; known = (n.each i w).label-known; stays = e; named = refl; after = omega arith }

  -- where the number of lo serves
  pass-lo : (r : ℕ) → r ≡ get_or f (get_or ns i blank).lo 0
      → (0 < get_or marks (suc (suc i)) 0 → Linked gone ms (get_or ns i blank) r (get_or f (get_or ns i blank).lo 0) (get_or f (get_or ns i blank).hi 0))
      → Passed gone K ns marks (suc i) ms (set f (suc (suc i)) r)
  pass-lo r e l =
      let g : Fine K ns i (get_or ns i blank) = n.each i w in
      pass_same r (omega (arith, p.below (get_or ns i blank).lo (omega (arith, g.lo-below))))
      (λ u. rw e (child (get_or ns i blank).label (get_or ns i blank).lo g.lo-below g.lo_after (omega arith)).0) l

  -- where the node is found or made
  pass-place : (ms' : List Node) (r : ℕ) → has (get_or ns i blank).label gone ≡ false → 0 < get_or f (get_or ns i blank).hi 0 → 0 < get_or marks (suc (suc i)) 0
      → Place ms ms' (node (rank gone (get_or ns i blank).label) (get_or f (get_or ns i blank).lo 0) (get_or f (get_or ns i blank).hi 0)) r
      → Passed gone K ns marks (suc i) ms' (set f (suc (suc i)) r)
  pass-place ms' r e h m c = go (dec_lt r (length ms + 2))
    where
      y : Node
      y = node (rank gone (get_or ns i blank).label) (get_or f (get_or ns i blank).lo 0) (get_or f (get_or ns i blank).hi 0)

      link : (l : List Node) → 2 ≤ r → get_or l (r - 2) blank ≡ y
          → Linked gone l (get_or ns i blank) r (get_or f (get_or ns i blank).lo 0) (get_or f (get_or ns i blank).hi 0)
      link l u q = record { skip = λ a. clash (has (get_or ns i blank).label gone) a e; void = λ z. absurd (omega arith); made = λ a b. (u, q) }

      go : Dec (r < length ms + 2) → Passed gone K ns marks (suc i) ms' (set f (suc (suc i)) r)
      go (yes lt) =
          let o = c.old lt in
          subst (λ (l : List Node). Passed gone K ns marks (suc i) l (set f (suc (suc i)) r)) (sym o.0)
          (pass_same r lt (λ u. rw o.1.1 (own_late e)) (λ _. link ms o.1.0 o.1.1))
      go (no ge) =
          let o = c.new (omega arith) in
          let at : get_or (ms ++ (y ∷ [])) (r - 2) blank ≡ y = get_or_at ms y [] blank (r - 2) (omega (arith, o.0)) in
          subst (λ (l : List Node). Passed gone K ns marks (suc i) l (set f (suc (suc i)) r)) (sym o.1.0)
          (step (y ∷ []) r
          (λ K' s. nodes-append K' ms y (p.sound K' s) (fine_new K' s e h) o.1.1)
          (omega (arith, length-append ms (y ∷ []), p.fewer))
          (omega (arith, length-append ms (y ∷ []), o.0))
          (λ u. rw at (own_late e))
          (λ _. link (ms ++ (y ∷ [])) (omega (arith, o.0)) at)
          (λ j a b. (m, omega (arith, length-append ms (y ∷ []), o.0))))

  -- a marked number gets the new number that `Renewed` says
  pub pass_renewed : (names : List ℕ) → Names gone (length K) names → (ms' : List Node) (r : ℕ) → 0 < get_or f (suc (suc i)) 0
      → Renewed (get_or names (get_or ns i blank).label 0) (get_or f (get_or ns i blank).lo 0) (get_or f (get_or ns i blank).hi 0) ms ms' r
      → Passed gone K ns marks (suc i) ms' (set f (suc (suc i)) r)
  pass_renewed names a ms' r m c = by_test (has (get_or ns i blank).label gone) withdraw stay
    where
      k : (get_or ns i blank).label < length K
      k = (n.each i w).label-known

      lo_serves : (ms' ≡ ms) × (r ≡ get_or f (get_or ns i blank).lo 0)
          → (0 < get_or marks (suc (suc i)) 0 → Linked gone ms (get_or ns i blank) r (get_or f (get_or ns i blank).lo 0) (get_or f (get_or ns i blank).hi 0))
          → Passed gone K ns marks (suc i) ms' (set f (suc (suc i)) r)
      lo_serves o l = subst (λ (l : List Node). Passed gone K ns marks (suc i) l (set f (suc (suc i)) r)) (sym o.0) (pass-lo r o.1 l)

      withdraw : has (get_or ns i blank).label gone ≡ true → Passed gone K ns marks (suc i) ms' (set f (suc (suc i)) r)
      withdraw e =
          let o = c.skip (a.gone_zero (get_or ns i blank).label k e) in
          lo_serves o (λ _. record { skip = λ _. o.1; void = λ _. o.1; made = λ b. clash (has (get_or ns i blank).label gone) e b })

      stay : has (get_or ns i blank).label gone ≡ false → Passed gone K ns marks (suc i) ms' (set f (suc (suc i)) r)
      stay e = go (ℕ_discrete (get_or f (get_or ns i blank).hi 0) 0)
        where
          named : get_or names (get_or ns i blank).label 0 ≡ suc (rank gone (get_or ns i blank).label)
          named = a.stays_rank (get_or ns i blank).label k e

          one_less : get_or names (get_or ns i blank).label 0 - 1 ≡ rank gone (get_or ns i blank).label
          one_less = omega (arith, named)

          go : Dec (get_or f (get_or ns i blank).hi 0 ≡ 0) → Passed gone K ns marks (suc i) ms' (set f (suc (suc i)) r)
          go (yes z) =
              let o = c.void z in
              lo_serves o (λ _. record { skip = λ _. o.1; void = λ _. o.1; made = λ _ b. absurd (omega arith) })
          go (no z) =
              pass-place ms' r e (omega arith) (omega (arith, p.ahead (suc (suc i)) (omega arith) (omega arith)))
              (subst (λ (q : ℕ). Place ms ms' (node q (get_or f (get_or ns i blank).lo 0) (get_or f (get_or ns i blank).hi 0)) r) one_less
              (c.made (omega (arith, named)) (omega arith)))
