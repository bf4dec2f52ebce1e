-- Union, intersection, difference and join: the end cases, what is remembered, and the recursion. Assumes nothing.
use mathlib.Core.Path.{◌≡◌, refl, sym, ap, ap₂, subst, subst⁻¹, ◌∙◌}
use mathlib.Core.Logic.{◌⊎◌, inl, inr}
use mathlib.Core.Bool.{Bool, true, ◌&&◌, ◌||◌, and_comm, or_comm}
use mathlib.Core.List.{List, [], ◌∷◌}
use Prim.Native.Nat.{ℕ, zero, suc, ◌+◌, ◌-◌, ◌*◌, ◌/◌, ◌%◌, ◌<◌, ◌≤◌}
use native.Mathlib.Omega.{arith}
use lib.ListN.{length, get_or}
use Rattle.zdd.specs.Table.{Node, Family, elem, sets, count, nodes_of, family}
use Rattle.zdd.proofs.Grow.{family-zero, family_one}
use Rattle.zdd.proofs.Words.{length-nodes}
use Rattle.zdd.proofs.Listing.{Listed, family-listed, filter_same}
use Rattle.zdd.specs.Work.{Split}
use Rattle.zdd.specs.Operations.{combine, join, Apart}
use Rattle.zdd.proofs.Operations.{union-nil, nil-union, union_self, inter-nil, nil-inter, inter_self, differ-nil, nil-differ, differ_self}
use Rattle.zdd.proofs.Join.{join-nil, nil-join, join_one, one_join}
use Rattle.zdd.proofs.JoinParts.{labels_apart}
use Rattle.std.proofs.Common.{Option, Some, None}
use Rattle.base.proofs.Bools.{never}
use Rattle.family.specs.declared.Operation.{Operation}
use Rattle.family.specs.declared.Operation.TheVariants.{Union, Intersection, Difference, Join}
use Rattle.family.specs.Gives.{Operable, Gives, Yields, Noded, Answers}
use Rattle.family.specs.Memo.{combined, Combinable, lesser_first, Ordered, Two, Pair, Ended, Ends, Cut}
use Rattle.family.specs.Memo.{mixed, Packed, place_of, entry_at, tagged, Hit, Recalled, Remembered, Noted}
use Rattle.family.proofs.MemoryLaws.{mixed-small, mixed-once, place-once, empty}
use Rattle.family.proofs.GivesLaws.{gives_there, gives_answers, gives_keeps, gives_more, gives_eq, step-none-hi, step-none-lo, step_child, step-node}

-- ---- the order of the two

combine-turns : (o : Bool → Bool → Bool) → ((a b : Bool) → o a b ≡ o b a) → (K : List ℕ) (F G : Family) → combine o K F G ≡ combine o K G F
unfolding combine
combine-turns o c K F G = filter_same (λ t. o (elem t F) (elem t G)) (λ t. o (elem t G) (elem t F)) (sets K) (λ t m. c (elem t F) (elem t G))

turned : (op : Operation) → lesser_first op ≡ true → (K : List ℕ) (F G : Family) → combined op K F G ≡ combined op K G F
turned Union h = combine-turns ◌||◌ or_comm
turned Intersection h = combine-turns ◌&&◌ and_comm
turned Difference h = absurd (never h refl)
turned Join h = absurd (never h refl)

pub packed_straight : (op : Operation) (f g : ℕ) {k : ℕ} → k ≡ mixed (f * 65536 + g) → Packed op f g k
packed_straight op f g e = record { first = f; second = g; is = e; order = inl (refl, refl) }

pub packed_turned : (op : Operation) (f g : ℕ) {k : ℕ} → lesser_first op ≡ true → k ≡ mixed (g * 65536 + f) → Packed op f g k
packed_turned op f g h e = record { first = g; second = f; is = e; order = inr (h, (refl, refl)) }

module _ {op : Operation} {f g k : ℕ} (p : Packed op f g k) where
  pub packed_same : (φ : ℕ → Family) (K : List ℕ) → combined op K (φ p.first) (φ p.second) ≡ combined op K (φ f) (φ g)
  packed_same φ K = go p.order
    where
      go : Ordered op f g p.first p.second → combined op K (φ p.first) (φ p.second) ≡ combined op K (φ f) (φ g)
      go (inl e) = ap₂ (combined op K) (ap φ e.0) (ap φ e.1)
      go (inr e) = ap₂ (combined op K) (ap φ e.1.0) (ap φ e.1.1) ∙ turned op e.0 K (φ g) (φ f)

  pub packed_known : (n : ℕ) → f < n → g < n → (p.first < n) × (p.second < n)
  packed_known n l m = go p.order
    where
      go : Ordered op f g p.first p.second → (p.first < n) × (p.second < n)
      go (inl e) = (omega (arith, e.0), omega (arith, e.1))
      go (inr e) = (omega (arith, e.1.0), omega (arith, e.1.1))

  pub packed_small : k < 4294967296
  packed_small = omega (arith, p.is, mixed-small (p.first * 65536 + p.second))

-- ---- the end cases

module _ {K : List ℕ} {ns : List Node} {f g : ℕ} (q : Pair K ns f g) where
  lf : Listed K (family ns f)
  lf = family-listed q.keys q.nodes f q.left

  lg : Listed K (family ns g)
  lg = family-listed q.keys q.nodes g q.right

  nil : (k : ℕ) → k ≡ 0 → family ns k ≡ []
  nil k e = ap (family ns) e ∙ family-zero ns

  one : (k : ℕ) → k ≡ 1 → family ns k ≡ [] ∷ []
  one k e = ap (family ns) e ∙ family_one ns

  none : {F : Family} → F ≡ [] → Answers ns 0 F
  none e = record { known = omega arith; holds = family-zero ns ∙ sym e }

  left-nil : (op : Operation) {F : Family} → f ≡ 0 → combined op K [] (family ns g) ≡ F → combined op K (family ns f) (family ns g) ≡ F
  left-nil op z e = ap (λ (H : Family). combined op K H (family ns g)) (nil f z) ∙ e

  right_nil : (op : Operation) {F : Family} → g ≡ 0 → combined op K (family ns f) [] ≡ F → combined op K (family ns f) (family ns g) ≡ F
  right_nil op z e = ap (λ (H : Family). combined op K (family ns f) H) (nil g z) ∙ e

  both : (op : Operation) {F : Family} → f ≡ g → combined op K (family ns f) (family ns f) ≡ F → combined op K (family ns f) (family ns g) ≡ F
  both op z e = ap (λ (k : ℕ). combined op K (family ns f) (family ns k)) (sym z) ∙ e

  end_left_union : f ≡ 0 → Answers ns g (combined Union K (family ns f) (family ns g))
  end_left_union z = record { known = q.right; holds = sym (left-nil Union z (nil-union K q.keys (family ns g) lg)) }

  end_left : (op : Operation) → (op ≡ Union → ⊥) → f ≡ 0 → Answers ns 0 (combined op K (family ns f) (family ns g))
  end_left Union e z = absurd (e refl)
  end_left Intersection e z = none (left-nil Intersection z (nil-inter K q.keys (family ns g) lg))
  end_left Difference e z = none (left-nil Difference z (nil-differ K q.keys (family ns g) lg))
  end_left Join e z = none (left-nil Join z (nil-join K q.keys (family ns g)))

  end_right_union : g ≡ 0 → Answers ns f (combined Union K (family ns f) (family ns g))
  end_right_union z = record { known = q.left; holds = sym (right_nil Union z (union-nil K q.keys (family ns f) lf)) }

  end_right_inter : g ≡ 0 → Answers ns 0 (combined Intersection K (family ns f) (family ns g))
  end_right_inter z = none (right_nil Intersection z (inter-nil K q.keys (family ns f) lf))

  end_right_differ : g ≡ 0 → Answers ns f (combined Difference K (family ns f) (family ns g))
  end_right_differ z = record { known = q.left; holds = sym (right_nil Difference z (differ-nil K q.keys (family ns f) lf)) }

  end_right_join : g ≡ 0 → Answers ns 0 (combined Join K (family ns f) (family ns g))
  end_right_join z = none (right_nil Join z (join-nil K q.keys (family ns f)))

  end_both_union : f ≡ g → Answers ns f (combined Union K (family ns f) (family ns g))
  end_both_union z = record { known = q.left; holds = sym (both Union z (union_self K q.keys (family ns f) lf)) }

  end_both_inter : f ≡ g → Answers ns f (combined Intersection K (family ns f) (family ns g))
  end_both_inter z = record { known = q.left; holds = sym (both Intersection z (inter_self K q.keys (family ns f) lf)) }

  end_both_differ : f ≡ g → Answers ns 0 (combined Difference K (family ns f) (family ns g))
  end_both_differ z = none (both Difference z (differ_self K q.keys (family ns f) lf))

  -- a join with 1
  end_left_one : f ≡ 1 → Answers ns g (combined Join K (family ns f) (family ns g))
  end_left_one z = record { known = q.right; holds = sym (ap (λ (H : Family). join K H (family ns g)) (one f z) ∙ one_join K q.keys (family ns g) lg) }

  end_right_one : g ≡ 1 → Answers ns f (combined Join K (family ns f) (family ns g))
  end_right_one z = record { known = q.left; holds = sym (ap (join K (family ns f)) (one g z) ∙ join_one K q.keys (family ns f) lf) }

  -- two nodes that have no label in common are two
  apart_two : 2 ≤ f → 2 ≤ g → Apart (family ns f) (family ns g) → Two f g
  apart_two l m x = record {
    some = omega arith;
    other = omega arith;
    differ = λ e. same f l q.left (subst⁻¹ (λ (k : ℕ). Apart (family ns f) (family ns k)) e x);
  }
    where
      same : (k : ℕ) → 2 ≤ k → k < suc (suc (length ns)) → Apart (family ns k) (family ns k) → ⊥
      same zero l h x = omega arith
      same (suc zero) l h x = omega arith
      same (suc (suc i)) l h x = labels_apart q.nodes i i (omega arith) (omega arith) x refl

  answered : (op : Operation) (r : ℕ) → Answers ns r (combined op K (family ns f) (family ns g)) → Ended op K ns f g (Some r)
  answered op r a = (omega (arith, a.known, q.few), a)

-- what is so of an operation is so of op, which is that operation
abbrev this : (f g : ℕ) (r : Option ℕ) {op o : Operation} → op ≡ o → Ends o f g r → Ends op f g r
this f g r e s = subst⁻¹ (λ (o : Operation). Ends o f g r) e s

module _ (op : Operation) (f g : ℕ) where
  pub ends_left_union : f ≡ 0 → op ≡ Union → Ends op f g (Some g)
  ends_left_union z e = this f g (Some g) e (λ K ns q c. answered q Union g (end_left_union q z))

  pub ends_left : f ≡ 0 → (op ≡ Union → ⊥) → Ends op f g (Some 0)
  ends_left z e K ns q c = answered q op 0 (end_left q op e z)

  pub ends_right_kept : g ≡ 0 → (op ≡ Union) ⊎ (op ≡ Difference) → Ends op f g (Some f)
  ends_right_kept z (inl e) = this f g (Some f) e (λ K ns q c. answered q Union f (end_right_union q z))
  ends_right_kept z (inr e) = this f g (Some f) e (λ K ns q c. answered q Difference f (end_right_differ q z))

  pub ends_right_none : g ≡ 0 → (op ≡ Intersection) ⊎ (op ≡ Join) → Ends op f g (Some 0)
  ends_right_none z (inl e) = this f g (Some 0) e (λ K ns q c. answered q Intersection 0 (end_right_inter q z))
  ends_right_none z (inr e) = this f g (Some 0) e (λ K ns q c. answered q Join 0 (end_right_join q z))

  pub ends_both : f ≡ g → (op ≡ Union) ⊎ (op ≡ Intersection) → Ends op f g (Some f)
  ends_both z (inl e) = this f g (Some f) e (λ K ns q c. answered q Union f (end_both_union q z))
  ends_both z (inr e) = this f g (Some f) e (λ K ns q c. answered q Intersection f (end_both_inter q z))

  pub ends_both_differ : f ≡ g → op ≡ Difference → Ends op f g (Some 0)
  ends_both_differ z e = this f g (Some 0) e (λ K ns q c. answered q Difference 0 (end_both_differ q z))

  pub ends_join : (r : Option ℕ) → op ≡ Join → Ends Join f g r → Ends op f g r
  ends_join r e s = this f g r e s

module _ (f g : ℕ) where
  pub joins_left_one : f ≡ 1 → Ends Join f g (Some g)
  joins_left_one z K ns q c = answered q Join g (end_left_one q z)

  pub joins_right_one : g ≡ 1 → Ends Join f g (Some f)
  joins_right_one z K ns q c = answered q Join f (end_right_one q z)

  pub joins_open : 2 ≤ f → 2 ≤ g → Ends Join f g None
  joins_open l m K ns q c = apart_two q l m (c refl)

-- ---- what is remembered of two numbers

pub recalled_answers : {op : Operation} {K : List ℕ} {ns : List Node} {memo : List ℕ} {f g at k r : ℕ} → Pair K ns f g → Remembered op K ns memo → Packed op f g k
    → at ≡ place_of (length memo) k → Recalled memo at k (Some r) → Answers ns r (combined op K (family ns f) (family ns g))
recalled_answers {op} {K} {ns} {memo} {f} {g} {at} {k} {r} q m p e s =
    let w = packed_known p 65536 (omega (arith, q.left, q.few)) (omega (arith, q.right, q.few)) in
    let z : at ≡ place_of (length memo) (mixed (p.first * 65536 + p.second)) = e ∙ ap (place_of (length memo)) p.is in
    subst (λ (F : Family). Answers ns r F) (packed_same p (family ns) K)
    (subst⁻¹ (λ (i : ℕ). Answers ns i (combined op K (family ns p.first) (family ns p.second))) (s.2 ∙ ap (λ (i : ℕ). entry_at memo i % 65536 - 1) z)
    (m.each p.first p.second w.0 w.1 (record {
      tag = ap (λ (i : ℕ). entry_at memo i / 65536) (sym z) ∙ s.0 ∙ ap (λ (j : ℕ). j % 65536) p.is;
      some = subst (λ (i : ℕ). 0 < entry_at memo i % 65536) z s.1;
    })).1.1)

-- ---- what is remembered

pub remembered_fresh : (op : Operation) (K : List ℕ) (ns : List Node) (memo : List ℕ) → 32768 ≤ length memo → length memo ≤ 2147483648 → ((i : ℕ) → get_or memo i 0 ≡ 0)
    → Remembered op K ns memo
remembered_fresh op K ns memo l m z = record {
  least = l;
  most = m;
  each = λ f g a b h. absurd (omega (arith, h.some, empty memo z (place_of (length memo) (mixed (f * 65536 + g)))));
}

pub remembered_grown : {op : Operation} {K t t' index' memo : List ℕ} {r : ℕ} {F : Family} → Gives K t t' index' r F → r < 65536
    → Remembered op K (nodes_of t) memo → Remembered op K (nodes_of t') memo
remembered_grown {op} {K} {t} {t'} {index'} {memo} g h m = record {
  least = m.least;
  most = m.most;
  each = λ x y u v e.
      let a = m.each x y u v e in (
        omega (arith, a.0, gives_more g h),
        (
          omega (arith, a.1.0, gives_more g h),
          record {
            known = omega (arith, a.1.1.known, gives_more g h);
            holds =
                gives_keeps g h (entry_at memo (place_of (length memo) (mixed (x * 65536 + y))) % 65536 - 1) a.1.1.known ∙ a.1.1.holds
                ∙ ap₂ (combined op K) (sym (gives_keeps g h x a.0)) (sym (gives_keeps g h y a.1.0));
          },
        ),
      );
}

pub remembered_noted : {op : Operation} {K memo memo' : List ℕ} {ns : List Node} (at f g r k : ℕ) → Noted memo at k r memo' → at ≡ place_of (length memo) k → k ≡ mixed (f * 65536 + g)
    → f < 65536 → g < 65536 → f < suc (suc (length ns)) → g < suc (suc (length ns)) → Answers ns r (combined op K (family ns f) (family ns g))
    → Remembered op K ns memo → Remembered op K ns memo'
remembered_noted {op} {K} {memo} {memo'} {ns} at f g r k s ea ek lf lg wf wg a m = record {
  least = omega (arith, m.least, s.same);
  most = omega (arith, m.most, s.same);
  each = λ x y u v h. each x y u v h (s.each (place_of (length memo') (mixed (x * 65536 + y))));
}
  where
    -- what Remembered says of the pair x, y, by its entry e
    Says : (x y e : ℕ) → Type 0
    Says x y e = (x < suc (suc (length ns))) × ((y < suc (suc (length ns))) × Answers ns (e % 65536 - 1) (combined op K (family ns x) (family ns y)))

    each : (x y : ℕ) → x < 65536 → y < 65536 → Hit memo' (mixed (x * 65536 + y))
        → (entry_at memo' (place_of (length memo') (mixed (x * 65536 + y))) ≡ entry_at memo (place_of (length memo') (mixed (x * 65536 + y))))
        ⊎ ((place_of (length memo') (mixed (x * 65536 + y)) ≡ at) × ((r < 65535) × (entry_at memo' (place_of (length memo') (mixed (x * 65536 + y))) ≡ tagged k r)))
        → Says x y (entry_at memo' (place_of (length memo') (mixed (x * 65536 + y))))
    each x y u v h (inl e) =
        let o : entry_at memo' (place_of (length memo') (mixed (x * 65536 + y))) ≡ entry_at memo (place_of (length memo) (mixed (x * 65536 + y))) =
        e ∙ ap (λ (n : ℕ). entry_at memo (place_of n (mixed (x * 65536 + y)))) s.same in
        subst⁻¹ (λ (e : ℕ). Says x y e) o
        (m.each x y u v (record { tag = ap (λ (n : ℕ). n / 65536) (sym o) ∙ h.tag; some = subst (λ (n : ℕ). 0 < n % 65536) o h.some }))
    each x y u v h (inr e) =
        let j : ℕ = mixed (x * 65536 + y) in
        let t : k % 65536 ≡ j % 65536 = omega (arith, h.tag, e.1.1) in
        let z : mixed (f * 65536 + g) ≡ j = sym ek ∙ place-once (length memo) k j m.least t (sym ea ∙ sym e.0 ∙ ap (λ (n : ℕ). place_of n j) s.same) in
        let p : f * 65536 + g ≡ x * 65536 + y = mixed-once (f * 65536 + g) (x * 65536 + y) (omega arith) (omega arith) z in
        let ex : f ≡ x = omega arith in
        let ey : g ≡ y = omega arith in
        let er : r ≡ entry_at memo' (place_of (length memo') j) % 65536 - 1 = omega (arith, e.1.1) in (
          omega arith,
          (
            omega arith,
            subst (λ (i : ℕ). Answers ns i (combined op K (family ns x) (family ns y))) er
                (subst (λ (i : ℕ). Answers ns r (combined op K (family ns i) (family ns y))) ex
                (subst (λ (i : ℕ). Answers ns r (combined op K (family ns f) (family ns i))) ey a)),
          ),
        )

-- ---- the recursion

-- the combination of the numbers f and g of t
abbrev pub joint : Operation → List ℕ → List ℕ → ℕ → ℕ → Family
joint op K t f g = combined op K (family (nodes_of t) f) (family (nodes_of t) g)

pub pair_of : {K t index : List ℕ} {f g : ℕ} → Operable K t index → (f < count t + 2) × (g < count t + 2) → Pair K (nodes_of t) f g
pair_of {K} {t} y w = record {
  keys = y.keys;
  nodes = y.sound.nodes;
  few = omega (arith, y.sound.few, length-nodes t);
  left = omega (arith, w.0, length-nodes t);
  right = omega (arith, w.1, length-nodes t);
}

module _ {op : Operation} {K t index : List ℕ} {f g : ℕ} (y : Operable K t index) (w : (f < count t + 2) × (g < count t + 2)) where
  pub ended_gives : {r : ℕ} → Combinable op (nodes_of t) f g → Ends op f g (Some r) → Yields K t t index (Some r) (joint op K t f g)
  ended_gives c s = let x = s K (nodes_of t) (pair_of y w) c in (x.0, gives_there y.sound y.indexed x.0 x.1)

  pub ends_two : Combinable op (nodes_of t) f g → Ends op f g None → Two f g
  ends_two c s = s K (nodes_of t) (pair_of y w) c

  pub recalled_gives : {memo : List ℕ} {at k r : ℕ} → Remembered op K (nodes_of t) memo → Packed op f g k → at ≡ place_of (length memo) k → Recalled memo at k (Some r)
      → Yields K t t index (Some r) (joint op K t f g)
  recalled_gives {memo} {at} {k} {r} m p e s =
      let a = recalled_answers (pair_of y w) m p e s in
      let l : r < 65536 = omega (arith, a.known, y.sound.few, length-nodes t) in
      (l, gives_there y.sound y.indexed l a)

pub hi-known : {op : Operation} {K t index : List ℕ} {f g p f1 g1 f0 g0 : ℕ} → Operable K t index → Cut op K (nodes_of t) f g p f1 g1 f0 g0 → (f1 < count t + 2) × (g1 < count t + 2)
hi-known {op} {K} {t} y c = (omega (arith, c.f1_known, length-nodes t), omega (arith, c.g1_known, length-nodes t))

module _ (op : Operation) {K t index : List ℕ} {f g : ℕ} (y : Operable K t index) (w : (f < count t + 2) × (g < count t + 2)) {p f1 g1 f0 g0 : ℕ} (c : Cut op K (nodes_of t) f g p f1 g1 f0 g0)
    {t1 index1 : List ℕ} {h : ℕ} (q1 : Gives K t t1 index1 h (joint op K t f1 g1)) where
  split_o : Split K (joint op K t f g) p (joint op K t f1 g1) (joint op K t f0 g0)
  split_o = c.split

  pub hi-none : h ≡ 65536 → Yields K t t1 index1 None (joint op K t f g)
  hi-none e = step-none-hi split_o q1 e

  pub hi-ready : Operable K t1 index1
  hi-ready = record { keys = y.keys; sound = q1.sound; indexed = q1.indexed }

  module _ (w1 : h < 65536) where
    pub lo-known : (f0 < count t1 + 2) × (g0 < count t1 + 2)
    lo-known = (omega (arith, c.f0_known, gives_more q1 w1, length-nodes t1), omega (arith, c.g0_known, gives_more q1 w1, length-nodes t1))

    pub lo_may : Combinable op (nodes_of t1) f0 g0
    lo_may h = rw (gives_keeps q1 w1 f0 c.f0_known, gives_keeps q1 w1 g0 c.g0_known) (c.lo_combinable h)

    module _ {t0 index0 : List ℕ} {l : ℕ} (q0 : Gives K t1 t0 index0 l (joint op K t1 f0 g0)) where
      p0 : Gives K t1 t0 index0 l (joint op K t f0 g0)
      p0 = gives_eq (ap₂ (combined op K) (gives_keeps q1 w1 f0 c.f0_known) (gives_keeps q1 w1 g0 c.g0_known)) q0

      pub lo-none : l ≡ 65536 → Yields K t t0 index0 None (joint op K t f g)
      lo-none e = step-none-lo split_o q1 w1 p0 e

      module _ (w0 : l < 65536) (t' index' : List ℕ) where
        pub whole : (r : Option ℕ) → Noded t0 t' index' p l h r → Yields K t t' index' r (joint op K t f g)
        whole r n = step-node split_o q1 w1 p0 t' index' r c.label-known w0 n

        pub last_none : Noded t0 t' index' p l h None → Yields K t t' index' None (joint op K t f g)
        last_none n = whole None n

        pub last_noted : {r : ℕ} → Noded t0 t' index' p l h (Some r) → {memo0 memo' : List ℕ} (at : ℕ) {k : ℕ} (e : Packed op f g k) → at ≡ place_of (length memo0) k
            → Remembered op K (nodes_of t0) memo0 → Noted memo0 at k r memo' → Remembered op K (nodes_of t') memo'
        last_noted {r} n {memo0} {memo'} at {k} e ea m s =
            let all = whole (Some r) n in
            let wf : f < suc (suc (length (nodes_of t))) = omega (arith, w.0, length-nodes t) in
            let wg : g < suc (suc (length (nodes_of t))) = omega (arith, w.1, length-nodes t) in
            let x = packed_known e (suc (suc (length (nodes_of t)))) wf wg in
            let a : Answers (nodes_of t') r (joint op K t e.first e.second) =
            subst⁻¹ (λ (F : Family). Answers (nodes_of t') r F) (packed_same e (family (nodes_of t)) K) (gives_answers all.1 all.0) in
            let made = n K (step_child split_o q1 w1 p0 c.label-known w0) in
            let m' : Remembered op K (nodes_of t') memo0 = remembered_grown made.1 made.0 m in
            remembered_noted at e.first e.second r k s ea e.is (omega (arith, x.0, y.sound.few, length-nodes t)) (omega (arith, x.1, y.sound.few, length-nodes t))
            (omega (arith, x.0, gives_more all.1 all.0)) (omega (arith, x.1, gives_more all.1 all.0))
            (subst⁻¹ (λ (F : Family). Answers (nodes_of t') r (combined op K F (family (nodes_of t') e.second))) (gives_keeps all.1 all.0 e.first x.0)
            (subst⁻¹ (λ (F : Family). Answers (nodes_of t') r (combined op K (family (nodes_of t) e.first) F)) (gives_keeps all.1 all.0 e.second x.1) a)) m'
