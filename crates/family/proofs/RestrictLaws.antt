-- The sets with a label, and those without it: each case of the recursion, and what is remembered. Assumes nothing.
use mathlib.Core.Path.{◌≡◌, refl, sym, ap, subst, subst⁻¹, ◌∙◌}
use mathlib.Core.Bool.{Bool, true, false}
use mathlib.Core.List.{List, []}
use Prim.Native.Nat.{ℕ, suc, ◌+◌, ◌-◌, ◌*◌, ◌<◌, ◌≤◌}
use native.Mathlib.Omega.{arith}
use native.Mathlib.Decide.{ℕ_discrete}
use lib.Dec.{eqb}
use lib.ListN.{length, get_or, set, length-set}
use lib.Seq.{get_or-set_same, get_or-set_other}
use borrow.Author.Tests.{ne_eqb}
use Rattle.zdd.specs.Table.{Node, blank, Family, count, nodes_of, family, key, Over, Fine, Nodes, Sound, Keys}
use Rattle.zdd.proofs.Grow.{family-zero}
use Rattle.zdd.proofs.Words.{length-nodes, node_at_lem, at-word}
use Rattle.zdd.proofs.TableLaws.{over-of-key, fine_at}
use Rattle.zdd.specs.Work.{Split}
use Rattle.zdd.specs.Operations.{excluding}
use Rattle.zdd.proofs.Parts.{with_after, without_after, with_other, without_other, with-same, without-same}
use Rattle.std.proofs.Common.{Option, Some, None, IfSome}
use Rattle.family.specs.Gives.{Operable, Gives, Yields, Noded, Answers}
use Rattle.family.specs.Memo.{restricted, Kept, Soon}
use Rattle.family.proofs.GivesLaws.{gives_there, gives_answers, gives_keeps, gives_more, gives_eq, step-none-hi, step-none-lo, step_child, step-node}

-- ---- by the first label

module _ {K : List ℕ} (k : Keys K) {ns : List Node} (n : Nodes K ns) (p f : ℕ) (w : f < suc (suc (length ns))) where
  -- a number that begins after p
  pub after_with : Over K ns (suc (key K p)) f → Answers ns 0 (restricted true K p (family ns f))
  after_with o = record { known = omega arith; holds = family-zero ns ∙ sym (with_after k n p f w o) }

  pub after_without : Over K ns (suc (key K p)) f → Answers ns f (restricted false K p (family ns f))
  after_without o = record { known = w; holds = sym (without_after k n p f w o) }

over_end : (K : List ℕ) (ns : List Node) (b f : ℕ) → f < 2 → Over K ns b f
over_end K ns b f h = over-of-key K ns b f (λ l. absurd (omega arith))

pub two_more : (f : ℕ) → 2 ≤ f → suc (suc (f - 2)) ≡ f
two_more f l = omega arith

-- ---- the words of a number

module _ {K t : List ℕ} (s : Sound K t) (f a : ℕ) (l : 2 ≤ f) (w : f < count t + 2) (e : a ≡ 3 * f - 5) where
  pub word-node : get_or (nodes_of t) (f - 2) blank ≡ at-word t a
  word-node = node_at_lem t (f - 2) a (omega arith) (omega arith)

  pub word-label : (get_or (nodes_of t) (f - 2) blank).label ≡ get_or t a 0
  word-label = ap (λ (x : Node). x.label) word-node

  pub word-lo : (get_or (nodes_of t) (f - 2) blank).lo ≡ get_or t (a + 1) 0
  word-lo = ap (λ (x : Node). x.lo) word-node

  pub word_fine : Fine K (nodes_of t) (f - 2) (at-word t a)
  word_fine = fine_at s f a l w (omega arith)

  pub label-known : get_or t a 0 < length K
  label-known = word_fine.label-known

  -- the label is another one
  pub split_other : Keys K → (b : Bool) (p : ℕ) → (get_or t a 0 ≡ p → ⊥)
      → Split K (restricted b K p (family (nodes_of t) f)) (get_or t a 0) (restricted b K p (family (nodes_of t) (get_or t (a + 2) 0))) (restricted b K p (family (nodes_of t) (get_or t (a + 1) 0)))
  split_other k b p d =
      subst (λ (x : Node). Split K (restricted b K p (family (nodes_of t) f)) x.label (restricted b K p (family (nodes_of t) x.hi)) (restricted b K p (family (nodes_of t) x.lo))) word-node
      (subst (λ (g : ℕ). Split K (restricted b K p (family (nodes_of t) g)) x.label (restricted b K p (family (nodes_of t) x.hi)) (restricted b K p (family (nodes_of t) x.lo))) (two_more f l)
      (go b))
    where
      x : Node
      x = get_or (nodes_of t) (f - 2) blank

      i : f - 2 < length (nodes_of t)
      i = omega (arith, length-nodes t)

      q : eqb p (get_or (nodes_of t) (f - 2) blank).label ≡ false
      q = ne_eqb p (get_or (nodes_of t) (f - 2) blank).label (λ y. d (sym word-label ∙ sym y))

      go : (b : Bool) → Split K (restricted b K p (family (nodes_of t) (suc (suc (f - 2))))) x.label (restricted b K p (family (nodes_of t) x.hi)) (restricted b K p (family (nodes_of t) x.lo))
      go true = with_other k s.nodes p (f - 2) i q
      go false = without_other k s.nodes p (f - 2) i q

  -- the label is p
  pub split_own : Keys K → (p : ℕ) → get_or t a 0 ≡ p → Split K (restricted true K p (family (nodes_of t) f)) p (family (nodes_of t) (get_or t (a + 2) 0)) []
  split_own k p d =
      subst (λ (q : ℕ). Split K (restricted true K p (family (nodes_of t) f)) q (family (nodes_of t) (get_or t (a + 2) 0)) []) d
      (subst (λ (x : Node). Split K (restricted true K p (family (nodes_of t) f)) x.label (family (nodes_of t) x.hi) []) word-node
      (subst (λ (g : ℕ). Split K (restricted true K p (family (nodes_of t) g)) (get_or (nodes_of t) (f - 2) blank).label (family (nodes_of t) (get_or (nodes_of t) (f - 2) blank).hi) []) (two_more f l)
      (with-same k s.nodes p (f - 2) (omega (arith, length-nodes t)) (word-label ∙ d))))

  pub own_without : Keys K → (p : ℕ) → get_or t a 0 ≡ p → Answers (nodes_of t) (get_or t (a + 1) 0) (restricted false K p (family (nodes_of t) f))
  own_without k p d = record {
    known = omega (arith, word_fine.lo-below, length-nodes t);
    holds =
        sym (ap (λ (g : ℕ). excluding K p (family (nodes_of t) g)) (sym (two_more f l)) ∙ without-same k s.nodes p (f - 2) (omega (arith, length-nodes t)) (word-label ∙ d)
        ∙ ap (family (nodes_of t)) word-lo);
  }

-- ---- what soon says

module _ {K t : List ℕ} (s : Sound K t) (k : Keys K) (p f : ℕ) (w : f < count t + 2) where
  few : (r : ℕ) {F : Family} → Answers (nodes_of t) r F → r < 65536
  few r a = omega (arith, a.known, length-nodes t, s.few)

  pub soon-answer : (b : Bool) (r : ℕ) → Answers (nodes_of t) r (restricted b K p (family (nodes_of t) f)) → Soon b K p (nodes_of t) f (Some r)
  soon-answer b r a = (few r a, a)

  ww : f < suc (suc (length (nodes_of t)))
  ww = omega (arith, length-nodes t)

  -- a terminal
  pub soon_end_with : {b : Bool} → f < 2 → b ≡ true → Soon b K p (nodes_of t) f (Some 0)
  soon_end_with {b} h e = subst⁻¹ (λ (b : Bool). Soon b K p (nodes_of t) f (Some 0)) e (soon-answer true 0 (after_with k s.nodes p f ww (over_end K (nodes_of t) (suc (key K p)) f h)))

  pub soon_end_without : {b : Bool} → f < 2 → b ≡ false → Soon b K p (nodes_of t) f (Some f)
  soon_end_without {b} h e = subst⁻¹ (λ (b : Bool). Soon b K p (nodes_of t) f (Some f)) e (soon-answer false f (after_without k s.nodes p f ww (over_end K (nodes_of t) (suc (key K p)) f h)))

  module _ (l : 2 ≤ f) (a : ℕ) (e : a ≡ 3 * f - 5) where
    -- the label p
    pub soon_own_without : {b : Bool} → get_or t a 0 ≡ p → b ≡ false → Soon b K p (nodes_of t) f (Some (get_or t (a + 1) 0))
    soon_own_without {b} d q = subst⁻¹ (λ (b : Bool). Soon b K p (nodes_of t) f (Some (get_or t (a + 1) 0))) q (soon-answer false (get_or t (a + 1) 0) (own_without s f a l w e k p d))

    pub soon_own_with : {b : Bool} → b ≡ true → Soon b K p (nodes_of t) f None
    soon_own_with q = (l, λ y. q)

    pub soon_other : {b : Bool} → (get_or t a 0 ≡ p → ⊥) → Soon b K p (nodes_of t) f None
    soon_other d = (l, λ y. absurd (d (sym (word-label s f a l w e) ∙ y)))

    late : key K p < key K (get_or t a 0) → Over K (nodes_of t) (suc (key K p)) f
    late h = over-of-key K (nodes_of t) (suc (key K p)) f (λ z. subst⁻¹ (λ (q : ℕ). key K p < key K q) (word-label s f a l w e) h)

    -- a label after p
    pub soon-late-with : {b : Bool} → key K p < key K (get_or t a 0) → b ≡ true → Soon b K p (nodes_of t) f (Some 0)
    soon-late-with {b} h q = subst⁻¹ (λ (b : Bool). Soon b K p (nodes_of t) f (Some 0)) q (soon-answer true 0 (after_with k s.nodes p f ww (late h)))

    pub soon-late-without : {b : Bool} → key K p < key K (get_or t a 0) → b ≡ false → Soon b K p (nodes_of t) f (Some f)
    soon-late-without {b} h q = subst⁻¹ (λ (b : Bool). Soon b K p (nodes_of t) f (Some f)) q (soon-answer false f (after_without k s.nodes p f ww (late h)))

-- what is wanted, said otherwise
pub wanted-same : {b b' : Bool} {p p' : ℕ} (K : List ℕ) (F : Family) → b ≡ b' → p ≡ p' → restricted b K p F ≡ restricted b' K p' F
wanted-same {b} {b'} {p} {p'} K F e q = ap (λ (c : Bool). restricted c K p F) e ∙ ap (λ (n : ℕ). restricted b' K n F) q

-- ---- what is remembered

pub kept_fresh : (b : Bool) (K : List ℕ) (p : ℕ) (ns : List Node) (memo : List ℕ) → length memo ≡ 65536 → ((i : ℕ) → get_or memo i 0 ≡ 0) → Kept b K p ns memo
kept_fresh b K p ns memo l z = record {
  long = l;
  place = λ k h. absurd (omega (arith, z k));
  each = λ k h. absurd (omega (arith, z k));
}

pub kept_grown : {b : Bool} {K t t' index' memo : List ℕ} {p r : ℕ} {F : Family} → Gives K t t' index' r F → r < 65536
    → Kept b K p (nodes_of t) memo → Kept b K p (nodes_of t') memo
kept_grown {b} {K} {t} {t'} {index'} {memo} {p} g h m = record {
  long = m.long;
  place = λ k z. omega (arith, m.place k z, gives_more g h);
  each = λ k z.
      let a = m.each k z in
      record {
        known = omega (arith, a.known, gives_more g h);
        holds = gives_keeps g h (get_or memo k 0 - 1) a.known ∙ a.holds ∙ ap (restricted b K p) (sym (gives_keeps g h k (m.place k z)));
      };
}

pub kept_stored : {b : Bool} {K memo : List ℕ} {ns : List Node} {p : ℕ} (f r v : ℕ) → v ≡ r + 1 → f < 65536 → f < suc (suc (length ns))
    → Answers ns r (restricted b K p (family ns f)) → Kept b K p ns memo → Kept b K p ns (set memo f v)
kept_stored {b} {K} {memo} {ns} {p} f r v ev l w a m = record {
  long = length-set memo f v ∙ m.long;
  place = λ k z. place k (ℕ_discrete k f) z;
  each = λ k z. each k (ℕ_discrete k f) z;
}
  where
    same : (k : ℕ) → k ≡ f → get_or (set memo f v) k 0 ≡ v
    same k e = ap (λ (j : ℕ). get_or (set memo f v) j 0) e ∙ get_or-set_same memo f v 0 (omega (arith, m.long))

    place : (k : ℕ) → Dec (k ≡ f) → 0 < get_or (set memo f v) k 0 → k < suc (suc (length ns))
    place k (yes e) z = omega arith
    place k (no d) z = m.place k (subst (λ (x : ℕ). 0 < x) (get_or-set_other memo f k v 0 d) z)

    each : (k : ℕ) → Dec (k ≡ f) → 0 < get_or (set memo f v) k 0 → Answers ns (get_or (set memo f v) k 0 - 1) (restricted b K p (family ns k))
    each k (yes e) z =
        let y : r ≡ get_or (set memo f v) k 0 - 1 = omega (arith, same k e) in
        subst (λ (x : ℕ). Answers ns x (restricted b K p (family ns k))) y
        (subst⁻¹ (λ (j : ℕ). Answers ns r (restricted b K p (family ns j))) e a)
    each k (no d) z =
        let q : get_or memo k 0 ≡ get_or (set memo f v) k 0 = sym (get_or-set_other memo f k v 0 d) in
        subst (λ (x : ℕ). Answers ns (x - 1) (restricted b K p (family ns k))) q (m.each k (subst⁻¹ (λ (x : ℕ). 0 < x) q z))

-- ---- the recursion: f is a node whose three words begin at a, and its restriction is to be made

pub record Open (b : Bool) (K : List ℕ) (p : ℕ) (t index memo : List ℕ) (f a : ℕ) : Type 0 where
  pub ready : Operable K t index
  pub kept : Kept b K p (nodes_of t) memo
  pub low : 2 ≤ f
  pub below : f < count t + 2
  pub place : a ≡ 3 * f - 5
  pub p-known : p < length K
  pub own : get_or t a 0 ≡ p → b ≡ true

pub open_of : {b : Bool} {K t index memo : List ℕ} {p f : ℕ} → Operable K t index → Kept b K p (nodes_of t) memo → (f < count t + 2) × (p < length K) → Soon b K p (nodes_of t) f None
    → Open b K p t index memo f (3 * f - 5)
open_of {b} {K} {t} {index} {memo} {p} {f} y m w s = record {
  ready = y;
  kept = m;
  low = s.0;
  below = w.0;
  place = refl;
  p-known = w.1;
  own = λ d. s.1 (word-label y.sound f (3 * f - 5) s.0 w.0 refl ∙ d);
}

-- the answer at once
pub soon_gives : (b : Bool) (p f r : ℕ) {K t index : List ℕ} → Operable K t index → Soon b K p (nodes_of t) f (Some r)
    → Yields K t t index (Some r) (restricted b K p (family (nodes_of t) f))
soon_gives b p f r y s = (s.0, gives_there y.sound y.indexed s.0 s.1)

module _ {b : Bool} {K : List ℕ} {p : ℕ} {t index memo : List ℕ} {f a : ℕ} (o : Open b K p t index memo f a) where
  fine_o : Fine K (nodes_of t) (f - 2) (at-word t a)
  fine_o = word_fine o.ready.sound f a o.low o.below o.place

  pub hi_falls : get_or t (a + 2) 0 < f
  hi_falls = omega (arith, fine_o.hi-below, o.low)

  pub lo_falls : get_or t (a + 1) 0 < f
  lo_falls = omega (arith, fine_o.lo-below, o.low)

  pub hi-below : get_or t (a + 2) 0 < count t + 2
  hi-below = omega (arith, hi_falls, o.below)

  lo_len : get_or t (a + 1) 0 < suc (suc (length (nodes_of t)))
  lo_len = omega (arith, lo_falls, o.below, length-nodes t)

  -- the label is p
  pub own_gives : (t' index' : List ℕ) (r : Option ℕ) → get_or t a 0 ≡ p → Noded t t' index' p 0 (get_or t (a + 2) 0) r
      → Yields K t t' index' r (restricted b K p (family (nodes_of t) f))
  own_gives t' index' r d n =
      let s = o.ready.sound in
      let g1 : Gives K t t index (get_or t (a + 2) 0) (family (nodes_of t) (get_or t (a + 2) 0)) =
      gives_there s o.ready.indexed (omega (arith, hi-below, s.few)) (record { known = omega (arith, hi-below, length-nodes t); holds = refl }) in
      let g0 : Gives K t t index 0 [] = gives_there s o.ready.indexed (omega arith) (record { known = omega arith; holds = family-zero (nodes_of t) }) in
      subst⁻¹ (λ (c : Bool). Yields K t t' index' r (restricted c K p (family (nodes_of t) f))) (o.own d)
      (step-node (split_own s f a o.low o.below o.place o.ready.keys p d) g1 (omega (arith, hi-below, s.few)) g0 t' index' r o.p-known (omega arith) n)

  pub own-kept : (t' index' : List ℕ) (r : Option ℕ) → get_or t a 0 ≡ p → Noded t t' index' p 0 (get_or t (a + 2) 0) r
      → IfSome r (λ x. Kept b K p (nodes_of t') memo)
  own-kept t' index' (Some r) d n = let g = own_gives t' index' (Some r) d n in kept_grown g.1 g.0 o.kept
  own-kept t' index' None d n = tt

  -- the label is another one: hi, then lo, then the node
  module _ (d : get_or t a 0 ≡ p → ⊥) {t1 index1 : List ℕ} {h : ℕ} (g1 : Gives K t t1 index1 h (restricted b K p (family (nodes_of t) (get_or t (a + 2) 0)))) where
    split_o : Split K (restricted b K p (family (nodes_of t) f)) (get_or t a 0) (restricted b K p (family (nodes_of t) (get_or t (a + 2) 0))) (restricted b K p (family (nodes_of t) (get_or t (a + 1) 0)))
    split_o = split_other o.ready.sound f a o.low o.below o.place o.ready.keys b p d

    pub hi-none : h ≡ 65536 → Yields K t t1 index1 None (restricted b K p (family (nodes_of t) f))
    hi-none e = step-none-hi split_o g1 e

    pub hi-ready : Operable K t1 index1
    hi-ready = record { keys = o.ready.keys; sound = g1.sound; indexed = g1.indexed }

    module _ (w1 : h < 65536) where
      pub lo-below : get_or t (a + 1) 0 < count t1 + 2
      lo-below = omega (arith, lo_len, gives_more g1 w1, length-nodes t1)

      module _ {t0 index0 : List ℕ} {l : ℕ} (q0 : Gives K t1 t0 index0 l (restricted b K p (family (nodes_of t1) (get_or t (a + 1) 0)))) where
        g0 : Gives K t1 t0 index0 l (restricted b K p (family (nodes_of t) (get_or t (a + 1) 0)))
        g0 = gives_eq (ap (restricted b K p) (gives_keeps g1 w1 (get_or t (a + 1) 0) lo_len)) q0

        pub lo-none : l ≡ 65536 → Yields K t t0 index0 None (restricted b K p (family (nodes_of t) f))
        lo-none e = step-none-lo split_o g1 w1 g0 e

        module _ (w0 : l < 65536) (t' index' : List ℕ) where
          pub whole : (r : Option ℕ) → Noded t0 t' index' (get_or t a 0) l h r → Yields K t t' index' r (restricted b K p (family (nodes_of t) f))
          whole r n = step-node split_o g1 w1 g0 t' index' r fine_o.label-known w0 n

          pub last_none : Noded t0 t' index' (get_or t a 0) l h None → Yields K t t' index' None (restricted b K p (family (nodes_of t) f))
          last_none n = whole None n

          module _ {r : ℕ} (n : Noded t0 t' index' (get_or t a 0) l h (Some r)) where
            -- nothing is stored
            pub last_kept : {memo0 : List ℕ} → Kept b K p (nodes_of t0) memo0 → Kept b K p (nodes_of t') memo0
            last_kept m = let x = n K (step_child split_o g1 w1 g0 fine_o.label-known w0) in kept_grown x.1 x.0 m

            pub last_stored : {memo0 : List ℕ} → Kept b K p (nodes_of t0) memo0 → Kept b K p (nodes_of t') (set memo0 f (r + 1))
            last_stored m =
                let wf : f < suc (suc (length (nodes_of t))) = omega (arith, o.below, length-nodes t) in
                let x = whole (Some r) n in
                kept_stored f r (r + 1) refl (omega (arith, o.below, o.ready.sound.few)) (omega (arith, wf, gives_more x.1 x.0))
                (subst⁻¹ (λ (F : Family). Answers (nodes_of t') r (restricted b K p F)) (gives_keeps x.1 x.0 f wf) (gives_answers x.1 x.0)) (last_kept m)
