-- What the words of a table say of its nodes, test by test, and how far the soundness test has come. Assumes nothing.
use mathlib.Core.Path.{◌≡◌, refl, sym, ap, ap₂, subst, ◌∙◌}
use mathlib.Core.Bool.{Bool, true, false}
use mathlib.Core.Logic.{◌⊎◌, inl, inr}
use mathlib.Core.List.{List}
use Prim.Native.Nat.{ℕ, zero, suc, ◌+◌, ◌-◌, ◌*◌, ◌<◌, ◌≤◌}
use native.Mathlib.Nat.{eq-or-lt_of_le}
use native.Mathlib.Decide.{dec_lt}
use native.Mathlib.Omega.{arith}
use lib.Bits.{bit_or, or_add_and, and_le_l, and_le_r}
use lib.Dec.{ltb, eqb}
use lib.ListN.{length, get_or, get_or-eq_default, take, drop}
use Rattle.std.proofs.lemmas.List.{take_all}
use Rattle.std.proofs.lemmas.List.Sums.{fold_more}
use lib.Seq.{get_or-drop}
use Rattle.std.specs.List.{fold}
use borrow.Author.Tests.{ltb-true, lt-ltb, eqb-true, eq-eqb}
use Rattle.base.proofs.Bools.{never, is_false, same_test, cases}
use Rattle.zdd.specs.Table.{Node, node, blank, count, nodes_of, key, Over, Fine, Sound, soundb}
use Rattle.zdd.proofs.Tested.{sound_of, sound_test}
use Rattle.zdd.proofs.Words.{at-word, node_at_lem, length-nodes}
use Rattle.zdd.proofs.TableLaws.{over-of-key, key-of-over}
use Rattle.table.specs.State.{Tells, Room, IndexedTo, Found, Entered, Checked}

-- ---- a test tells

pub tells_no : {P : Type 0} → (P → ⊥) → Tells P false
tells_no f = record { yes = λ e. absurd (never e refl); no = λ e. f }

pub tells_yes : {P : Type 0} → P → Tells P true
tells_yes p = record { yes = λ e. p; no = λ e. absurd (never refl e) }

pub tells_same : {P Q : Type 0} {r : Bool} → (P → Q) → (Q → P) → Tells P r → Tells Q r
tells_same f g t = record { yes = λ e. f (t.yes e); no = λ e q. t.no e (g q) }

pub tells_ltb : (a b : ℕ) → Tells (a < b) (ltb a b)
tells_ltb a b = record { yes = ltb-true a b; no = λ e h. never (lt-ltb a b h) e }

pub tells_eqb : (a b : ℕ) → Tells (a ≡ b) (eqb a b)
tells_eqb a b = record { yes = eqb-true a b; no = λ e h. never (eq-eqb a b h) e }

-- ---- a node

-- the node at index i is that of its three words
pub node_at : (t : List ℕ) (i : ℕ) → i < count t → get_or (nodes_of t) i blank ≡ at-word t (1 + 3 * i)
node_at t i h = node_at_lem t i (1 + 3 * i) h refl

-- it is x by the third word, once the first two are x's
pub third : (t : List ℕ) (i : ℕ) (x : Node) → i < count t → get_or t (1 + 3 * i) 0 ≡ x.label → get_or t (1 + 3 * i + 1) 0 ≡ x.lo
    → Tells (get_or (nodes_of t) i blank ≡ x) (eqb (get_or t (1 + 3 * i + 2) 0) x.hi)
third t i x h p q =
    tells_same
    (λ z. node_at t i h ∙ (λ d. node (p d) (q d) (z d)))
    (λ z. ap (λ (y : Node). y.hi) (sym (node_at t i h) ∙ z))
    (tells_eqb (get_or t (1 + 3 * i + 2) 0) x.hi)

-- its label
pub label_at : (t : List ℕ) (i : ℕ) → i < count t → (get_or (nodes_of t) i blank).label ≡ get_or t (1 + 3 * i) 0
label_at t i h = ap (λ (y : Node). y.label) (node_at t i h)

-- a child c that is a node, by its key
pub child : (K t : List ℕ) (i b c : ℕ) → i < count t → 2 ≤ c → c < i + 2
    → Tells ((c < suc (suc i)) × Over K (nodes_of t) (suc b) c) (ltb b (key K (get_or t (1 + 3 * (c - 2)) 0)))
child K t i b c h l u =
    let q = label_at t (c - 2) (omega arith) in
    tells_same
    (λ z. (omega arith, over-of-key K (nodes_of t) (suc b) c (λ v. subst (λ (v : ℕ). b < key K v) (sym q) z)))
    (λ z. subst (λ (v : ℕ). b < key K v) q (key-of-over K (nodes_of t) (suc b) c z.1 l))
    (tells_ltb b (key K (get_or t (1 + 3 * (c - 2)) 0)))

-- 0 and 1 may be children of each node
pub leaf : (K : List ℕ) (ns : List Node) (i b c : ℕ) → c < 2 → (c < suc (suc i)) × Over K ns b c
leaf K ns i b c h = (omega arith, over-of-key K ns b c (λ v. absurd (omega arith)))

-- what the two children's tests say of the node at index i
module _ (K t : List ℕ) (i : ℕ) (h : i < count t) where
  abbrev NodeFits : Type 0
  NodeFits = Fine K (nodes_of t) i (get_or (nodes_of t) i blank)

  abbrev ChildFits : ℕ → Type 0
  ChildFits c = (c < suc (suc i)) × Over K (nodes_of t) (suc (key K (get_or t (1 + 3 * i) 0))) c

  to_words : NodeFits → Fine K (nodes_of t) i (at-word t (1 + 3 * i))
  to_words f = subst (λ (x : Node). Fine K (nodes_of t) i x) (node_at t i h) f

  pub no_label : length K ≤ get_or t (1 + 3 * i) 0 → Tells NodeFits false
  no_label q = tells_no (λ f. omega (arith, (to_words f).label-known))

  pub no_hi : get_or t (1 + 3 * i + 2) 0 ≡ 0 → Tells NodeFits false
  no_hi q = tells_no (λ f. omega (arith, (to_words f).hi-some))

  pub no_lo : (ChildFits (get_or t (1 + 3 * i + 1) 0) → ⊥) → Tells NodeFits false
  no_lo q = tells_no (λ f. q ((to_words f).lo-below, (to_words f).lo_after))

  pub by_hi : {r : Bool} → get_or t (1 + 3 * i) 0 < length K → 0 < get_or t (1 + 3 * i + 2) 0 → ChildFits (get_or t (1 + 3 * i + 1) 0)
      → Tells (ChildFits (get_or t (1 + 3 * i + 2) 0)) r → Tells NodeFits r
  by_hi a b l d =
      tells_same
      (λ z. subst (λ (x : Node). Fine K (nodes_of t) i x) (sym (node_at t i h))
      (record { label-known = a; lo-below = l.0; hi-below = z.0; hi-some = b; lo_after = l.1; hi_after = z.1 }))
      (λ f. ((to_words f).hi-below, (to_words f).hi_after))
      d

-- ---- the words behind the nodes

-- the words from w to j - 1 are 0 exactly where any, all of them or-ed, is
pub record ZerosTo (t : List ℕ) (w j any : ℕ) : Type 0 where
  pub from : w ≤ j
  pub clear : any ≡ 0 → (k : ℕ) → w ≤ k → k < j → get_or t k 0 ≡ 0
  pub kept : ((k : ℕ) → w ≤ k → k < j → get_or t k 0 ≡ 0) → any ≡ 0

pub zeros-none : (t : List ℕ) (w : ℕ) → ZerosTo t w w 0
zeros-none t w = record { from = omega arith; clear = λ e k a b. absurd (omega arith); kept = λ f. refl }

-- two numbers or-ed are 0 where both are
or-both : (a b : ℕ) → bit_or a b ≡ 0 → (a ≡ 0) × (b ≡ 0)
or-both a b e = (omega (arith, or_add_and a b, and_le_r a b), omega (arith, or_add_and a b, and_le_l a b))

pub zeros-more : {t : List ℕ} {w j any : ℕ} → ZerosTo t w j any → ZerosTo t w (j + 1) (bit_or any (get_or t j 0))
zeros-more {t} {w} {j} {any} c = record {
  from = omega (arith, c.from);
  clear = λ e k a b. let o = or-both any (get_or t j 0) e in go k a o.0 o.1 (eq-or-lt_of_le (omega arith));
  kept = λ f. ap₂ bit_or (c.kept (λ k a b. f k a (omega arith))) (f j c.from (omega arith));
}
  where
    go : (k : ℕ) → w ≤ k → any ≡ 0 → get_or t j 0 ≡ 0 → (k ≡ j) ⊎ (k < j) → get_or t k 0 ≡ 0
    go k a z y (inl e) = ap (λ (i : ℕ). get_or t i 0) e ∙ y
    go k a z y (inr l) = c.clear z k a l

pub zeros_tell : {t : List ℕ} {w j any : ℕ} → ZerosTo t w j any → length t ≤ j → Tells ((k : ℕ) → w ≤ k → get_or t k 0 ≡ 0) (eqb any 0)
zeros_tell {t} {w} {j} {any} c h = tells_same (λ z k a. go z k a (dec_lt k j)) (λ f. c.kept (λ k a b. f k a)) (tells_eqb any 0)
  where
    go : any ≡ 0 → (k : ℕ) → w ≤ k → Dec (k < j) → get_or t k 0 ≡ 0
    go z k a (yes l) = c.clear z k a l
    go z k a (no g) = get_or-eq_default t 0 (omega arith)

-- the first j words, or-ed one after the other
zeros_fold : (ws : List ℕ) (j : ℕ) → j ≤ length ws → ZerosTo ws 0 j (fold bit_or 0 (take j ws))
zeros_fold ws zero h = zeros-none ws 0
zeros_fold ws (suc j) h =
    let e : suc j ≡ j + 1 = omega arith in
    let m = fold_more bit_or 0 ws j 0 (omega arith) in
    rw (e, m) (zeros-more (zeros_fold ws j (omega arith)))

-- all of them
pub all_zeros : (ws : List ℕ) → Tells ((k : ℕ) → get_or ws k 0 ≡ 0) (eqb (fold bit_or 0 ws) 0)
all_zeros ws =
    let z = subst (ZerosTo ws 0 (length ws)) (ap (fold bit_or 0) (take_all (length ws) ws (omega arith))) (zeros_fold ws (length ws) (omega arith)) in
    tells_same (λ f k. f k (omega arith)) (λ f k _. f k) (zeros_tell z (omega arith))

-- ---- a node joins the index

pub entered_twice : {ns : List Node} {i r : ℕ} {x : Node} (index : List ℕ) → Found ns (i + 2) x r → 0 < r → get_or ns i blank ≡ x → Entered ns i index false
entered_twice {ns} {i} {r} {x} index f p e =
    let n = f.node p in
    record {
      joined = λ z. absurd (never z refl);
      fresh = λ z. absurd (never z refl);
      twice = λ z. (r - 2, (omega (arith, n.0, n.1.0), n.1.1 ∙ sym e));
    }

pub entered_new : {ns : List Node} {i r : ℕ} {x : Node} {index : List ℕ} → Found ns (i + 2) x r → r ≡ 0 → get_or ns i blank ≡ x → IndexedTo ns (i + 1 + 2) index
    → Entered ns i index true
entered_new {ns} {i} {r} {x} {index} f p e d = record {
  joined = λ z. d;
  fresh = λ z j l q. f.none p j (omega arith) (q ∙ e);
  twice = λ z. absurd (never refl z);
}

-- ---- the pass

-- the nodes before index i stand, none of them twice, and are indexed
pub record NodesPassed (K t : List ℕ) (i : ℕ) (index : List ℕ) : Type 0 where
  pub upto : i ≤ count t
  pub each : (j : ℕ) → j < i → Fine K (nodes_of t) j (get_or (nodes_of t) j blank)
  pub once : (j k : ℕ) → j < i → k < i → get_or (nodes_of t) j blank ≡ get_or (nodes_of t) k blank → j ≡ k
  pub entries : IndexedTo (nodes_of t) (i + 2) index

pub passed_none : (K t : List ℕ) (index : List ℕ) → IndexedTo (nodes_of t) 2 index → NodesPassed K t 0 index
passed_none K t index d = record {
  upto = omega arith;
  each = λ j h. absurd (omega arith);
  once = λ j k h. absurd (omega arith);
  entries = d;
}

pub passed_more : {K t index index' : List ℕ} {i : ℕ} {r : Bool} → NodesPassed K t i index → i < count t → Fine K (nodes_of t) i (get_or (nodes_of t) i blank)
    → Entered (nodes_of t) i index' r → r ≡ true → NodesPassed K t (i + 1) index'
passed_more {K} {t} {index} {index'} {i} {r} p h f n y = record {
  upto = omega arith;
  each = λ j l. every j (eq-or-lt_of_le (omega arith));
  once = λ j k a b. single j k (eq-or-lt_of_le (omega arith)) (eq-or-lt_of_le (omega arith));
  entries = n.joined y;
}
  where
    every : (j : ℕ) → (j ≡ i) ⊎ (j < i) → Fine K (nodes_of t) j (get_or (nodes_of t) j blank)
    every j (inl e) = subst (λ (k : ℕ). Fine K (nodes_of t) k (get_or (nodes_of t) k blank)) (sym e) f
    every j (inr l) = p.each j l

    single : (j k : ℕ) → (j ≡ i) ⊎ (j < i) → (k ≡ i) ⊎ (k < i) → get_or (nodes_of t) j blank ≡ get_or (nodes_of t) k blank → j ≡ k
    single j k (inl a) (inl b) e = a ∙ sym b
    single j k (inl a) (inr b) e = absurd (n.fresh y k b (sym e ∙ ap (λ (m : ℕ). get_or (nodes_of t) m blank) a))
    single j k (inr a) (inl b) e = absurd (n.fresh y j a (e ∙ ap (λ (m : ℕ). get_or (nodes_of t) m blank) b))
    single j k (inr a) (inr b) e = p.once j k a b e

-- no sound table
pub refused : (K t index : List ℕ) → (Sound K t → ⊥) → Checked K t index false
refused K t index f = record { says = sym (is_false (soundb K t) (λ e. f (sound_of K t e))); indexed = λ e. absurd (never e refl) }

pub not_fine : {K t : List ℕ} {i : ℕ} → i < count t → (Fine K (nodes_of t) i (get_or (nodes_of t) i blank) → ⊥) → Sound K t → ⊥
not_fine {K} {t} {i} h f s = f (s.nodes.each i (omega (arith, length-nodes t)))

pub not-once : {K t index : List ℕ} {i : ℕ} {r : Bool} → i < count t → Entered (nodes_of t) i index r → r ≡ false → Sound K t → ⊥
not-once {K} {t} {index} {i} {r} h n y s =
    let w = n.twice y in
    let z : w.0 ≡ i = s.nodes.once w.0 i (omega (arith, w.1.0, length-nodes t)) (omega (arith, length-nodes t)) w.1.1 in
    omega (arith, w.1.0)

-- the nodes passed, the words behind them decide
pub decided : {K t index : List ℕ} {i w : ℕ} {r : Bool} → NodesPassed K t i index → Room t → count t ≤ i → w ≡ 3 * count t + 1
    → Tells ((j : ℕ) → get_or (drop w t) j 0 ≡ 0) r → Checked K t index r
decided {K} {t} {index} {i} {w} {r} p room all e d = record {
  says = same_test r (soundb K t) (λ z. sound_test K t (sound z)) (λ z. kept z (cases r));
  indexed = λ z. record { room = room; entries = subst (λ (m : ℕ). IndexedTo (nodes_of t) (m + 2) index) whole p.entries };
}
  where
    whole : i ≡ count t
    whole = omega (arith, p.upto)

    sound : r ≡ true → Sound K t
    sound z = record {
      room = room.fit;
      few = room.few;
      nodes = record {
        each = λ j h. p.each j (omega (arith, length-nodes t));
        once = λ j k a b. p.once j k (omega (arith, length-nodes t)) (omega (arith, length-nodes t));
      };
      rest = λ j h. let q : w + (j - w) ≡ j = omega arith in ap (λ (k : ℕ). get_or t k 0) (sym q) ∙ sym (get_or-drop w t (j - w) 0) ∙ d.yes z (j - w);
    }

    kept : soundb K t ≡ true → (r ≡ true) ⊎ (r ≡ false) → r ≡ true
    kept z (inl y) = y
    kept z (inr n) = absurd (d.no n (λ j. get_or-drop w t j 0 ∙ (sound_of K t z).rest (w + j) (omega arith)))
