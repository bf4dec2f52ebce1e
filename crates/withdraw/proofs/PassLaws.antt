-- The pass in the words of the table, and what is left when the rest is zeroed and the answers are replaced. Assumes nothing.
use mathlib.Core.Path.{◌≡◌, refl, sym, ap, ap₂, ◌∙◌, subst}
use mathlib.Core.List.{List, [], ◌∷◌}
use Prim.Native.Nat.{ℕ, suc, ◌+◌, ◌-◌, ◌*◌, ◌≤◌, ◌<◌}
use native.Mathlib.Nat.{not-suc-le-zero}
use native.Mathlib.Decide.{dec_lt, ℕ_discrete}
use native.Mathlib.Omega.{arith}
use lib.ListN.{length, get_or, set, length-set}
use lib.Seq.{ext_get_or, get_or-set_same, get_or-set_other, set-set, set-get_or}
use Rattle.zdd.specs.Table.{Node, node, blank, count, nodes_of, family, Fine, Nodes, Sound, ◌∈◌}
use Rattle.zdd.proofs.Words.{at-word, node_at_lem, length-nodes}
use Rattle.table.specs.State.{Fresh, IndexedTo}
use Rattle.table.proofs.IndexLaws as laws
use Rattle.table.proofs.RollLaws.{WipedFrom}
use Rattle.zdd.specs.Below.{Below}
use Rattle.zdd.specs.Withdrawal.{Shorter}
use Rattle.base.proofs.Lists.{nth_member}
use Rattle.withdraw.specs.Withdrawal.{Within, Withdrawn}
use Rattle.withdraw.specs.State.{Names, Ready, Renewed, Renewal, Passed, Passing, ReplacedTo, Small, Roomy}
use Rattle.withdraw.proofs.Steps.{pass_start, pass-unmarked, pass_renewed}
use Rattle.withdraw.proofs.Finish.{holds, needed}

nil-of : (l : List Node) → length l ≡ 0 → l ≡ []
nil-of [] e = refl
nil-of (x ∷ l) e = absurd (omega arith)

-- ---- the start: no new node

pub passing_start : {gone K t index marks : List ℕ} → Sound K t → Fresh index → get_or marks 0 0 ≡ 0 → get_or marks 1 0 ≡ 1
    → Passing gone K t marks 0 (set t 0 0) index marks
passing_start {gone} {K} {t} {index} {marks} s f z o =
    let none : count (set t 0 0) ≡ 0 = get_or-set_same t 0 0 0 (omega (arith, s.room)) in
    let empty : nodes_of (set t 0 0) ≡ [] = nil-of (nodes_of (set t 0 0)) (length-nodes (set t 0 0) ∙ none) in
    let two : 2 ≡ count (set t 0 0) + 2 = omega arith in
    record {
      pass = subst (λ (l : List Node). Passed gone K (nodes_of t) marks 0 l marks) (sym empty) (pass_start gone K (nodes_of t) marks z o);
      long = length-set t 0 0;
      words = refl;
      indexed = record {
        room = record { fit = omega (arith, length-set t 0 0, s.room); few = omega arith };
        entries = subst (λ (m : ℕ). IndexedTo (nodes_of (set t 0 0)) m index) two (laws.none (nodes_of (set t 0 0)) f);
      };
      behind = λ j h. get_or-set_other t 0 j 0 0 (λ e. omega arith);
    }

-- ---- a node

module _ {gone K t₀ marks t index f : List ℕ} {i : ℕ} (s : Sound K t₀) (p : Passing gone K t₀ marks i t index f) (lt : i < count t₀)
    (many : count t₀ + 2 ≤ length marks) where
  w : i < length (nodes_of t₀)
  w = omega (arith, length-nodes t₀)

  far : length (nodes_of t₀) + 2 ≤ length f
  far = omega (arith, length-nodes t₀, p.words)

  next-index : suc i ≡ i + 1
  next-index = omega arith

  -- the new nodes are no more than the old ones before it
  few_new : count t ≤ i
  few_new = omega (arith, length-nodes t, p.pass.fewer)

  pub roomy : Roomy t
  roomy = record { fit = omega (arith, few_new, p.long, s.room); few = omega (arith, few_new, s.few) }

  pub passing_skip : get_or f (i + 2) 0 ≡ 0 → Passing gone K t₀ marks (i + 1) t index f
  passing_skip z =
      let y : suc (suc i) ≡ i + 2 = omega arith in
      record {
        pass = subst (λ (n : ℕ). Passed gone K (nodes_of t₀) marks n (nodes_of t) f) next-index
            (pass-unmarked s.nodes p.pass w far (ap (λ (n : ℕ). get_or f n 0) y ∙ z));
        long = p.long;
        words = p.words;
        indexed = p.indexed;
        behind = λ j h. p.behind j (omega arith);
      }

  -- the old node, as the code reads it
  module _ (a : ℕ) (ea : a ≡ 1 + 3 * i) where
    here : get_or (nodes_of t₀) i blank ≡ at-word t a
    here =
        node_at_lem t₀ i a lt ea
        ∙ (λ d. node (sym (p.behind a (omega arith)) d) (sym (p.behind (a + 1) (omega arith)) d) (sym (p.behind (a + 2) (omega arith)) d))

    same-label : (get_or (nodes_of t₀) i blank).label ≡ get_or t a 0
    same-label = ap (λ (x : Node). x.label) here

    same-lo : (get_or (nodes_of t₀) i blank).lo ≡ get_or t (a + 1) 0
    same-lo = ap (λ (x : Node). x.lo) here

    same-hi : (get_or (nodes_of t₀) i blank).hi ≡ get_or t (a + 2) 0
    same-hi = ap (λ (x : Node). x.hi) here

    fine : Fine K (nodes_of t₀) i (get_or (nodes_of t₀) i blank)
    fine = s.nodes.each i w

    pub label_in : (names : List ℕ) → Names gone (length K) names → get_or t a 0 < length names
    label_in names n = omega (arith, n.many, fine.label-known, same-label)

    pub lo_in : get_or t (a + 1) 0 < length f
    lo_in = omega (arith, fine.lo-below, same-lo, far)

    pub hi_in : get_or t (a + 2) 0 < length f
    hi_in = omega (arith, fine.hi-below, same-hi, far)

    pub lo_small : get_or f (get_or t (a + 1) 0) 0 < 65536
    lo_small =
        omega (arith, p.pass.below (get_or t (a + 1) 0) (omega (arith, fine.lo-below, same-lo)), length-nodes t, few_new, s.few)

    pub hi_small : get_or f (get_or t (a + 2) 0) 0 < 65536
    hi_small =
        omega (arith, p.pass.below (get_or t (a + 2) 0) (omega (arith, fine.hi-below, same-hi)), length-nodes t, few_new, s.few)

    pub passing_more : (names : List ℕ) → Names gone (length K) names → {t' index' : List ℕ} (r : ℕ) → (get_or f (i + 2) 0 ≡ 0 → ⊥)
        → Renewal (get_or names (get_or t a 0) 0) (get_or f (get_or t (a + 1) 0) 0) (get_or f (get_or t (a + 2) 0) 0) t t' index' r
        → Passing gone K t₀ marks (i + 1) t' index' (set f (i + 2) r)
    passing_more names n {t'} {index'} r z c = record {
      pass = subst (λ (m : ℕ). Passed gone K (nodes_of t₀) marks m (nodes_of t') (set f (i + 2) r)) next-index
          (subst (λ (m : ℕ). Passed gone K (nodes_of t₀) marks (suc i) (nodes_of t') (set f m r)) y
          (pass_renewed s.nodes p.pass w far names n (nodes_of t') r (omega (arith, z, ap (λ (m : ℕ). get_or f m 0) y)) renewed));
      long = c.words.long ∙ p.long;
      words = length-set f (i + 2) r ∙ p.words;
      indexed = c.words.indexed;
      behind = λ j h. c.words.behind j (omega (arith, few_new)) ∙ p.behind j (omega arith);
    }
      where
        y : suc (suc i) ≡ i + 2
        y = omega arith

        renewed : Renewed (get_or names (get_or (nodes_of t₀) i blank).label 0) (get_or f (get_or (nodes_of t₀) i blank).lo 0) (get_or f (get_or (nodes_of t₀) i blank).hi 0) (nodes_of t) (nodes_of t') r
        renewed = rw (same-label, same-lo, same-hi) c.nodes

-- ---- the end

-- the same nodes stand in words that agree up to the last of them
nodes-same : (t t' : List ℕ) → count t' ≡ count t → ((j : ℕ) → j < 3 * count t + 1 → get_or t' j 0 ≡ get_or t j 0) → nodes_of t' ≡ nodes_of t
nodes-same t t' e f =
    ext_get_or blank (nodes_of t') (nodes_of t) (length-nodes t' ∙ e ∙ sym (length-nodes t)) (λ i h. at i (omega (arith, length-nodes t')))
  where
    at : (i : ℕ) → i < count t → get_or (nodes_of t') i blank ≡ get_or (nodes_of t) i blank
    at i h =
        node_at_lem t' i (1 + 3 * i) (omega arith) refl
        ∙ (λ d. node (f (1 + 3 * i) (omega arith) d) (f (1 + 3 * i + 1) (omega arith) d) (f (1 + 3 * i + 2) (omega arith) d))
        ∙ sym (node_at_lem t i (1 + 3 * i) h refl)

module _ {gone K t₀ marks t index f : List ℕ} (s : Sound K t₀) (p : Passing gone K t₀ marks (count t₀) t index f) where
  -- as the pass ends
  done : Passed gone K (nodes_of t₀) marks (length (nodes_of t₀)) (nodes_of t) f
  done = subst (λ (i : ℕ). Passed gone K (nodes_of t₀) marks i (nodes_of t) f) (sym (length-nodes t₀)) p.pass

  pub fewer : count t ≤ count t₀
  fewer = omega (arith, length-nodes t, p.pass.fewer)

  pub small : (answers : List ℕ) → Within answers (count t₀ + 2) → Small f answers
  small answers a j h = omega (arith, p.pass.below (get_or answers j 0) (a j h), length-nodes t, fewer, s.few)

  pub finished : {work answers answers' t' : List ℕ} → Ready gone (nodes_of t₀) answers work marks → Within answers (count t₀ + 2)
      → WipedFrom t (3 * count t + 1) (3 * count t₀ + 1) t' → ReplacedTo f answers (length answers) answers'
      → (K' : List ℕ) → Shorter gone K K' → Withdrawn gone K' t₀ answers t' answers' (count t)
  finished {work} {answers} {answers'} {t'} y known z c K' h = record {
    long = z.long ∙ p.long;
    sound = record {
      room = omega (arith, same_count, fewer, s.room, z.long, p.long);
      few = omega (arith, same_count, fewer, s.few);
      nodes = subst (Nodes K') (sym same_nodes) (done.sound K' h);
      rest = λ j l. rest j (omega (arith, same_count)) (dec_lt j (3 * count t₀ + 1));
    };
    left = sym same_count;
    fewer = omega (arith, same_count, fewer);
    listed = c.same;
    known = λ j l. rw (c.new j (omega (arith, c.same))) (omega (arith, p.pass.below (get_or answers j 0) (known j (omega (arith, c.same))), length-nodes t, same_count));
    families = λ j l.
        ap₂ family same_nodes (c.new j l)
        ∙ holds s.nodes y.marked done (done.sound K' h) (get_or answers j 0) (omega (arith, known j l, length-nodes t₀)) (y.marked.all j l);
    needed = λ k l u. need k l (omega (arith, same_count));
  }
    where
      same_count : count t' ≡ count t
      same_count = z.front 0 (omega arith)

      same_nodes : nodes_of t' ≡ nodes_of t
      same_nodes = nodes-same t t' same_count (λ j l. z.front j (omega arith))

      rest : (j : ℕ) → 3 * count t < j → Dec (j < 3 * count t₀ + 1) → get_or t' j 0 ≡ 0
      rest j l (yes d) = z.clear j (omega arith) d
      rest j l (no d) = z.back j (omega arith) ∙ p.behind j (omega arith) ∙ s.rest j (omega arith)

      need : (k : ℕ) → 2 ≤ k → k < count t + 2 → (a : ℕ) × ((a ∈ answers') × Below (nodes_of t') a k)
      need k l u =
          let g = needed s.nodes y.marked done (k - 2) (omega (arith, length-nodes t)) in
          let e : suc (suc (k - 2)) ≡ k = omega arith in (
            get_or answers' g.0 0,
            (
              nth_member answers' g.0 0 (omega (arith, g.1.0, c.same)),
              subst (Below (nodes_of t') (get_or answers' g.0 0)) e
                  (subst (λ (v : ℕ). Below (nodes_of t') v (suc (suc (k - 2)))) (sym (c.new g.0 g.1.0))
                  (subst (λ (l : List Node). Below l (get_or f (get_or answers g.0 0) 0) (suc (suc (k - 2)))) (sym same_nodes) g.1.1)),
            ),
          )

-- ---- the loops at the end

pub replaced_start : (f answers : List ℕ) → ReplacedTo f answers 0 answers
replaced_start f answers = record { same = refl; new = λ i h. absurd (not-suc-le-zero h); old = λ i h. refl }

pub replaced-more : {f answers answers' : List ℕ} (j v : ℕ) → j < length answers' → v ≡ get_or f (get_or answers' j 0) 0 → ReplacedTo f answers j answers'
    → ReplacedTo f answers (j + 1) (set answers' j v)
replaced-more {f} {answers} {answers'} j v h e r = record {
  same = length-set answers' j v ∙ r.same;
  new = λ i l. at i l (ℕ_discrete i j);
  old = λ i l. get_or-set_other answers' j i v 0 (λ q. omega arith) ∙ r.old i (omega arith);
}
  where
    at : (i : ℕ) → i < j + 1 → Dec (i ≡ j) → get_or (set answers' j v) i 0 ≡ get_or f (get_or answers i 0) 0
    at i l (yes q) =
        ap (λ (n : ℕ). get_or (set answers' j v) n 0) q ∙ get_or-set_same answers' j v 0 h ∙ e
        ∙ ap (λ (n : ℕ). get_or f n 0) (r.old j (omega arith)) ∙ ap (λ (n : ℕ). get_or f (get_or answers n 0) 0) (sym q)
    at i l (no q) = get_or-set_other answers' j i v 0 q ∙ r.new i (omega arith)

-- ---- the loop: t₁ are the words once word 0 is 0, and n was in word 0

pub record Looping (gone K t₁ : List ℕ) (n : ℕ) (marks : List ℕ) (i : ℕ) (t index f : List ℕ) : Type 0 where
  pub sound : Sound K (set t₁ 0 n)
  pub counted : count (set t₁ 0 n) ≡ n
  pub low : i ≤ n
  pub many : n + 2 ≤ length f
  pub fit : 3 * n < length t
  pub passing : Passing gone K (set t₁ 0 n) marks i t index f

restored : (t : List ℕ) → set (set t 0 0) 0 (count t) ≡ t
restored t = set-set t 0 0 (count t) ∙ set-get_or t 0 0

pub looping_start : {gone K t index marks : List ℕ} → Sound K t → Fresh index → count t + 2 ≤ length marks
    → (get_or marks 0 0 ≡ 0) × (get_or marks 1 0 ≡ 1) → Looping gone K (set t 0 0) (count t) marks 0 (set t 0 0) index marks
looping_start {gone} {K} {t} {index} {marks} s f m z = record {
  sound = rw (restored t) s;
  counted = ap count (restored t);
  low = omega arith;
  many = m;
  fit = omega (arith, length-set t 0 0, s.room);
  passing = subst (λ (u : List ℕ). Passing gone K u marks 0 (set t 0 0) index marks) (sym (restored t)) (passing_start s f z.0 z.1);
}

pub looping_end : {gone K t index marks t' f : List ℕ} {i : ℕ} → Looping gone K (set t 0 0) (count t) marks i t' index f → count t ≤ i
    → Passing gone K t marks (count t) t' index f
looping_end {gone} {K} {t} {index} {marks} {t'} {f} {i} l h =
    let z : i ≡ count t = omega (arith, l.low) in
    subst (λ (m : ℕ). Passing gone K t marks m t' index f) z
    (subst (λ (u : List ℕ). Passing gone K u marks i t' index f) (restored t) l.passing)

module _ {gone K t₁ marks t index f : List ℕ} {n i : ℕ} (l : Looping gone K t₁ n marks i t index f) (h : i < n) where
  lt : i < count (set t₁ 0 n)
  lt = omega (arith, l.counted)

  enough : count (set t₁ 0 n) + 2 ≤ length marks
  enough = omega (arith, l.counted, l.many, l.passing.words)

  pub looping_roomy : Roomy t
  looping_roomy = roomy l.sound l.passing lt enough

  pub looping_skip : get_or f (i + 2) 0 ≡ 0 → Looping gone K t₁ n marks (i + 1) t index f
  looping_skip z = record {
    sound = l.sound;
    counted = l.counted;
    low = omega arith;
    many = l.many;
    fit = l.fit;
    passing = passing_skip l.sound l.passing lt enough z;
  }

  -- what the code reads
  pub looping_label : {names : List ℕ} → Names gone (length K) names → get_or t (1 + 3 * i) 0 < length names
  looping_label {names} = label_in l.sound l.passing lt enough (1 + 3 * i) refl names

  pub looping_lo : (get_or t (1 + 3 * i + 1) 0 < length f) × (get_or f (get_or t (1 + 3 * i + 1) 0) 0 < 65536)
  looping_lo = (lo_in l.sound l.passing lt enough (1 + 3 * i) refl, lo_small l.sound l.passing lt enough (1 + 3 * i) refl)

  pub looping_hi : (get_or t (1 + 3 * i + 2) 0 < length f) × (get_or f (get_or t (1 + 3 * i + 2) 0) 0 < 65536)
  looping_hi = (hi_in l.sound l.passing lt enough (1 + 3 * i) refl, hi_small l.sound l.passing lt enough (1 + 3 * i) refl)

  pub looping_more : {names t' index' : List ℕ} {r : ℕ} → Names gone (length K) names → (get_or f (i + 2) 0 ≡ 0 → ⊥)
      → Renewal (get_or names (get_or t (1 + 3 * i) 0) 0) (get_or f (get_or t (1 + 3 * i + 1) 0) 0) (get_or f (get_or t (1 + 3 * i + 2) 0) 0) t t' index' r
      → Looping gone K t₁ n marks (i + 1) t' index' (set f (i + 2) r)
  looping_more {names} {t'} {index'} {r} ns z c = record {
    sound = l.sound;
    counted = l.counted;
    low = omega arith;
    many = omega (arith, length-set f (i + 2) r, l.many);
    fit = omega (arith, c.words.long, l.fit);
    passing = passing_more l.sound l.passing lt enough (1 + 3 * i) refl names ns r z c;
  }
