-- The pass of `support`, from a number down to 2: what is marked is below it, and what is below a marked number that was met is marked. Assumes nothing.
use mathlib.Core.Path.{◌≡◌, refl, sym, ap, ◌∙◌, subst, subst⁻¹}
use mathlib.Core.Logic.{◌⊎◌, inl, inr, ⊎_elim}
use mathlib.Core.Bool.{Bool, true, false, not, ◌||◌}
use mathlib.Core.List.{List}
use Prim.Native.Nat.{ℕ, zero, suc, ◌+◌, ◌-◌, ◌*◌, ◌≤◌, ◌<◌}
use native.Mathlib.Nat.{le_refl}
use native.Mathlib.Omega.{arith}
use native.Mathlib.Decide.{ℕ_discrete}
use lib.ListN.{length, get_or, set, length-set, replicate}
use lib.Seq.{get_or-set_same, get_or-set_other}
use borrow.Author.Tests.{not-true}
use Rattle.base.proofs.Bools.{never, is_false, or_cases, or_left, or_right, same_test}
use Rattle.itemset.specs.Items.{holds, union, apartb}
use Rattle.itemset.proofs.Laws.{holds-none, holds-union, apart-holds, common_item}
use Rattle.zdd.specs.Table.{Node, blank, nodes_of, count, Fine, Nodes, Sound}
use Rattle.zdd.specs.Below.{Below, itself, by_lo, by_hi}
use Rattle.zdd.proofs.Words.{length-nodes, at-word, node_at_lem}
use Rattle.zdd.proofs.TableLaws.{fine_at}
use Rattle.zdd.proofs.Below.{below-known}
use Rattle.zdd.proofs.Support.{below_trans, own_label, labels_up}
use Rattle.exact_cover.specs.Problem.{Problem}
use Rattle.statement.specs.Refusals.{overlap}
use Rattle.statement.proofs.Overlaps.{overlap_means}
use Rattle.support.specs.Support.{Labelled, Carries, Supports}

-- after the numbers above k: the nodes' numbers among them that are marked have their packages' items in x, and their children are marked
pub record Marked (packages : List ℕ) (ns : List Node) (a k : ℕ) (marks : List Bool) (x : ℕ) : Type 0 where
  pub most : k ≤ a
  pub long : length marks ≡ 65536
  pub own : get_or marks a false ≡ true
  pub below : (j : ℕ) → get_or marks j false ≡ true → Below ns a j
  pub lows : (i : ℕ) → k < suc (suc i) → i < length ns → get_or marks (suc (suc i)) false ≡ true → get_or marks (get_or ns i blank).lo false ≡ true
  pub highs : (i : ℕ) → k < suc (suc i) → i < length ns → get_or marks (suc (suc i)) false ≡ true → get_or marks (get_or ns i blank).hi false ≡ true
  pub only : (j : ℕ) → holds j x ≡ true → Carries packages ns a j
  pub all : (i j : ℕ) → k < suc (suc i) → i < length ns → get_or marks (suc (suc i)) false ≡ true → holds j (get_or packages (get_or ns i blank).label 0) ≡ true → holds j x ≡ true

-- a mark is set, and the others stay
module _ (marks : List Bool) (j : ℕ) (h : j < length marks) where
  mark_here : get_or (set marks j true) j false ≡ true
  mark_here = get_or-set_same marks j true false h

  mark_stays : (i : ℕ) → get_or marks i false ≡ true → get_or (set marks j true) i false ≡ true
  mark_stays i m = go (ℕ_discrete i j)
    where
      go : Dec (i ≡ j) → get_or (set marks j true) i false ≡ true
      go (yes e) = subst⁻¹ (λ (n : ℕ). get_or (set marks j true) n false ≡ true) e mark_here
      go (no d) = get_or-set_other marks j i true false d ∙ m

  mark_was : (i : ℕ) → get_or (set marks j true) i false ≡ true → (i ≡ j) ⊎ (get_or marks i false ≡ true)
  mark_was i m = go (ℕ_discrete i j)
    where
      go : Dec (i ≡ j) → (i ≡ j) ⊎ (get_or marks i false ≡ true)
      go (yes e) = inl e
      go (no d) = inr (sym (get_or-set_other marks j i true false d) ∙ m)

pub unmarked : (n i : ℕ) → get_or (replicate n false) i false ≡ false
unmarked zero i = refl
unmarked (suc n) zero = refl
unmarked (suc n) (suc i) = unmarked n i

module _ {packages : List ℕ} {ns : List Node} where
  -- of new marks a is set
  pub started : (marks : List Bool) (a x : ℕ) → length marks ≡ 65536 → ((j : ℕ) → get_or marks j false ≡ false) → a < 65536 → x ≡ 0
      → Marked packages ns a a (set marks a true) x
  started marks a x l z h e =
      let k : a < length marks = omega arith in
      let late : (i : ℕ) → a < suc (suc i) → get_or (set marks a true) (suc (suc i)) false ≡ true → ⊥ =
      λ i b m. ⊎_elim (λ q. omega arith) (λ q. never q (z (suc (suc i)))) (mark_was marks a k (suc (suc i)) m) in
      record {
        most = le_refl a;
        long = length-set marks a true ∙ l;
        own = mark_here marks a k;
        below = λ j m. ⊎_elim (λ q. subst⁻¹ (Below ns a) q itself) (λ q. absurd (never q (z j))) (mark_was marks a k j m);
        lows = λ i b w m. absurd (late i b m);
        highs = λ i b w m. absurd (late i b m);
        only = λ j t. absurd (never (ap (holds j) (sym e) ∙ t) (holds-none j));
        all = λ i j b w m t. absurd (late i b m);
      }

module _ {packages : List ℕ} {ns : List Node} {a : ℕ} where
  -- a number that is not marked
  pub skipped : {k : ℕ} {marks : List Bool} {x : ℕ} → 1 < k → get_or marks k false ≡ false → Marked packages ns a k marks x → Marked packages ns a (k - 1) marks x
  skipped {k} {marks} {x} h z M = record {
    most = omega (arith, M.most);
    long = M.long;
    own = M.own;
    below = M.below;
    lows = λ i b w m. M.lows i (later i b m) w m;
    highs = λ i b w m. M.highs i (later i b m) w m;
    only = M.only;
    all = λ i j b w m t. M.all i j (later i b m) w m t;
  }
    where
      later : (i : ℕ) → k - 1 < suc (suc i) → get_or marks (suc (suc i)) false ≡ true → k < suc (suc i)
      later i b m = go (ℕ_discrete k (suc (suc i)))
        where
          go : Dec (k ≡ suc (suc i)) → k < suc (suc i)
          go (yes e) = absurd (never (ap (λ (n : ℕ). get_or marks n false) e ∙ m) z)
          go (no d) = omega arith

  -- one that is: its package's items are added, and its children marked
  module _ {K : List ℕ} (n : Nodes K ns) (few : length ns ≤ 65534) (i : ℕ) (w : i < length ns) {marks : List Bool} {x y : ℕ} (M : Marked packages ns a (suc (suc i)) marks x)
      (m : get_or marks (suc (suc i)) false ≡ true) (e : y ≡ union x (get_or packages (get_or ns i blank).label 0)) where
    abbrev lo : ℕ
    lo = (get_or ns i blank).lo

    abbrev hi : ℕ
    hi = (get_or ns i blank).hi

    abbrev marks' : List Bool
    marks' = set (set marks lo true) hi true

    lo_in : lo < length marks
    lo_in = omega (arith, (n.each i w).lo-below, M.long)

    hi_in : hi < length (set marks lo true)
    hi_in = omega (arith, (n.each i w).hi-below, M.long, length-set marks lo true)

    stays : (j : ℕ) → get_or marks j false ≡ true → get_or marks' j false ≡ true
    stays j p = mark_stays (set marks lo true) hi hi_in j (mark_stays marks lo lo_in j p)

    was : (j : ℕ) → get_or marks' j false ≡ true → (j ≡ hi) ⊎ ((j ≡ lo) ⊎ (get_or marks j false ≡ true))
    was j p = ⊎_elim inl (λ q. inr (mark_was marks lo lo_in j q)) (mark_was (set marks lo true) hi hi_in j p)

    -- what was met before was marked before
    early : (j : ℕ) → suc i < suc (suc j) → get_or marks' (suc (suc j)) false ≡ true → get_or marks (suc (suc j)) false ≡ true
    early j b p =
        ⊎_elim (λ q. absurd (omega (arith, (n.each i w).hi-below)))
        (⊎_elim (λ q. absurd (omega (arith, (n.each i w).lo-below))) (λ q. q))
        (was (suc (suc j)) p)

    under : Below ns a (suc (suc i))
    under = M.below (suc (suc i)) m

    added : (j : ℕ) → holds j y ≡ (holds j x || holds j (get_or packages (get_or ns i blank).label 0))
    added j = ap (holds j) e ∙ holds-union j x (get_or packages (get_or ns i blank).label 0)

    this : (j : ℕ) → suc i < suc (suc j) → (j ≡ i) ⊎ (suc (suc i) < suc (suc j))
    this j b = go (ℕ_discrete j i)
      where
        go : Dec (j ≡ i) → (j ≡ i) ⊎ (suc (suc i) < suc (suc j))
        go (yes q) = inl q
        go (no d) = inr (omega arith)

    pub met : Marked packages ns a (suc i) marks' y
    met = record {
      most = omega (arith, M.most);
      long = length-set (set marks lo true) hi true ∙ length-set marks lo true ∙ M.long;
      own = stays a M.own;
      below = λ j p. ⊎_elim (λ q. subst⁻¹ (Below ns a) q (below_trans under (by_hi i w itself)))
          (⊎_elim (λ q. subst⁻¹ (Below ns a) q (below_trans under (by_lo i w itself))) (M.below j)) (was j p);
      lows = λ j b v p. ⊎_elim (λ q. subst⁻¹ (λ (n : ℕ). get_or marks' (get_or ns n blank).lo false ≡ true) q (mark_stays (set marks lo true) hi hi_in lo (mark_here marks lo lo_in)))
          (λ q. stays (get_or ns j blank).lo (M.lows j q v (early j b p))) (this j b);
      highs = λ j b v p. ⊎_elim (λ q. subst⁻¹ (λ (n : ℕ). get_or marks' (get_or ns n blank).hi false ≡ true) q (mark_here (set marks lo true) hi hi_in))
          (λ q. stays (get_or ns j blank).hi (M.highs j q v (early j b p))) (this j b);
      only = λ j t. ⊎_elim (M.only j)
          (λ q. record {
            label = (get_or ns i blank).label;
            below = labels_up under (own_label ns i);
            held = q;
          }) (or_cases (holds j x) _ (sym (added j) ∙ t));
      all = λ j h b v p t. added h ∙ ⊎_elim
          (λ q. or_right (holds h x) _ (subst (λ (n : ℕ). holds h (get_or packages (get_or ns n blank).label 0) ≡ true) q t))
          (λ q. or_left (holds h x) _ (M.all j h q v (early j b p) t)) (this j b);
    }

-- ---- by the words of the table t

module _ {K t packages : List ℕ} {a k : ℕ} {marks : List Bool} {x : ℕ} (s : Sound K t) (h : a < count t + 2) (M : Marked packages (nodes_of t) a k marks x) (l : 1 < k) where
  word_fine : Fine K (nodes_of t) (k - 2) (at-word t (3 * k - 5))
  word_fine = fine_at s k (3 * k - 5) l (omega (arith, M.most)) (omega arith)

  pub label_in : get_or t (3 * k - 5) 0 < length K
  label_in = word_fine.label-known

  pub lo_small : get_or t (3 * k - 5 + 1) 0 < 65536
  lo_small = omega (arith, word_fine.lo-below, s.few)

  pub hi_small : get_or t (3 * k - 5 + 2) 0 < 65536
  hi_small = omega (arith, word_fine.hi-below, s.few)

  pub met_word : {y : ℕ} → get_or marks k false ≡ true → y ≡ union x (get_or packages (get_or t (3 * k - 5) 0) 0)
      → Marked packages (nodes_of t) a (k - 1) (set (set marks (get_or t (3 * k - 5 + 1) 0) true) (get_or t (3 * k - 5 + 2) 0) true) y
  met_word {y} m e =
      let w : ℕ = 3 * k - 5 in
      let i : ℕ = k - 2 in
      let z : k ≡ suc (suc i) = omega arith in
      let j : suc i ≡ k - 1 = omega arith in
      let u : get_or (nodes_of t) i blank ≡ at-word t w = node_at_lem t i w (omega (arith, M.most)) (omega arith) in
      subst (λ (b : ℕ). Marked packages (nodes_of t) a b (set (set marks (get_or t (w + 1) 0) true) (get_or t (w + 2) 0) true) y) j
      (subst (λ (v : Node). Marked packages (nodes_of t) a (suc i) (set (set marks v.lo true) v.hi true) y) u
      (met s.nodes (omega (arith, s.few, length-nodes t)) i (omega (arith, length-nodes t, M.most)) (subst (λ (b : ℕ). Marked packages (nodes_of t) a b marks x) z M)
      (subst (λ (b : ℕ). get_or marks b false ≡ true) z m) (e ∙ ap (λ (v : Node). union x (get_or packages v.label 0)) (sym u))))

module _ {packages : List ℕ} {ns : List Node} {a : ℕ} where
  -- all were met
  module _ {k x : ℕ} {marks : List Bool} (l : k ≤ 1) (M : Marked packages ns a k marks x) where
    marked-below : {b j : ℕ} → Below ns b j → get_or marks b false ≡ true → get_or marks j false ≡ true
    marked-below itself m = m
    marked-below (by_lo i w c) m = marked-below c (M.lows i (omega arith) w m)
    marked-below (by_hi i w c) m = marked-below c (M.highs i (omega arith) w m)

    pub finished : {K : List ℕ} → Nodes K ns → a < suc (suc (length ns)) → Supports packages ns a x
    finished n h = record { only = M.only; all = all }
      where
        all : (i : ℕ) → Carries packages ns a i → holds i x ≡ true
        all i c =
            let L = c.below in
            let j : ℕ = L.number - 2 in
            let e : L.number ≡ suc (suc j) = omega (arith, L.branch) in
            let m : get_or marks (suc (suc j)) false ≡ true = subst (λ (k : ℕ). get_or marks k false ≡ true) e (marked-below L.below M.own) in
            M.all j i (omega arith) (omega (arith, below-known n L.below h, L.branch)) m (subst⁻¹ (λ (p : ℕ). holds i (get_or packages p 0) ≡ true) L.label c.held)

-- THEOREM: two answers overlap exactly where their supports have an item in common
pub supports_overlap : {packages : List ℕ} (Q : Problem) {t : List ℕ} {x y : ℕ} (a b : ℕ) → Labelled packages t → Q.packages ≡ packages → (a < count t + 2) × (b < count t + 2)
    → Supports packages (nodes_of t) a x → Supports packages (nodes_of t) b y → not (apartb x y) ≡ overlap Q t a b
supports_overlap {packages} Q {t} {x} {y} a b s e h A B =
    let m = overlap_means Q t s.sound.nodes a b h.0 h.1 in
    same_test (not (apartb x y)) (overlap Q t a b)
    (λ d.
    let i = common_item x y (not-true (apartb x y) d) in
    let u = A.only i.0 i.1 in
    let v = B.only i.0 i.2 in
    m.1 (record {
      one = u.label;
      other = v.label;
      one_below = u.below;
      other_below = v.below;
      item = i.0;
      one_holds = subst⁻¹ (λ (ps : List ℕ). holds i.0 (get_or ps u.label 0) ≡ true) e u.held;
      other_holds = subst⁻¹ (λ (ps : List ℕ). holds i.0 (get_or ps v.label 0) ≡ true) e v.held;
    }))
    (λ d.
    let o = m.0 d in
    let u : holds o.item x ≡ true =
    A.all o.item (record { label = o.one; below = o.one_below; held = subst (λ (ps : List ℕ). holds o.item (get_or ps o.one 0) ≡ true) e o.one_holds }) in
    let v : holds o.item y ≡ true =
    B.all o.item (record { label = o.other; below = o.other_below; held = subst (λ (ps : List ℕ). holds o.item (get_or ps o.other 0) ≡ true) e o.other_holds }) in
    ap not (is_false (apartb x y) (λ z. apart-holds x y z o.item u v)))
