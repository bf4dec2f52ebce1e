-- The loops that mark the wanted numbers. Assumes nothing.
use mathlib.Core.Path.{◌≡◌, refl, sym, ap, ◌∙◌, subst}
use mathlib.Core.Bool.{true, false}
use mathlib.Core.List.{List}
use mathlib.Core.Logic.{◌⊎◌, inl, inr}
use Prim.Native.Nat.{ℕ, suc, ◌+◌, ◌*◌, ◌≤◌, ◌<◌}
use native.Mathlib.Nat.{not-suc-le-zero, eq-or-lt_of_le}
use native.Mathlib.Decide.{ℕ_discrete}
use native.Mathlib.Omega.{arith}
use lib.ListN.{length, get_or, set, length-set}
use lib.Seq.{get_or-set_same, get_or-set_other}
use Rattle.base.specs.Words.{Wiped}
use Rattle.base.proofs.Bools.{never, by_test, is_false}
use Rattle.zdd.specs.Table.{Node, blank, count, nodes_of, has, Fine, Nodes, Sound}
use Rattle.zdd.proofs.Words.{at-word, node_at_lem, length-nodes}
use Rattle.withdraw.specs.State.{Names, Live, Wanted, listed, lo-of, hi_of, MarkedFrom, ListedTo, Ready}

-- ---- the listed answers

pub list_start : (answers : List ℕ) {work work' : List ℕ} {m : ℕ} → Wiped work m work' → m ≤ length work → ListedTo answers m 0 work'
list_start answers {work} {work'} {m} w h = record {
  many = omega (arith, w.same);
  all = λ i l. absurd (not-suc-le-zero l);
  only = λ k l z. absurd (omega (arith, w.zero k l));
}

pub list-more : {answers : List ℕ} {m : ℕ} {marks : List ℕ} (j a : ℕ) → a ≡ get_or answers j 0 → a < m → ListedTo answers m j marks
    → ListedTo answers m (j + 1) (set marks a 1)
list-more {answers} {m} {marks} j a e h s = record {
  many = rw (length-set marks a 1) s.many;
  all = λ i l. all-at i l (ℕ_discrete (get_or answers i 0) a) (ℕ_discrete i j);
  only = λ k l z. only_at k l z (ℕ_discrete k a);
}
  where
    all-at : (i : ℕ) → i < j + 1 → Dec (get_or answers i 0 ≡ a) → Dec (i ≡ j) → 0 < get_or (set marks a 1) (get_or answers i 0) 0
    all-at i l (yes d) f = rw (d, get_or-set_same marks a 1 0 (omega (arith, s.many))) (omega arith)
    all-at i l (no d) (yes y) = absurd (d (ap (λ (k : ℕ). get_or answers k 0) y ∙ sym e))
    all-at i l (no d) (no y) = rw (get_or-set_other marks a (get_or answers i 0) 1 0 d) (s.all i (omega arith))

    only_at : (k : ℕ) → k < m → 0 < get_or (set marks a 1) k 0 → Dec (k ≡ a) → (i : ℕ) × ((i < j + 1) × (get_or answers i 0 ≡ k))
    only_at k l z (yes d) = (j, (omega arith, sym e ∙ sym d))
    only_at k l z (no d) =
        let r = s.only k l (rw (get_or-set_other marks a k 1 0 d) at z) in
        (r.0, (omega (arith, r.1.0), r.1.1))

-- ---- what the marked nodes want

-- marks that agree from 2 on
pub marked-same : {gone : List ℕ} {ns : List Node} {answers : List ℕ} {i : ℕ} {marks marks' : List ℕ} → ((k : ℕ) → 2 ≤ k → get_or marks' k 0 ≡ get_or marks k 0)
    → MarkedFrom gone ns answers i marks → MarkedFrom gone ns answers i marks'
marked-same {gone} {ns} {answers} {i} {marks} {marks'} e m = record {
  all = λ j h l. rw (e (get_or answers j 0) l) (m.all j h l);
  only = λ k l h z. m.only k l h (rw (e k l) at z);
  lo_too = λ j a b z l. rw (e (get_or ns j blank).lo l) (m.lo_too j a b (rw (e (suc (suc j)) (omega arith)) at z) l);
  hi_too = λ j a b z s l. rw (e (get_or ns j blank).hi l) (m.hi_too j a b (rw (e (suc (suc j)) (omega arith)) at z) s l);
}

pub mark_start : (gone : List ℕ) (ns : List Node) {answers : List ℕ} {m : ℕ} {marks : List ℕ} → m ≡ length ns + 2 → ListedTo answers m (length answers) marks
    → (i : ℕ) → i ≡ length ns → MarkedFrom gone ns answers i marks
mark_start gone ns {answers} {m} {marks} e s i q = record {
  all = λ j h l. s.all j h;
  only = λ k l h z. let r = s.only k (omega arith) z in listed r.0 r.1.0 r.1.1;
  lo_too = λ j a b. absurd (omega arith);
  hi_too = λ j a b. absurd (omega arith);
}

module _ {K gone : List ℕ} {ns : List Node} {answers : List ℕ} (n : Nodes K ns) {i : ℕ} {marks : List ℕ} (w : i < length ns) (long : length ns + 2 ≤ length marks)
    (m : MarkedFrom gone ns answers (suc i) marks) where
  -- one mark more, at a wanted number below the node at index i, or at its own
  mark_one : (c : ℕ) → c < suc (suc i) → Wanted gone ns answers c → MarkedFrom gone ns answers (suc i) (set marks c 1)
  mark_one c h v = record {
    all = λ j l. live (get_or answers j 0) (m.all j l);
    only = λ k l b z. only_at k l b z (ℕ_discrete k c);
    lo_too = λ j a b z. live (get_or ns j blank).lo (m.lo_too j a b (rw (high j a) at z));
    hi_too = λ j a b z s. live (get_or ns j blank).hi (m.hi_too j a b (rw (high j a) at z) s);
  }
    where
      live : (k : ℕ) → Live marks k → Live (set marks c 1) k
      live k f l = go (ℕ_discrete k c)
        where
          go : Dec (k ≡ c) → 0 < get_or (set marks c 1) k 0
          go (yes e) = rw (e, get_or-set_same marks c 1 0 (omega arith)) (omega arith)
          go (no e) = rw (get_or-set_other marks c k 1 0 e) (f l)

      high : (j : ℕ) → suc i ≤ j → get_or (set marks c 1) (suc (suc j)) 0 ≡ get_or marks (suc (suc j)) 0
      high j a = get_or-set_other marks c (suc (suc j)) 1 0 (λ e. omega arith)

      only_at : (k : ℕ) → 2 ≤ k → k < length ns + 2 → 0 < get_or (set marks c 1) k 0 → Dec (k ≡ c) → Wanted gone ns answers k
      only_at k l b z (yes e) = subst (Wanted gone ns answers) (sym e) v
      only_at k l b z (no e) = m.only k l b (rw (get_or-set_other marks c k 1 0 e) at z)

  -- the node at index i forks
  mark-down : (0 < get_or marks (suc (suc i)) 0 → Live marks (get_or ns i blank).lo)
      → (0 < get_or marks (suc (suc i)) 0 → has (get_or ns i blank).label gone ≡ false → Live marks (get_or ns i blank).hi) → MarkedFrom gone ns answers i marks
  mark-down lo hi = record {
    all = m.all;
    only = m.only;
    lo_too = λ j a b z. lo_at j b z (eq-or-lt_of_le a);
    hi_too = λ j a b z s. hi_at j b z s (eq-or-lt_of_le a);
  }
    where
      lo_at : (j : ℕ) → j < length ns → 0 < get_or marks (suc (suc j)) 0 → (i ≡ j) ⊎ (i < j) → Live marks (get_or ns j blank).lo
      lo_at j b z (inl e) = subst (λ (k : ℕ). Live marks (get_or ns k blank).lo) e (lo (subst (λ (k : ℕ). 0 < get_or marks (suc (suc k)) 0) (sym e) z))
      lo_at j b z (inr a) = m.lo_too j a b z

      hi_at : (j : ℕ) → j < length ns → 0 < get_or marks (suc (suc j)) 0 → has (get_or ns j blank).label gone ≡ false → (i ≡ j) ⊎ (i < j) → Live marks (get_or ns j blank).hi
      hi_at j b z s (inl e) =
          subst (λ (k : ℕ). Live marks (get_or ns k blank).hi) e
          (hi (subst (λ (k : ℕ). 0 < get_or marks (suc (suc k)) 0) (sym e) z) (subst (λ (k : ℕ). has (get_or ns k blank).label gone ≡ false) (sym e) s))
      hi_at j b z s (inr a) = m.hi_too j a b z s

  -- it is not marked
  pub mark_skip : get_or marks (suc (suc i)) 0 ≡ 0 → MarkedFrom gone ns answers i marks
  mark_skip e = mark-down (λ z. absurd (omega arith)) (λ z. absurd (omega arith))

  own : 0 < get_or marks (suc (suc i)) 0 → Wanted gone ns answers (suc (suc i))
  own z = m.only (suc (suc i)) (omega arith) (omega arith) z

marked_live : (marks : List ℕ) (c : ℕ) → c < length marks → Live (set marks c 1) c
marked_live marks c h l = rw (get_or-set_same marks c 1 0 h) (omega arith)

set_live : (marks : List ℕ) (c k : ℕ) → c < length marks → Live marks k → Live (set marks c 1) k
set_live marks c k h f l = go (ℕ_discrete k c)
  where
    go : Dec (k ≡ c) → 0 < get_or (set marks c 1) k 0
    go (yes e) = rw (e, get_or-set_same marks c 1 0 h) (omega arith)
    go (no e) = rw (get_or-set_other marks c k 1 0 e) (f l)

module _ {K gone : List ℕ} {ns : List Node} {answers : List ℕ} (n : Nodes K ns) {i : ℕ} {marks : List ℕ} (w : i < length ns) (long : length ns + 2 ≤ length marks)
    (m : MarkedFrom gone ns answers (suc i) marks) (z : 0 < get_or marks (suc (suc i)) 0) where
  lo-wanted : Wanted gone ns answers (get_or ns i blank).lo
  lo-wanted = lo-of i w (own n w long m z) refl

  after_lo : MarkedFrom gone ns answers (suc i) (set marks (get_or ns i blank).lo 1)
  after_lo = mark_one n w long m (get_or ns i blank).lo (n.each i w).lo-below lo-wanted

  -- its label is withdrawn: lo is marked
  pub mark-lo : has (get_or ns i blank).label gone ≡ true → MarkedFrom gone ns answers i (set marks (get_or ns i blank).lo 1)
  mark-lo e =
      mark-down n w (omega (arith, length-set marks (get_or ns i blank).lo 1)) after_lo
      (λ _. marked_live marks (get_or ns i blank).lo (omega (arith, (n.each i w).lo-below)))
      (λ _ f. absurd (never e f))

  -- it remains: hi is marked too
  pub mark-both : has (get_or ns i blank).label gone ≡ false → MarkedFrom gone ns answers i (set (set marks (get_or ns i blank).lo 1) (get_or ns i blank).hi 1)
  mark-both e =
      let g : Fine K ns i (get_or ns i blank) = n.each i w in
      let l1 : length (set marks (get_or ns i blank).lo 1) ≡ length marks = length-set marks (get_or ns i blank).lo 1 in
      let l2 : length (set (set marks (get_or ns i blank).lo 1) (get_or ns i blank).hi 1) ≡ length marks = length-set (set marks (get_or ns i blank).lo 1) (get_or ns i blank).hi 1 ∙ l1 in
      mark-down n w (omega arith)
      (mark_one n w (omega arith) after_lo (get_or ns i blank).hi g.hi-below (hi_of i w (own n w long m z) e refl))
      (λ _. set_live (set marks (get_or ns i blank).lo 1) (get_or ns i blank).hi (get_or ns i blank).lo (omega (arith, g.hi-below))
      (marked_live marks (get_or ns i blank).lo (omega (arith, g.lo-below))))
      (λ _ _. marked_live (set marks (get_or ns i blank).lo 1) (get_or ns i blank).hi (omega (arith, g.hi-below)))

-- ---- the loop over the words of a sound table

-- the working words at index i
pub record Marking (gone t answers work₀ : List ℕ) (i : ℕ) (work : List ℕ) : Type 0 where
  pub same : length work ≡ length work₀
  pub many : count t + 2 ≤ length work
  pub low : i ≤ count t
  pub marks : MarkedFrom gone (nodes_of t) answers i work

pub marking_start : (gone : List ℕ) {t answers work : List ℕ} → ListedTo answers (count t + 2) (length answers) work → Marking gone t answers work (count t) work
marking_start gone {t} {answers} {work} s = record {
  same = refl;
  many = omega (arith, s.many);
  low = omega arith;
  marks = mark_start gone (nodes_of t) (omega (arith, length-nodes t)) s (count t) (omega (arith, length-nodes t));
}

-- the turn for the node at index j
module _ {K gone t answers work₀ work : List ℕ} {i : ℕ} (s : Sound K t) (m : Marking gone t answers work₀ i work) (j : ℕ) (e : i ≡ suc j) where
  down : MarkedFrom gone (nodes_of t) answers (suc j) work
  down = subst (λ (n : ℕ). MarkedFrom gone (nodes_of t) answers n work) e m.marks

  w : j < length (nodes_of t)
  w = omega (arith, m.low, length-nodes t)

  far : length (nodes_of t) + 2 ≤ length work
  far = omega (arith, m.many, length-nodes t)

  place : suc (suc j) ≡ j + 2
  place = omega arith

  -- it is not marked
  pub marking_skip : get_or work (j + 2) 0 ≡ 0 → Marking gone t answers work₀ j work
  marking_skip z = record {
    same = m.same;
    many = m.many;
    low = omega (arith, m.low);
    marks = mark_skip s.nodes w far down (ap (λ (n : ℕ). get_or work n 0) place ∙ z);
  }

  -- it is, and the code reads its label and lo
  module _ (z : get_or work (j + 2) 0 ≡ 0 → ⊥) {names : List ℕ} (ns : Names gone (length K) names) where
    abbrev label : ℕ
    label = get_or t (1 + 3 * j) 0

    abbrev lo : ℕ
    lo = get_or t (1 + 3 * j + 1) 0

    abbrev hi : ℕ
    hi = get_or t (1 + 3 * j + 2) 0

    here : get_or (nodes_of t) j blank ≡ at-word t (1 + 3 * j)
    here = node_at_lem t j (1 + 3 * j) (omega (arith, m.low)) refl

    pos : 0 < get_or work (suc (suc j)) 0
    pos = omega (arith, z, ap (λ (n : ℕ). get_or work n 0) place)

    same-lo : (get_or (nodes_of t) j blank).lo ≡ lo
    same-lo = ap (λ (x : Node). x.lo) here

    same-label : (get_or (nodes_of t) j blank).label ≡ label
    same-label = ap (λ (x : Node). x.label) here

    known : (get_or (nodes_of t) j blank).label < length K
    known = (s.nodes.each j w).label-known

    -- what the code reads is in range
    pub label_in : label < length names
    label_in = omega (arith, ns.many, known, same-label)

    pub lo_in : lo < length work
    lo_in = omega (arith, (s.nodes.each j w).lo-below, same-lo, far)

    pub marking_lo : get_or names label 0 ≡ 0 → Marking gone t answers work₀ j (set work lo 1)
    marking_lo y = record {
      same = length-set work lo 1 ∙ m.same;
      many = omega (arith, m.many, length-set work lo 1);
      low = omega (arith, m.low);
      marks = subst (λ (c : ℕ). MarkedFrom gone (nodes_of t) answers j (set work c 1)) same-lo (mark-lo s.nodes w far down pos gone_here);
    }
      where
        gone_here : has (get_or (nodes_of t) j blank).label gone ≡ true
        gone_here =
            by_test (has (get_or (nodes_of t) j blank).label gone) (λ q. q)
            (λ q. absurd (omega (arith, ns.stays_rank (get_or (nodes_of t) j blank).label known q, ap (λ (n : ℕ). get_or names n 0) same-label)))

    same-hi : (get_or (nodes_of t) j blank).hi ≡ hi
    same-hi = ap (λ (x : Node). x.hi) here

    pub hi_in : hi < length work
    hi_in = omega (arith, (s.nodes.each j w).hi-below, same-hi, far)

    pub marking_both : (get_or names label 0 ≡ 0 → ⊥) → Marking gone t answers work₀ j (set (set work lo 1) hi 1)
    marking_both y = record {
      same = length-set (set work lo 1) hi 1 ∙ length-set work lo 1 ∙ m.same;
      many = omega (arith, m.many, length-set work lo 1, length-set (set work lo 1) hi 1);
      low = omega (arith, m.low);
      marks = subst (λ (c : ℕ). MarkedFrom gone (nodes_of t) answers j (set (set work lo 1) c 1)) same-hi
          (subst (λ (c : ℕ). MarkedFrom gone (nodes_of t) answers j (set (set work c 1) (get_or (nodes_of t) j blank).hi 1)) same-lo
          (mark-both s.nodes w far down pos stays_here));
    }
      where
        stays_here : has (get_or (nodes_of t) j blank).label gone ≡ false
        stays_here =
            is_false (has (get_or (nodes_of t) j blank).label gone)
            (λ q. y (ap (λ (n : ℕ). get_or names n 0) (sym same-label) ∙ ns.gone_zero (get_or (nodes_of t) j blank).label known q))

-- the new numbers of 0 and 1
pub mark-ends : {gone t answers work₀ marks : List ℕ} {i : ℕ} (work : List ℕ) → length work₀ ≡ length work → Marking gone t answers work₀ i marks
    → i ≡ 0 → Ready gone (nodes_of t) answers work (set (set marks 0 0) 1 1)
mark-ends {gone} {t} {answers} {work₀} {marks} {i} work l m z = record {
  same = length-set (set marks 0 0) 1 1 ∙ length-set marks 0 0 ∙ m.same ∙ l;
  marked = marked-same (λ k a. get_or-set_other (set marks 0 0) 1 k 1 0 (λ e. omega arith) ∙ get_or-set_other marks 0 k 0 0 (λ e. omega arith))
      (subst (λ (n : ℕ). MarkedFrom gone (nodes_of t) answers n marks) z m.marks);
  zero = get_or-set_other (set marks 0 0) 1 0 1 0 (λ e. omega arith) ∙ get_or-set_same marks 0 0 0 (omega (arith, m.many));
  one = get_or-set_same (set marks 0 0) 1 1 0 (omega (arith, length-set marks 0 0, m.many));
}
