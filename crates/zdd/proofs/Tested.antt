-- THEOREM: the test `soundb` passes exactly at the sound tables. Assumes nothing.
use mathlib.Core.Path.{◌≡◌, refl, sym, ap, ◌∙◌, subst}
use mathlib.Core.Bool.{Bool, true, false, cond, not, ◌&&◌}
use mathlib.Core.List.{List, [], ◌∷◌}
use mathlib.Core.Logic.{◌⊎◌, inl, inr, ◌↔◌}
use Prim.Native.Nat.{ℕ, zero, suc, ◌+◌, ◌-◌, ◌*◌, ◌/◌, ◌≤◌, ◌<◌}
use native.Mathlib.Nat.{not-suc-le-zero, le_of_suc-le-suc, suc_inj}
use native.Mathlib.Omega.{arith}
use lib.Dec.{leb, ltb, eqb}
use lib.ListN.{length, get_or, drop, replicate}
use lib.Seq.{get_or-drop}
use borrow.Author.Tests.{eqb-true, eq-eqb, ltb-true, lt-ltb, leb-true, leb-false, le-leb, not-true}
use Rattle.base.proofs.Bools.{never, is_false, and_left, and_right, and_both, or_cases, or_left, or_right}
use Rattle.zdd.specs.Table.{Node, node, blank, count, capacity, triples, nodes_of, key, overb, fineb, all_fine, eq_node, has_node, onceb, zerosb, nodesb, soundb, Over, Fine, Nodes, Sound}

-- ---- a child

pub over-of : (K : List ℕ) (ns : List Node) (b c : ℕ) → overb K ns b c ≡ true → Over K ns b c
unfolding overb
over-of K ns b zero e = tt
over-of K ns b (suc zero) e = tt
over-of K ns b (suc (suc i)) e = leb-true b (key K (get_or ns i blank).label) e

pub over_test : (K : List ℕ) (ns : List Node) (b c : ℕ) → Over K ns b c → overb K ns b c ≡ true
unfolding overb
over_test K ns b zero o = refl
over_test K ns b (suc zero) o = refl
over_test K ns b (suc (suc i)) o = le-leb b (key K (get_or ns i blank).label) o

-- ---- a node

pub fine_of : (K : List ℕ) (ns : List Node) (i : ℕ) (x : Node) → fineb K ns i x ≡ true → Fine K ns i x
unfolding fineb
fine_of K ns i x e =
    let t5 = overb K ns (suc (key K x.label)) x.lo in
    let t6 = overb K ns (suc (key K x.label)) x.hi in
    let t4 = ltb 0 x.hi in
    let t3 = ltb x.hi (suc (suc i)) in
    let t2 = ltb x.lo (suc (suc i)) in
    let t1 = ltb x.label (length K) in
    let e2 = and_right t1 (t2 && (t3 && (t4 && (t5 && t6)))) e in
    let e3 = and_right t2 (t3 && (t4 && (t5 && t6))) e2 in
    let e4 = and_right t3 (t4 && (t5 && t6)) e3 in
    let e5 = and_right t4 (t5 && t6) e4 in
    record {
      label-known = ltb-true x.label (length K) (and_left t1 (t2 && (t3 && (t4 && (t5 && t6)))) e);
      lo-below = ltb-true x.lo (suc (suc i)) (and_left t2 (t3 && (t4 && (t5 && t6))) e2);
      hi-below = ltb-true x.hi (suc (suc i)) (and_left t3 (t4 && (t5 && t6)) e3);
      hi-some = ltb-true 0 x.hi (and_left t4 (t5 && t6) e4);
      lo_after = over-of K ns (suc (key K x.label)) x.lo (and_left t5 t6 e5);
      hi_after = over-of K ns (suc (key K x.label)) x.hi (and_right t5 t6 e5);
    }

pub fine_test : (K : List ℕ) (ns : List Node) (i : ℕ) (x : Node) → Fine K ns i x → fineb K ns i x ≡ true
unfolding fineb
fine_test K ns i x f =
    and_both _ _ (lt-ltb x.label (length K) f.label-known)
    (and_both _ _ (lt-ltb x.lo (suc (suc i)) f.lo-below)
    (and_both _ _ (lt-ltb x.hi (suc (suc i)) f.hi-below)
    (and_both _ _ (lt-ltb 0 x.hi f.hi-some)
    (and_both _ _ (over_test K ns (suc (key K x.label)) x.lo f.lo_after)
    (over_test K ns (suc (key K x.label)) x.hi f.hi_after)))))

-- ---- all nodes

all_of : (K : List ℕ) (ns : List Node) (i : ℕ) (xs : List Node) → all_fine K ns i xs ≡ true
    → (k : ℕ) → k < length xs → (m : ℕ) → m ≡ i + k → Fine K ns m (get_or xs k blank)
unfolding all_fine
all_of K ns i [] e k h m q = absurd (not-suc-le-zero h)
all_of K ns i (x ∷ xs) e zero h m q =
    let z : i ≡ m = omega arith in
    subst (λ (n : ℕ). Fine K ns n x) z (fine_of K ns i x (and_left (fineb K ns i x) (all_fine K ns (suc i) xs) e))
all_of K ns i (x ∷ xs) e (suc k) h m q =
    all_of K ns (suc i) xs (and_right (fineb K ns i x) (all_fine K ns (suc i) xs) e) k (le_of_suc-le-suc h) m (omega arith)

all_test : (K : List ℕ) (ns : List Node) (i : ℕ) (xs : List Node)
    → ((k : ℕ) → k < length xs → (m : ℕ) → m ≡ i + k → Fine K ns m (get_or xs k blank)) → all_fine K ns i xs ≡ true
unfolding all_fine
all_test K ns i [] f = refl
all_test K ns i (x ∷ xs) f =
    and_both (fineb K ns i x) (all_fine K ns (suc i) xs) (fine_test K ns i x (f 0 (omega arith) i (omega arith)))
    (all_test K ns (suc i) xs (λ k h m q. f (suc k) (omega arith) m (omega arith)))

-- ---- no triple twice

eq_node_eq : (x y : Node) → eq_node x y ≡ true → x ≡ y
unfolding eq_node
eq_node_eq x y e =
    let a = eqb x.label y.label in
    let b = eqb x.lo y.lo in
    let c = eqb x.hi y.hi in
    let p : x.label ≡ y.label = eqb-true x.label y.label (and_left a (b && c) e) in
    let q : x.lo ≡ y.lo = eqb-true x.lo y.lo (and_left b c (and_right a (b && c) e)) in
    let r : x.hi ≡ y.hi = eqb-true x.hi y.hi (and_right b c (and_right a (b && c) e)) in
    λ i. node (p i) (q i) (r i)

eq_node_test : (x y : Node) → x ≡ y → eq_node x y ≡ true
unfolding eq_node
eq_node_test x y e =
    and_both _ _ (eq-eqb x.label y.label (λ i. (e i).label)) (and_both _ _ (eq-eqb x.lo y.lo (λ i. (e i).lo)) (eq-eqb x.hi y.hi (λ i. (e i).hi)))

pub has_test : (x : Node) (xs : List Node) (k : ℕ) → k < length xs → get_or xs k blank ≡ x → has_node x xs ≡ true
unfolding has_node
has_test x [] k h e = absurd (not-suc-le-zero h)
has_test x (y ∷ ys) zero h e = or_left (eq_node x y) (has_node x ys) (eq_node_test x y (sym e))
has_test x (y ∷ ys) (suc k) h e = or_right (eq_node x y) (has_node x ys) (has_test x ys k (le_of_suc-le-suc h) e)

pub has_of : (x : Node) (xs : List Node) → has_node x xs ≡ true → (k : ℕ) × (k < length xs) × (get_or xs k blank ≡ x)
unfolding has_node
has_of x [] e = absurd (never e refl)
has_of x (y ∷ ys) e = go (or_cases (eq_node x y) (has_node x ys) e) (has_of x ys)
  where
    go : (eq_node x y ≡ true) ⊎ (has_node x ys ≡ true) → (has_node x ys ≡ true → (k : ℕ) × (k < length ys) × (get_or ys k blank ≡ x))
        → (k : ℕ) × (k < length (y ∷ ys)) × (get_or (y ∷ ys) k blank ≡ x)
    go (inl a) f = (0, omega arith, sym (eq_node_eq x y a))
    go (inr a) f = let r = f a in (suc r.0, omega (arith, r.1), r.2)

pub once-of : (xs : List Node) → onceb xs ≡ true → (i j : ℕ) → i < length xs → j < length xs → get_or xs i blank ≡ get_or xs j blank → i ≡ j
unfolding onceb
once-of [] e i j a b q = absurd (not-suc-le-zero a)
once-of (x ∷ xs) e zero zero a b q = refl
once-of (x ∷ xs) e zero (suc j) a b q =
    absurd (never (has_test x xs j (le_of_suc-le-suc b) (sym q)) (not-true (has_node x xs) (and_left (not (has_node x xs)) (onceb xs) e)))
once-of (x ∷ xs) e (suc i) zero a b q =
    absurd (never (has_test x xs i (le_of_suc-le-suc a) q) (not-true (has_node x xs) (and_left (not (has_node x xs)) (onceb xs) e)))
once-of (x ∷ xs) e (suc i) (suc j) a b q =
    ap suc (once-of xs (and_right (not (has_node x xs)) (onceb xs) e) i j (le_of_suc-le-suc a) (le_of_suc-le-suc b) q)

once_test : (xs : List Node) → ((i j : ℕ) → i < length xs → j < length xs → get_or xs i blank ≡ get_or xs j blank → i ≡ j) → onceb xs ≡ true
unfolding onceb
once_test [] f = refl
once_test (x ∷ xs) f =
    and_both (not (has_node x xs)) (onceb xs)
    (ap not (is_false (has_node x xs) (λ e.
    let r = has_of x xs e in
    let z : 0 ≡ suc r.0 = f 0 (suc r.0) (omega arith) (omega (arith, r.1)) (sym r.2) in
    omega arith)))
    (once_test xs (λ i j a b q. suc_inj (f (suc i) (suc j) (omega arith) (omega arith) q)))

pub nodes-of : (K : List ℕ) (ns : List Node) → nodesb K ns ≡ true → Nodes K ns
unfolding nodesb
nodes-of K ns e = record {
  each = λ i h. all_of K ns 0 ns (and_left (all_fine K ns 0 ns) (onceb ns) e) i h i (omega arith);
  once = once-of ns (and_right (all_fine K ns 0 ns) (onceb ns) e);
}

pub nodes_test : (K : List ℕ) (ns : List Node) → Nodes K ns → nodesb K ns ≡ true
unfolding nodesb
nodes_test K ns n =
    and_both (all_fine K ns 0 ns) (onceb ns)
    (all_test K ns 0 ns (λ k h m q. let z : k ≡ m = omega arith in subst (λ (i : ℕ). Fine K ns i (get_or ns k blank)) z (n.each k h)))
    (once_test ns n.once)

-- ---- the words behind the nodes

zeros_of : (xs : List ℕ) → zerosb xs ≡ true → (k : ℕ) → get_or xs k 0 ≡ 0
unfolding zerosb
zeros_of [] e k = refl
zeros_of (w ∷ ws) e zero = eqb-true w 0 (and_left (eqb w 0) (zerosb ws) e)
zeros_of (w ∷ ws) e (suc k) = zeros_of ws (and_right (eqb w 0) (zerosb ws) e) k

zeros_test : (xs : List ℕ) → ((k : ℕ) → get_or xs k 0 ≡ 0) → zerosb xs ≡ true
unfolding zerosb
zeros_test [] f = refl
zeros_test (w ∷ ws) f = and_both (eqb w 0) (zerosb ws) (eq-eqb w 0 (f 0)) (zeros_test ws (λ k. f (suc k)))

rest_of : (ws : List ℕ) (n : ℕ) → zerosb (drop (suc n) ws) ≡ true → (j : ℕ) → n < j → get_or ws j 0 ≡ 0
rest_of ws n e j h =
    let z : j ≡ suc n + (j - suc n) = omega arith in
    ap (λ (k : ℕ). get_or ws k 0) z ∙ sym (get_or-drop (suc n) ws (j - suc n) 0) ∙ zeros_of (drop (suc n) ws) e (j - suc n)

rest_test : (ws : List ℕ) (n : ℕ) → ((j : ℕ) → n < j → get_or ws j 0 ≡ 0) → zerosb (drop (suc n) ws) ≡ true
rest_test ws n f = zeros_test (drop (suc n) ws) (λ k. get_or-drop (suc n) ws k 0 ∙ f (suc n + k) (omega arith))

-- ---- the table

-- the capacity is the lesser of two numbers
pub capacity_most : (t : List ℕ) → (capacity t ≤ 65534) × (capacity t ≤ (length t - 1) / 3)
unfolding capacity
capacity_most t = go (leb ((length t - 1) / 3) 65534) refl
  where
    go : (b : Bool) → leb ((length t - 1) / 3) 65534 ≡ b → (cond b ((length t - 1) / 3) 65534 ≤ 65534) × (cond b ((length t - 1) / 3) 65534 ≤ (length t - 1) / 3)
    go true q = let z : (length t - 1) / 3 ≤ 65534 = leb-true ((length t - 1) / 3) 65534 q in (z, omega arith)
    go false q = let z : 65534 < (length t - 1) / 3 = leb-false ((length t - 1) / 3) 65534 q in (omega arith, omega arith)

pub capacity-least : (t : List ℕ) (n : ℕ) → n ≤ 65534 → n ≤ (length t - 1) / 3 → n ≤ capacity t
unfolding capacity
capacity-least t n a b = go (leb ((length t - 1) / 3) 65534)
  where
    go : (c : Bool) → n ≤ cond c ((length t - 1) / 3) 65534
    go true = b
    go false = a

-- within capacity: as many triples as the words behind word 0 have
pub fits-capacity : (ws : List ℕ) → 0 < length ws → count ws ≤ capacity ws → (3 * count ws < length ws) × (count ws ≤ 65534)
fits-capacity ws h e = let m = capacity_most ws in (omega (arith, m.1), omega (arith, m.0))

pub capacity-fits : (ws : List ℕ) → 3 * count ws < length ws → count ws ≤ 65534 → count ws ≤ capacity ws
capacity-fits ws h e = capacity-least ws (count ws) e (omega arith)

pub sound_of : (K ws : List ℕ) → soundb K ws ≡ true → Sound K ws
unfolding soundb
sound_of K ws e =
    let t1 = ltb 0 (length ws) in
    let t2 = leb (count ws) (capacity ws) in
    let t3 = nodesb K (nodes_of ws) in
    let t4 = zerosb (drop (suc (3 * count ws)) ws) in
    let e2 = and_right t1 (t2 && (t3 && t4)) e in
    let e3 = and_right t2 (t3 && t4) e2 in
    let f = fits-capacity ws (ltb-true 0 (length ws) (and_left t1 (t2 && (t3 && t4)) e)) (leb-true (count ws) (capacity ws) (and_left t2 (t3 && t4) e2)) in
    record {
      room = f.0;
      few = f.1;
      nodes = nodes-of K (nodes_of ws) (and_left t3 t4 e3);
      rest = rest_of ws (3 * count ws) (and_right t3 t4 e3);
    }

pub sound_test : (K ws : List ℕ) → Sound K ws → soundb K ws ≡ true
unfolding soundb
sound_test K ws s =
    and_both _ _ (lt-ltb 0 (length ws) (omega (arith, s.room)))
    (and_both _ _ (le-leb (count ws) (capacity ws) (capacity-fits ws s.room s.few))
    (and_both _ _ (nodes_test K (nodes_of ws) s.nodes) (rest_test ws (3 * count ws) s.rest)))

pub sound_iff : (K ws : List ℕ) → (soundb K ws ≡ true) ↔ Sound K ws
sound_iff K ws = (sound_of K ws, sound_test K ws)

-- an empty table, all zeros, is sound [document 01]
pub empty_sound : (K : List ℕ) (n : ℕ) → soundb K (replicate (suc n) 0) ≡ true
unfolding soundb nodes_of triples nodesb all_fine onceb zerosb capacity
empty_sound K n =
    let t : List ℕ = replicate (suc n) 0 in
    and_both _ _ (lt-ltb 0 (length t) (omega arith)) (and_both _ _ (le-leb 0 (capacity t) (omega arith)) (zeros n))
  where
    zeros : (k : ℕ) → zerosb (replicate k 0) ≡ true
    zeros zero = refl
    zeros (suc k) = zeros k
