-- THEOREM: every family of a sound table is a part of all sets, in their order; so families with the same sets are equal. Assumes nothing.
use mathlib.Core.Path.{◌≡◌, refl, sym, ap, ap₂, ◌∙◌, subst}
use mathlib.Core.Bool.{Bool, true, false, cond, ◌&&◌, ◌||◌, and-false}
use mathlib.Core.List.Sublistᴰ
use mathlib.Core.List.{List, [], ◌∷◌, ◌++◌, map, Sublistᴰ}
use mathlib.Core.Logic.{◌⊎◌, inl, inr}
use Prim.Native.Nat.{ℕ, suc, ◌<◌}
use native.Mathlib.Omega.{arith}
use lib.Dec.{eqb}
use lib.ListN.{length, get_or}
use borrow.Author.Tests.{eqb-true, eq-eqb}
use Rattle.base.proofs.Bools.{never, is_false, or_cases, or_left, or_right, and_left, eqb_same}
use Rattle.zdd.specs.Table.{Node, blank, Family, fork, family, key, Nodes, Keys, elem, eq_set, filter, all_sets, sets, order, has}
use Rattle.zdd.proofs.Grow.{family_ind, downward}
use Rattle.zdd.proofs.Member.{Avoids, avoids_at, from_avoids, family_from, eq_set-same, eq_set_eq, elem-head, elem-append, fork-cases, elem-nil-map, elem-cons-map}
use Rattle.zdd.specs.Work.{From}
use Rattle.zdd.proofs.Sorting.{Sorted, order_sorted, order-all}

-- ---- filters

-- tests that agree on the sets of F keep the same of them
pub filter_same : (P Q : List ℕ → Bool) (F : Family) → ((t : List ℕ) → elem t F ≡ true → P t ≡ Q t) → filter P F ≡ filter Q F
unfolding filter elem
filter_same P Q [] h = refl
filter_same P Q (t ∷ F) h =
    ap₂ (λ (b : Bool) (r : Family). cond b (t ∷ r) r)
    (h t (or_left (eq_set t t) (elem t F) (eq_set-same t)))
    (filter_same P Q F (λ u e. h u (or_right (eq_set u t) (elem u F) e)))

pub filter_none : {A : Type 0} (l : List A) → filter (λ (a : A). false) l ≡ []
unfolding filter
filter_none [] = refl
filter_none (a ∷ l) = filter_none l

pub filter-part : (P : List ℕ → Bool) (F : Family) → Sublistᴰ (filter P F) F
unfolding filter
filter-part P [] = Sublistᴰ.slnil
filter-part P (t ∷ F) = go (P t) (filter-part P F)
  where
    go : (b : Bool) → Sublistᴰ (filter P F) F → Sublistᴰ (cond b (t ∷ filter P F) (filter P F)) (t ∷ F)
    go true s = Sublistᴰ.cons-cons refl s
    go false s = Sublistᴰ.cons s

pub elem-filter : (P : List ℕ → Bool) (t : List ℕ) (F : Family) → elem t (filter P F) ≡ (P t && elem t F)
unfolding filter elem
elem-filter P t [] = sym (and-false (P t))
elem-filter P t (u ∷ F) = go (P u) (P t) (eq_set t u) refl (λ e. ap P (sym (eq_set_eq t u e))) (elem-filter P t F)
  where
    mix : (c d x : Bool) → (d ≡ true → true ≡ c) → (d || (c && x)) ≡ (c && (d || x))
    mix true true x h = refl
    mix true false x h = refl
    mix false true x h = h refl
    mix false false x h = refl

    mix' : (c d x : Bool) → (d ≡ true → false ≡ c) → (c && x) ≡ (c && (d || x))
    mix' true true x h = absurd (never refl (sym (h refl)))
    mix' true false x h = refl
    mix' false d x h = refl

    go : (b c d : Bool) → eq_set t u ≡ d → (d ≡ true → b ≡ c) → elem t (filter P F) ≡ (c && elem t F)
        → elem t (cond b (u ∷ filter P F) (filter P F)) ≡ (c && (d || elem t F))
    go true c d q s e = ap₂ ◌||◌ q e ∙ mix c d (elem t F) s
    go false c d q s e = e ∙ mix' c d (elem t F) s

-- ---- parts

-- what is in a part is in the whole
pub part_elem : {F S : Family} (t : List ℕ) → Sublistᴰ F S → elem t F ≡ true → elem t S ≡ true
unfolding elem
part_elem t Sublistᴰ.slnil e = e
part_elem t (Sublistᴰ.cons {a = a} {l₂ = l₂} s) e = or_right (eq_set t a) (elem t l₂) (part_elem t s e)
part_elem t (Sublistᴰ.cons-cons {a = a} {b = b} {l₁ = l₁} {l₂ = l₂} q s) e = go (or_cases (eq_set t a) (elem t l₁) e) (part_elem t s)
  where
    go : (eq_set t a ≡ true) ⊎ (elem t l₁ ≡ true) → (elem t l₁ ≡ true → elem t l₂ ≡ true) → (eq_set t b || elem t l₂) ≡ true
    go (inl x) f = or_left (eq_set t b) (elem t l₂) (subst (λ (u : List ℕ). eq_set t u ≡ true) q x)
    go (inr x) f = or_right (eq_set t b) (elem t l₂) (f x)

part-map : (p : ℕ) {F S : Family} → Sublistᴰ F S → Sublistᴰ (map (λ (t : List ℕ). p ∷ t) F) (map (λ (t : List ℕ). p ∷ t) S)
part-map p Sublistᴰ.slnil = Sublistᴰ.slnil
part-map p (Sublistᴰ.cons s) = Sublistᴰ.cons (part-map p s)
part-map p (Sublistᴰ.cons-cons q s) = Sublistᴰ.cons-cons (ap (λ (t : List ℕ). p ∷ t) q) (part-map p s)

part_right : (A B : Family) → Sublistᴰ B (A ++ B)
part_right [] B = Sublistᴰ.refl B
part_right (a ∷ A) B = Sublistᴰ.cons (part_right A B)

-- a part of a fork that avoids the fork's label is a part of its second family
part_avoids : (p : ℕ) (A B F : Family) → Avoids p F → Sublistᴰ F (fork p A B) → Sublistᴰ F B
part_avoids p [] B F v s = s
part_avoids p (a ∷ A) B F v s = go (part_avoids p A B F v) (Sublistᴰ.cases_cons s)
  where
    go : (Sublistᴰ F (fork p A B) → Sublistᴰ F B)
        → Sublistᴰ F (fork p A B) ⊎ ((r : Family) × (F ≡ (p ∷ a) ∷ r) × Sublistᴰ r (fork p A B)) → Sublistᴰ F B
    go f (inl s) = f s
    go f (inr t) = absurd (never (ap (λ (H : Family). elem (p ∷ a) H) t.1 ∙ elem-head (p ∷ a) t.0) (avoids_at p F v a))

-- ---- all sets, each once

abbrev pub Once : Family → Type 0
Once [] = Unit {0}
Once (t ∷ F) = (elem t F ≡ false) × Once F

-- a part in order is what a test for its sets keeps
pub part-filter : {F S : Family} → Sublistᴰ F S → Once S → F ≡ filter (λ t. elem t F) S
unfolding filter elem
part-filter Sublistᴰ.slnil o = refl
part-filter (Sublistᴰ.cons {a = a} {l₁ = F} {l₂ = S} s) o =
    part-filter s o.1
    ∙ ap (λ (b : Bool). cond b (a ∷ filter (λ t. elem t F) S) (filter (λ t. elem t F) S))
    (sym (is_false (elem a F) (λ e. never (part_elem a s e) o.0)))
part-filter (Sublistᴰ.cons-cons {a = a} {b = b} {l₁ = F} {l₂ = S} q s) o =
    ap₂ (λ (x : List ℕ) (xs : Family). x ∷ xs) q (part-filter s o.1 ∙ filter_same (λ t. elem t F) (λ t. elem t (a ∷ F)) S fresh)
    ∙ ap (λ (c : Bool). cond c (b ∷ filter (λ t. elem t (a ∷ F)) S) (filter (λ t. elem t (a ∷ F)) S))
    (sym (subst (λ (x : List ℕ). elem x (a ∷ F) ≡ true) q (elem-head a F)))
  where
    fresh : (t : List ℕ) → elem t S ≡ true → elem t F ≡ elem t (a ∷ F)
    fresh t e =
        ap (λ (c : Bool). c || elem t F)
        (sym (is_false (eq_set t a) (λ g. never (subst (λ (x : List ℕ). elem x S ≡ true) (eq_set_eq t a g ∙ q) e) o.0)))

once-map : (p : ℕ) (F : Family) → Once F → Once (map (λ (t : List ℕ). p ∷ t) F)
once-map p [] o = tt
once-map p (t ∷ F) o = (elem-cons-map p p t F ∙ ap₂ ◌&&◌ (eqb_same p) o.0, once-map p F o.1)

once-append : (F G : Family) → Once F → Once G → ((t : List ℕ) → elem t F ≡ true → elem t G ≡ false) → Once (F ++ G)
unfolding elem
once-append [] G o q d = q
once-append (f ∷ F) G o q d = (
  elem-append f F G ∙ ap₂ ◌||◌ o.0 (d f (elem-head f F)),
  once-append F G o.1 q (λ t e. d t (or_right (eq_set t f) (elem t F) e)),
)

pub has_first : (p : ℕ) (t : List ℕ) → has p (p ∷ t) ≡ true
unfolding has
has_first p t = or_left (eqb p p) (has p t) (eqb_same p)

-- a set of `all_sets ps` has labels of ps only
pub all_labels : (ps t : List ℕ) (r : ℕ) → elem t (all_sets ps) ≡ true → has r t ≡ true → has r ps ≡ true
unfolding all_sets has elem
all_labels [] [] r e h = absurd (never h refl)
all_labels [] (q ∷ u) r e h = absurd (never e refl)
all_labels (p ∷ ps) [] r e h = absurd (never h refl)
all_labels (p ∷ ps) (q ∷ u) r e h = go (fork-cases p q u (all_sets ps) (all_sets ps) e) (all_labels ps u r) (all_labels ps (q ∷ u) r)
  where
    go : ((q ≡ p) × (elem u (all_sets ps) ≡ true)) ⊎ (elem (q ∷ u) (all_sets ps) ≡ true)
        → (elem u (all_sets ps) ≡ true → has r u ≡ true → has r ps ≡ true)
        → (elem (q ∷ u) (all_sets ps) ≡ true → has r (q ∷ u) ≡ true → has r ps ≡ true) → (eqb r p || has r ps) ≡ true
    go (inl a) f g = at (or_cases (eqb r q) (has r u) h)
      where
        at : (eqb r q ≡ true) ⊎ (has r u ≡ true) → (eqb r p || has r ps) ≡ true
        at (inl x) = or_left (eqb r p) (has r ps) (eq-eqb r p (eqb-true r q x ∙ a.0))
        at (inr x) = or_right (eqb r p) (has r ps) (f a.1 x)
    go (inr a) f g = or_right (eqb r p) (has r ps) (g a h)

all_once : (K ps : List ℕ) → Sorted K ps → Once (all_sets ps)
unfolding all_sets elem
all_once K [] s = (refl, tt)
all_once K (p ∷ ps) s =
    once-append (map (λ (t : List ℕ). p ∷ t) (all_sets ps)) (all_sets ps) (once-map p (all_sets ps) (all_once K ps s.1)) (all_once K ps s.1) apart
  where
    apart : (t : List ℕ) → elem t (map (λ (t : List ℕ). p ∷ t) (all_sets ps)) ≡ true → elem t (all_sets ps) ≡ false
    apart [] e = absurd (never e (elem-nil-map p (all_sets ps)))
    apart (q ∷ t) e =
        is_false (elem (q ∷ t) (all_sets ps)) (λ g.
        let same : q ≡ p = eqb-true q p (and_left (eqb q p) (elem t (all_sets ps)) (sym (elem-cons-map p q t (all_sets ps)) ∙ e)) in
        let less : key K p < key K q = s.0 q (all_labels ps (q ∷ t) q g (has_first q t)) in
        let eq : key K q ≡ key K p = ap (key K) same in
        omega arith)

-- the empty set is listed
all_one : (ps : List ℕ) → Sublistᴰ ([] ∷ []) (all_sets ps)
unfolding all_sets
all_one [] = Sublistᴰ.refl ([] ∷ [])
all_one (p ∷ ps) = Sublistᴰ.trans (all_one ps) (part_right (map (λ (t : List ℕ). p ∷ t) (all_sets ps)) (all_sets ps))

-- a fork of listed families whose sets begin after its label is listed
all-fork : (K ps : List ℕ) → Sorted K ps → (p : ℕ) → has p ps ≡ true → (F1 F0 : Family)
    → From K (suc (key K p)) F1 → From K (suc (key K p)) F0 → Sublistᴰ F1 (all_sets ps) → Sublistᴰ F0 (all_sets ps) → Sublistᴰ (fork p F1 F0) (all_sets ps)
unfolding all_sets has
all-fork K [] s p h F1 F0 f1 f0 s1 s0 = absurd (never h refl)
all-fork K (q ∷ qs) s p h F1 F0 f1 f0 s1 s0 = go (or_cases (eqb p q) (has p qs) h) (λ m. all-fork K qs s.1 p m F1 F0 f1 f0)
  where
    low : key K q < suc (key K p) → (F : Family) → From K (suc (key K p)) F → Sublistᴰ F (fork q (all_sets qs) (all_sets qs)) → Sublistᴰ F (all_sets qs)
    low b F f r = part_avoids q (all_sets qs) (all_sets qs) F (from_avoids K (suc (key K p)) q F f b) r

    go : (eqb p q ≡ true) ⊎ (has p qs ≡ true)
        → (has p qs ≡ true → Sublistᴰ F1 (all_sets qs) → Sublistᴰ F0 (all_sets qs) → Sublistᴰ (fork p F1 F0) (all_sets qs))
        → Sublistᴰ (fork p F1 F0) (fork q (all_sets qs) (all_sets qs))
    go (inl a) ih =
        let same : p ≡ q = eqb-true p q a in
        let eq : key K p ≡ key K q = ap (key K) same in
        let b : key K q < suc (key K p) = omega arith in
        subst (λ (x : ℕ). Sublistᴰ (fork p F1 F0) (fork x (all_sets qs) (all_sets qs))) same
        (Sublistᴰ.append (part-map p (low b F1 f1 s1)) (low b F0 f0 s0))
    go (inr m) ih =
        let less : key K q < key K p = s.0 p m in
        let b : key K q < suc (key K p) = omega arith in
        Sublistᴰ.trans (ih m (low b F1 f1 s1) (low b F0 f0 s0)) (part_right (map (λ (t : List ℕ). q ∷ t) (all_sets qs)) (all_sets qs))

-- ---- the listing of a table's families

-- F is a part of all sets, in their order
pub Listed : List ℕ → Family → Type 0
Listed K F = Sublistᴰ F (sets K)

pub listed-part : (K : List ℕ) (F : Family) → Listed K F → Sublistᴰ F (sets K)
unfolding Listed
listed-part K F s = s

pub sets-once : (K : List ℕ) → Keys K → Once (sets K)
unfolding sets
sets-once K k = all_once K (order K) (order_sorted K k)

pub listed_nil : (K : List ℕ) → Listed K []
unfolding Listed
listed_nil K = Sublistᴰ.nil-sublist (sets K)

pub listed_one : (K : List ℕ) → Listed K ([] ∷ [])
unfolding Listed sets
listed_one K = all_one (order K)

pub listed-fork : (K : List ℕ) → Keys K → (p : ℕ) → p < length K → (F1 F0 : Family)
    → From K (suc (key K p)) F1 → From K (suc (key K p)) F0 → Listed K F1 → Listed K F0 → Listed K (fork p F1 F0)
unfolding Listed sets
listed-fork K k p h F1 F0 f1 f0 s1 s0 = all-fork K (order K) (order_sorted K k) p (order-all K p h) F1 F0 f1 f0 s1 s0

pub listed-filter : (K : List ℕ) (P : List ℕ → Bool) → Listed K (filter P (sets K))
unfolding Listed
listed-filter K P = filter-part P (sets K)

pub listed-elem : (K : List ℕ) (F : Family) → Listed K F → (t : List ℕ) → elem t F ≡ true → elem t (sets K) ≡ true
unfolding Listed
listed-elem K F s t e = part_elem t s e

-- a listed family is what a test for its sets keeps of all sets
pub listed_filtered : (K : List ℕ) → Keys K → (F : Family) → Listed K F → F ≡ filter (λ t. elem t F) (sets K)
unfolding Listed
listed_filtered K k F s = part-filter s (sets-once K k)

once-part : {F S : Family} → Sublistᴰ F S → Once S → Once F
once-part Sublistᴰ.slnil o = o
once-part (Sublistᴰ.cons s) o = once-part s o.1
once-part (Sublistᴰ.cons-cons {a = a} {b = b} {l₁ = F} {l₂ = S} q s) o =
    (is_false (elem a F) (λ e. never (subst (λ (u : List ℕ). elem u S ≡ true) q (part_elem a s e)) o.0), once-part s o.1)

-- a listed family has each set once
pub listed-once : (K : List ℕ) → Keys K → (F : Family) → Listed K F → Once F
unfolding Listed
listed-once K k F s = once-part s (sets-once K k)

-- THEOREM: every family of a sound table is listed
pub family-listed : {K : List ℕ} {ns : List Node} → Keys K → Nodes K ns → (k : ℕ) → k < suc (suc (length ns)) → Listed K (family ns k)
family-listed {K} {ns} a n k h =
    family_ind ns (downward n) (λ k F. Listed K F)
    (listed_nil K)
    (listed_one K)
    (λ i w r l.
    listed-fork K a (get_or ns i blank).label (n.each i w).label-known (family ns (get_or ns i blank).hi) (family ns (get_or ns i blank).lo)
    (family_from n (get_or ns i blank).hi (omega (arith, (n.each i w).hi-below)) (suc (key K (get_or ns i blank).label)) (n.each i w).hi_after)
    (family_from n (get_or ns i blank).lo (omega (arith, (n.each i w).lo-below)) (suc (key K (get_or ns i blank).label)) (n.each i w).lo_after)
    r l)
    k h

-- THEOREM: every family of a sound table is a filter of all sets, in their order
pub family_filtered : {K : List ℕ} {ns : List Node} → Keys K → Nodes K ns → (k : ℕ) → k < suc (suc (length ns))
    → family ns k ≡ filter (λ t. elem t (family ns k)) (sets K)
family_filtered {K} {ns} a n k h = listed_filtered K a (family ns k) (family-listed a n k h)

-- THEOREM: two listed families with the same sets are equal
pub listed_same : (K : List ℕ) → Keys K → (F G : Family) → Listed K F → Listed K G → ((t : List ℕ) → elem t F ≡ elem t G) → F ≡ G
listed_same K k F G f g e =
    listed_filtered K k F f
    ∙ filter_same (λ t. elem t F) (λ t. elem t G) (sets K) (λ t m. e t)
    ∙ sym (listed_filtered K k G g)
