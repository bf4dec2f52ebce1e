-- The join of two families. THEOREMS `join_means`: it has the unions of one set of each, and no others; `join_comm`, `join-nil`, `join_one`; where the
-- families have no label in common, `join_splits`: each of its sets is the union of just one pair, and `join-count`: it has as many sets as there are pairs.
-- Assumes nothing.
use mathlib.Core.Path.{◌≡◌, refl, sym, ap, ap₂, ◌∙◌, subst⁻¹}
use mathlib.Core.Logic.{⊎_elim, ◌↔◌}
use mathlib.Core.Bool.{Bool, true, ◌&&◌, ◌||◌, or_comm, or-false}
use mathlib.Core.List.Memᴰ
use mathlib.Core.List.{List, [], ◌∷◌, ◌++◌, map}
use Prim.Native.Nat.{ℕ, ◌+◌, ◌*◌}
use native.Mathlib.Nat.{le_antisymm, suc-mul}
use native.Mathlib.Omega.{arith}
use lib.ListN.{length, length-append, length-map}
use Rattle.base.proofs.Bools.{never, is_false, same_test, and_left, and_right, and_both, or_cases, or_left}
use Rattle.base.proofs.Lists.{any_same, any_found, any-there}
use Rattle.zdd.specs.Table.{Family, sets, elem, has, Keys, ◌∈◌}
use Rattle.zdd.specs.Operations.{is_union, unites, join, Apart}
use Rattle.zdd.proofs.Member.{elem_in, in_elem, elem-head}
use Rattle.zdd.proofs.Listing.{Listed, Once, elem-filter, listed_nil, listed_one, listed-filter, listed-elem, listed_same, listed-once}
use Rattle.zdd.proofs.Ordered.{sets_ext}
use Rattle.zdd.proofs.Counting.{Distinct, distinct_append, pigeonhole}
use Rattle.zdd.proofs.Below.{distinct_map}
use Rattle.zdd.proofs.Unions.{union_labels, labels_union, merge, merge_set, merge_union, union_merge}

-- a set that passes X, one that passes Y, and s, their union
pub record United (K : List ℕ) (X Y : List ℕ → Bool) (s : List ℕ) : Type 0 where
  pub first : List ℕ
  pub second : List ℕ
  pub first-set : elem first (sets K) ≡ true
  pub second_set : elem second (sets K) ≡ true
  pub first_in : X first ≡ true
  pub second_in : Y second ≡ true
  pub union : is_union first second s ≡ true

-- s is the union of a set of F and one of G
abbrev pub Joined : List ℕ → Family → Family → List ℕ → Type 0
Joined K F G s = United K (λ u. elem u F) (λ v. elem v G) s

pub united_turn : {K : List ℕ} {X Y : List ℕ → Bool} {s : List ℕ} → United K X Y s → United K Y X s
united_turn {s = s} r = record {
  first = r.second;
  second = r.first;
  first-set = r.second_set;
  second_set = r.first-set;
  first_in = r.second_in;
  second_in = r.first_in;
  union = labels_union r.second r.first s (λ p. union_labels r.first r.second s r.union p ∙ or_comm (has p r.first) (has p r.second));
}

pub unites_means : (K : List ℕ) (X Y : List ℕ → Bool) (s : List ℕ) → (unites K X Y s ≡ true) ↔ United K X Y s
unfolding unites
unites_means K X Y s = (
  λ e.
      let a = any_found _ (sets K) e in
      let b = any_found _ (sets K) (and_right (X a.0) _ a.2) in
      record {
        first = a.0;
        second = b.0;
        first-set = in_elem a.0 (sets K) a.1;
        second_set = in_elem b.0 (sets K) b.1;
        first_in = and_left (X a.0) _ a.2;
        second_in = and_left (Y b.0) _ b.2;
        union = and_right (Y b.0) _ b.2;
      },
  λ r. any-there _ (sets K) r.first (elem_in r.first (sets K) r.first-set)
      (and_both (X r.first) _ r.first_in
      (any-there _ (sets K) r.second (elem_in r.second (sets K) r.second_set) (and_both (Y r.second) _ r.second_in r.union))),
)

-- the tests the other way round
pub unites-turn : (K : List ℕ) (X Y : List ℕ → Bool) (s : List ℕ) → unites K X Y s ≡ unites K Y X s
unites-turn K X Y s = same_test (unites K X Y s) (unites K Y X s) (turn X Y) (turn Y X)
  where
    turn : (X Y : List ℕ → Bool) → unites K X Y s ≡ true → unites K Y X s ≡ true
    turn X Y e = (unites_means K Y X s).1 (united_turn ((unites_means K X Y s).0 e))

-- the unions depend on which sets pass, and on nothing else
pub unites-same : (K : List ℕ) (X Y X' Y' : List ℕ → Bool)
    → ((u : List ℕ) → elem u (sets K) ≡ true → X u ≡ X' u) → ((v : List ℕ) → elem v (sets K) ≡ true → Y v ≡ Y' v)
    → (s : List ℕ) → unites K X Y s ≡ unites K X' Y' s
unfolding unites
unites-same K X Y X' Y' f g s =
    any_same _ _ (sets K) (λ u m. ap₂ ◌&&◌ (f u (in_elem u (sets K) m)) (any_same _ _ (sets K) (λ v n. ap (λ (b : Bool). b && is_union u v s) (g v (in_elem v (sets K) n)))))

-- ---- what is in a join

module _ (K : List ℕ) (F G : Family) where
  pub listed-join : Listed K (join K F G)
  unfolding join
  listed-join = listed-filter K _

  pub join-set : (s : List ℕ) → elem s (join K F G) ≡ true → elem s (sets K) ≡ true
  join-set = listed-elem K (join K F G) listed-join

  -- THEOREM
  pub join_means : (s : List ℕ) → elem s (sets K) ≡ true → (elem s (join K F G) ≡ true) ↔ Joined K F G s
  unfolding join
  join_means s e = (
    λ h. (unites_means K _ _ s).0 (and_left _ (elem s (sets K)) (sym (elem-filter _ s (sets K)) ∙ h)),
    λ r. elem-filter _ s (sets K) ∙ and_both _ (elem s (sets K)) ((unites_means K _ _ s).1 r) e,
  )

  pub join-of : (s : List ℕ) → elem s (join K F G) ≡ true → Joined K F G s
  join-of s e = (join_means s (join-set s e)).0 e

-- no label is in a set of either
pub apart-turn : {F G : Family} → Apart F G → Apart G F
apart-turn x = record { clash = λ u v a b p h k. x.clash v u b a p k h }

module _ (K : List ℕ) (k : Keys K) where
  -- ---- the other way round, with no set, and with the empty set alone

  -- THEOREM
  pub join_comm : (F G : Family) → join K F G ≡ join K G F
  join_comm F G = listed_same K k (join K F G) (join K G F) (listed-join K F G) (listed-join K G F) (λ s. same_test _ _ (turn F G s) (turn G F s))
    where
      turn : (F G : Family) (s : List ℕ) → elem s (join K F G) ≡ true → elem s (join K G F) ≡ true
      turn F G s e = (join_means K G F s (join-set K F G s e)).1 (united_turn (join-of K F G s e))

  -- THEOREM
  pub join-nil : (F : Family) → join K F [] ≡ []
  unfolding elem
  join-nil F = listed_same K k (join K F []) [] (listed-join K F []) (listed_nil K) (λ s. is_false (elem s (join K F [])) (λ e. never (join-of K F [] s e).second_in refl))

  pub nil-join : (G : Family) → join K [] G ≡ []
  nil-join G = join_comm [] G ∙ join-nil G

  -- THEOREM
  pub join_one : (F : Family) → Listed K F → join K F ([] ∷ []) ≡ F
  unfolding has
  join_one F f = listed_same K k (join K F ([] ∷ [])) F (listed-join K F ([] ∷ [])) f (λ s. same_test _ _ (to s) (back s))
    where
      to : (s : List ℕ) → elem s (join K F ([] ∷ [])) ≡ true → elem s F ≡ true
      to s e =
          let r = join-of K F ([] ∷ []) s e in
          let z : r.second ≡ [] =
          ⊎_elim (λ q. q) (λ m. absurd (Memᴰ.not-nil m)) (Memᴰ.cases_cons (elem_in r.second ([] ∷ []) r.second_in)) in
          let q : s ≡ r.first =
          sets_ext K k s r.first (join-set K F ([] ∷ []) s e) r.first-set (λ p.
          union_labels r.first r.second s r.union p ∙ ap (λ (v : List ℕ). has p r.first || has p v) z ∙ or-false (has p r.first)) in
          ap (λ (v : List ℕ). elem v F) q ∙ r.first_in

      back : (s : List ℕ) → elem s F ≡ true → elem s (join K F ([] ∷ [])) ≡ true
      back s e = (join_means K F ([] ∷ []) s (listed-elem K F f s e)).1 (record {
        first = s;
        second = [];
        first-set = listed-elem K F f s e;
        second_set = listed-elem K ([] ∷ []) (listed_one K) [] (elem-head [] []);
        first_in = e;
        second_in = elem-head [] [];
        union = labels_union s [] s (λ p. sym (or-false (has p s)));
      })

  pub one_join : (G : Family) → Listed K G → join K ([] ∷ []) G ≡ G
  one_join G g = join_comm ([] ∷ []) G ∙ join_one G g

  -- ---- families with no label in common

  first-same : (F G : Family) → Apart F G → (s : List ℕ) (x y : Joined K F G s) → x.first ≡ y.first
  first-same F G a s x y = sets_ext K k x.first y.first x.first-set y.first-set (λ p. same_test _ _ (into x y p) (into y x p))
    where
      -- a label of the one's first set is in s, and not in the other's second set
      into : (x y : Joined K F G s) (p : ℕ) → has p x.first ≡ true → has p y.first ≡ true
      into x y p h =
          let in-s : has p s ≡ true = union_labels x.first x.second s x.union p ∙ or_left (has p x.first) (has p x.second) h in
          ⊎_elim (λ e. e) (λ e. absurd (a.clash x.first y.second x.first_in y.second_in p h e))
          (or_cases (has p y.first) (has p y.second) (sym (union_labels y.first y.second s y.union p) ∙ in-s))

  -- THEOREM: a set of the join is the union of just one set of F and one of G
  pub join_splits : (F G : Family) → Apart F G → (s : List ℕ) (x y : Joined K F G s) → (x.first ≡ y.first) × (x.second ≡ y.second)
  unfolding united_turn
  join_splits F G a s x y = (first-same F G a s x y, first-same G F (apart-turn a) s (united_turn x) (united_turn y))

  -- ---- the unions of all pairs

  pairs : Family → Family → Family
  pairs [] G = []
  pairs (u ∷ F) G = map (merge K u) G ++ pairs F G

  pairs-length : (F G : Family) → length (pairs F G) ≡ length F * length G
  unfolding pairs
  pairs-length [] G = omega arith
  pairs-length (u ∷ F) G =
      length-append (map (merge K u) G) (pairs F G) ∙ ap₂ ◌+◌ (length-map G (merge K u)) (pairs-length F G) ∙ omega (arith, suc-mul (length F) (length G))

  pairs_of : (F G : Family) (s : List ℕ) → s ∈ pairs F G → (u : List ℕ) × (v : List ℕ) × (u ∈ F) × (v ∈ G) × (s ≡ merge K u v)
  unfolding pairs
  pairs_of [] G s m = absurd (Memᴰ.not-nil m)
  pairs_of (u ∷ F) G s m =
      ⊎_elim {C = (u' : List ℕ) × (v : List ℕ) × (u' ∈ u ∷ F) × (v ∈ G) × (s ≡ merge K u' v)}
      (λ a. let r = Memᴰ.of_map (merge K u) G a in (u, r.0, Memᴰ.head refl, r.1, sym r.2))
      (λ b. let r = pairs_of F G s b in (r.0, r.1, Memᴰ.tail r.2, r.3, r.4))
      (Memᴰ.append_cases (map (merge K u) G) m)

  pairs_in : (F G : Family) (u v : List ℕ) → u ∈ F → v ∈ G → merge K u v ∈ pairs F G
  unfolding pairs
  pairs_in [] G u v a b = absurd (Memᴰ.not-nil a)
  pairs_in (w ∷ F) G u v a b =
      ⊎_elim (λ e. Memᴰ.append_left (pairs F G) (subst⁻¹ (λ (x : List ℕ). merge K x v ∈ map (merge K w) G) e (Memᴰ.map (merge K w) b)))
      (λ n. Memᴰ.append_right (map (merge K w) G) (pairs_in F G u v n b)) (Memᴰ.cases_cons a)

  once_distinct : (F : Family) → Once F → Distinct F
  once_distinct [] o = tt
  once_distinct (t ∷ F) o = (λ m. never (in_elem t F m) o.0, once_distinct F o.1)

  listed_distinct : (F : Family) → Listed K F → Distinct F
  listed_distinct F f = once_distinct F (listed-once K k F f)

  module _ (F G : Family) (f : Listed K F) (g : Listed K G) where
    -- a pair and its union
    pair : (u v s : List ℕ) → u ∈ F → v ∈ G → s ≡ merge K u v → Joined K F G s
    pair u v s m n e =
        let a : elem u (sets K) ≡ true = listed-elem K F f u (in_elem u F m) in
        let b : elem v (sets K) ≡ true = listed-elem K G g v (in_elem v G n) in
        record {
          first = u;
          second = v;
          first-set = a;
          second_set = b;
          first_in = in_elem u F m;
          second_in = in_elem v G n;
          union = ap (is_union u v) e ∙ merge_union K u v a b;
        }

    join-pairs : (s : List ℕ) → s ∈ join K F G → s ∈ pairs F G
    join-pairs s m =
        let c : elem s (sets K) ≡ true = join-set K F G s (in_elem s (join K F G) m) in
        let r : Joined K F G s = join-of K F G s (in_elem s (join K F G) m) in
        Memᴰ.cast (union_merge K k r.first r.second s r.first-set r.second_set c r.union)
        (pairs_in F G r.first r.second (elem_in r.first F r.first_in) (elem_in r.second G r.second_in))

    pairs-join : (s : List ℕ) → s ∈ pairs F G → s ∈ join K F G
    pairs-join s m =
        let r = pairs_of F G s m in
        Memᴰ.cast r.4 (elem_in (merge K r.0 r.1) (join K F G)
        ((join_means K F G (merge K r.0 r.1) (merge_set K r.0 r.1)).1 (pair r.0 r.1 (merge K r.0 r.1) r.2 r.3 refl)))

    module _ (x : Apart F G) where
      merge_once : (u u' v v' : List ℕ) → u ∈ F → u' ∈ F → v ∈ G → v' ∈ G → merge K u v ≡ merge K u' v' → (u ≡ u') × (v ≡ v')
      unfolding pair
      merge_once u u' v v' a a' b b' e = join_splits F G x (merge K u v) (pair u v (merge K u v) a b refl) (pair u' v' (merge K u v) a' b' e)

      -- H: sets of F
      pairs_distinct : (H : Family) → ((u : List ℕ) → u ∈ H → u ∈ F) → Distinct H → Distinct (pairs H G)
      unfolding pairs
      pairs_distinct [] h d = tt
      pairs_distinct (u ∷ H) h d =
          let here : u ∈ F = h u (Memᴰ.head refl) in
          distinct_append (map (merge K u) G) (pairs H G)
          (distinct_map (merge K u) G (listed_distinct G g) (λ v w a b e. (merge_once u u v w here here a b e).1))
          (pairs_distinct H (λ w m. h w (Memᴰ.tail m)) d.1)
          (λ s a b.
          let i = Memᴰ.of_map (merge K u) G a in
          let j = pairs_of H G s b in
          d.0 (Memᴰ.cast (merge_once u j.0 i.0 j.1 here (h j.0 (Memᴰ.tail j.2)) i.1 j.3 (i.2 ∙ j.4)).0 j.2))

      -- THEOREM
      pub join-count : length (join K F G) ≡ length F * length G
      join-count =
          le_antisymm
          (pigeonhole (join K F G) (pairs F G) (listed_distinct (join K F G) (listed-join K F G)) join-pairs)
          (pigeonhole (pairs F G) (join K F G) (pairs_distinct F (λ u m. m) (listed_distinct F f)) pairs-join)
          ∙ pairs-length F G
