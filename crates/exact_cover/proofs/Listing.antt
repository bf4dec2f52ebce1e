-- The covers of A, as a list, are those that begin with a candidate p and go on with a cover of what p leaves, for each candidate, lowest number
-- first. Assumes nothing.
use mathlib.Core.Path.{◌≡◌, refl, sym, ap, ap₂, ◌∙◌, subst}
use mathlib.Core.Bool.{Bool, true, false, not, ◌&&◌}
use mathlib.Core.List.{List, [], ◌∷◌, ◌++◌, map, flat_map, reverse, reverse_aux, reverse-cons}
use Prim.Native.Nat.{ℕ, zero, suc, ◌^◌, ◌≤◌, ◌<◌}
use native.Mathlib.Nat.{le_refl, lt_of_lt_of_le}
use native.Mathlib.Omega.{arith}
use lib.Dec.{ltb}
use lib.ListN.{length}
use lib.Pow.{pow_mono}
use borrow.Author.Tests.{ltb-true}
use Rattle.itemset.specs.Items.{holds, insideb, without}
use Rattle.itemset.specs.Words.{width}
use Rattle.base.proofs.Bools.{by_test, clash, is_false, never}
use Rattle.itemset.proofs.Laws.{holds-without, without_lt}
use Rattle.zdd.specs.Table.{insert_by, order_to, order, all_sets, sets, filter}
use Rattle.exact_cover.specs.Problem.{Problem, row, span, leader, done, Rows}
use Rattle.exact_cover.specs.Cover.{covers, covering, fits, down, candidates, keys_of}
use Rattle.exact_cover.specs.Recursion.{rank, Ascends, gather}
use Rattle.zdd.proofs.Listing.{filter_none}
use Rattle.exact_cover.proofs.Lists.{filter_yes, filter-not, filter-nil, filter-append, filter_same, filter_map}
use Rattle.exact_cover.proofs.Lead.{lead-holds, lead_open, part_open, part-lead}
use Rattle.exact_cover.proofs.Covers.{covers-cons, covers-nil, nil_not}
use Rattle.exact_cover.proofs.Order.{key-number, insert-first, insert_later, insert-nil, order_is, order-listed}
use Rattle.exact_cover.proofs.First.{fits-holds, fits-inside, apart, past}

abbrev pub with-p : ℕ → List ℕ → List ℕ
with-p p t = p ∷ t

-- the covers of B among the sets of the packages L
abbrev pub found : Problem → ℕ → List ℕ → List (List ℕ)
found Q B L = filter (covers Q B) (all_sets L)

-- ---- one package more

found_in : (Q : Problem) (B q : ℕ) (L : List ℕ) → B < 2 ^ width → insideb (row Q q) B ≡ true
    → found Q B (q ∷ L) ≡ map (with-p q) (found Q (without B (row Q q)) L) ++ found Q B L
unfolding all_sets
found_in Q B q L w e =
    filter-append (covers Q B) (map (with-p q) (all_sets L)) (all_sets L)
    ∙ ap (λ (x : List (List ℕ)). x ++ found Q B L)
    (filter_map (with-p q) (covers Q B) (all_sets L)
    ∙ ap (map (with-p q))
    (filter_same (λ (t : List ℕ). covers Q B (q ∷ t)) (covers Q (without B (row Q q))) (all_sets L)
    (λ t. covers-cons Q B q t w ∙ ap (λ (b : Bool). b && covers Q (without B (row Q q)) t) e)))

found_out : (Q : Problem) (B q : ℕ) (L : List ℕ) → B < 2 ^ width → insideb (row Q q) B ≡ false → found Q B (q ∷ L) ≡ found Q B L
unfolding all_sets
found_out Q B q L w e =
    filter-append (covers Q B) (map (with-p q) (all_sets L)) (all_sets L)
    ∙ ap (λ (x : List (List ℕ)). x ++ found Q B L)
    (filter_map (with-p q) (covers Q B) (all_sets L)
    ∙ ap (map (with-p q))
    (filter_same (λ (t : List ℕ). covers Q B (q ∷ t)) (λ (t : List ℕ). false) (all_sets L)
    (λ t. covers-cons Q B q t w ∙ ap (λ (b : Bool). b && covers Q (without B (row Q q)) t) e)
    ∙ filter_none (all_sets L)))

found-nil : (Q : Problem) (B : ℕ) → done Q B ≡ false → B < 2 ^ width → found Q B [] ≡ []
unfolding all_sets
found-nil Q B o w = filter-not (covers Q B) [] [] (nil_not Q B o w) ∙ filter-nil (covers Q B)

-- item i, which B must have covered and no package from m on has
none : (Q : Problem) (i B m : ℕ) (L : List ℕ) → ((C : ℕ) → holds i C ≡ true → done Q C ≡ false) → B < 2 ^ width → holds i B ≡ true
    → Ascends Q (length Q.packages) m L → ((p : ℕ) → p < length Q.packages → m ≤ rank Q p → holds i (row Q p) ≡ false) → found Q B L ≡ []
none Q i B m [] o w y h n = found-nil Q B (o B y) w
none Q i B m (q ∷ L) o w y h n =
    by_test (insideb (row Q q) B)
    (λ t. found_in Q B q L w t
    ∙ ap₂ (λ (a b : List (List ℕ)). map (with-p q) a ++ b)
    (none Q i (without B (row Q q)) (suc (rank Q q)) L o (without_lt width (row Q q) w)
    (holds-without i B (row Q q) ∙ ap₂ (λ (a b : Bool). a && not b) y (n q h.0 h.1))
    h.2 (λ p l k. n p l (omega arith)))
    (none Q i B (suc (rank Q q)) L o w y h.2 (λ p l k. n p l (omega arith))))
    (λ t. found_out Q B q L w t ∙ none Q i B (suc (rank Q q)) L o w y h.2 (λ p l k. n p l (omega arith)))

-- ---- the covers that begin with p, of those among the packages `whole`

abbrev begun : Problem → ℕ → List ℕ → ℕ → List (List ℕ)
begun Q A whole p = map (with-p p) (found Q (without A (row Q p)) whole)

unfit : (Q : Problem) (A q : ℕ) → insideb (row Q q) A ≡ true → fits Q A q ≡ false → holds (leader Q A) (row Q q) ≡ false
unfolding fits
unfit Q A q t f = by_test (holds (leader Q A) (row Q q)) (λ y. clash (fits Q A q) (ap₂ ◌&&◌ y t) f) (λ y. y)

-- sets of the order's items are sets of at most 192
pub wide : {Q : Problem} {A : ℕ} → Rows Q → A < 2 ^ span Q → A < 2 ^ width
wide good w = lt_of_lt_of_le w (pow_mono good.narrow)

module _ (Q : Problem) (good : Rows Q) (A : ℕ) (s : A < 2 ^ span Q) (o : done Q A ≡ false) (whole : List ℕ) where
  w : A < 2 ^ width
  w = wide good s

  -- L is what is left of the whole from key m on, and the packages before it are no part of what a candidate from m on leaves
  by_candidates : (m : ℕ) (L : List ℕ) → Ascends Q (length Q.packages) m L
      → ((p : ℕ) → p < length Q.packages → m ≤ rank Q p → fits Q A p ≡ true → found Q (without A (row Q p)) L ≡ found Q (without A (row Q p)) whole)
      → found Q A L ≡ flat_map (begun Q A whole) (filter (fits Q A) L)
  unfolding flat_map
  by_candidates m [] h same = found-nil Q A o w ∙ ap (flat_map (begun Q A whole)) (sym (filter-nil (fits Q A)))
  by_candidates m (q ∷ L) h same =
      let drop : (p : ℕ) → p < length Q.packages → rank Q q ≤ rank Q p → fits Q A p ≡ true → found Q (without A (row Q p)) L ≡ found Q (without A (row Q p)) (q ∷ L) =
      λ p l k f. sym (found_out Q (without A (row Q p)) q L (without_lt width (row Q p) w) (apart Q good A p q s o l h.0 k f)) in
      let rest : found Q A L ≡ flat_map (begun Q A whole) (filter (fits Q A) L) =
      by_candidates (suc (rank Q q)) L h.2 (λ p l k f. drop p l (omega arith) f ∙ same p l (omega arith) f) in
      by_test (fits Q A q)
      (λ f. found_in Q A q L w (fits-inside Q A q f)
      ∙ ap₂ (λ (a b : List (List ℕ)). map (with-p q) a ++ b) (drop q h.0 (le_refl (rank Q q)) f ∙ same q h.0 h.1 f) rest
      ∙ ap (flat_map (begun Q A whole)) (sym (filter_yes (fits Q A) q L f)))
      (λ f. by_test (insideb (row Q q) A)
      (λ t.
      let n : holds (leader Q A) (row Q q) ≡ false = unfit Q A q t f in
      found_in Q A q L w t
      ∙ ap₂ (λ (a b : List (List ℕ)). map (with-p q) a ++ b)
      (none Q (leader Q A) (without A (row Q q)) (suc (rank Q q)) L (lead_open Q good.ordered A s o) (without_lt width (row Q q) w)
      (holds-without (leader Q A) A (row Q q) ∙ ap₂ (λ (a b : Bool). a && not b) (lead-holds Q A good.ordered s o) n)
      h.2 (λ p l k. past Q good A q p s o h.0 l t n (omega arith)))
      rest
      ∙ ap (flat_map (begun Q A whole)) (sym (filter-not (fits Q A) q L f)))
      (λ t. found_out Q A q L w t ∙ rest ∙ ap (flat_map (begun Q A whole)) (sym (filter-not (fits Q A) q L f))))

-- ---- the candidates stand in the order by their numbers

module _ (Q : Problem) (good : Rows Q) (A : ℕ) (s : A < 2 ^ span Q) (o : done Q A ≡ false) where
  -- packages that fit have one lead
  fits_after : (q p : ℕ) → q < p → p < length Q.packages → fits Q A q ≡ true → fits Q A p ≡ true → rank Q q < rank Q p
  fits_after q p l h a b =
      key-number Q good.few q p l h
      (part-lead Q good.ordered (row Q q) A s (fits-inside Q A q a) o (fits-holds Q A q a)
      ∙ sym (part-lead Q good.ordered (row Q p) A s (fits-inside Q A p b) o (fits-holds Q A p b)))

  none_after : (n m : ℕ) (t : List ℕ) → n < length Q.packages → fits Q A n ≡ true → rank Q n < m → Ascends Q n m t → filter (fits Q A) t ≡ []
  none_after n m [] b f l h = filter-nil (fits Q A)
  none_after n m (q ∷ t) b f l h =
      by_test (fits Q A q)
      (λ a. absurd (omega (arith, fits_after q n h.0 b a f)))
      (λ a. filter-not (fits Q A) q t a ∙ none_after n (suc (rank Q q)) t b f (omega arith) h.2)

  insert-fits : (n m : ℕ) (t : List ℕ) → n < length Q.packages → fits Q A n ≡ true → Ascends Q n m t → filter (fits Q A) (insert_by (keys_of Q) n t) ≡ filter (fits Q A) t ++ (n ∷ [])
  insert-fits n m [] b f h =
      ap (filter (fits Q A)) (insert-nil Q n) ∙ filter_yes (fits Q A) n [] f ∙ ap (λ (x : List ℕ). n ∷ x) (filter-nil (fits Q A))
      ∙ ap (λ (x : List ℕ). x ++ (n ∷ [])) (sym (filter-nil (fits Q A)))
  insert-fits n m (q ∷ t) b f h =
      by_test (ltb (rank Q n) (rank Q q))
      (λ e.
      let z : filter (fits Q A) (q ∷ t) ≡ [] = none_after n (rank Q q) (q ∷ t) b f (ltb-true (rank Q n) (rank Q q) e) (h.0, le_refl (rank Q q), h.2) in
      ap (filter (fits Q A)) (insert-first Q n q t e) ∙ filter_yes (fits Q A) n (q ∷ t) f ∙ ap (λ (x : List ℕ). n ∷ x) z
      ∙ ap (λ (x : List ℕ). x ++ (n ∷ [])) (sym z))
      (λ e. ap (filter (fits Q A)) (insert_later Q n q t e)
      ∙ by_test (fits Q A q)
      (λ a. filter_yes (fits Q A) q (insert_by (keys_of Q) n t) a ∙ ap (λ (x : List ℕ). q ∷ x) (insert-fits n (suc (rank Q q)) t b f h.2)
      ∙ ap (λ (x : List ℕ). x ++ (n ∷ [])) (sym (filter_yes (fits Q A) q t a)))
      (λ a. filter-not (fits Q A) q (insert_by (keys_of Q) n t) a ∙ insert-fits n (suc (rank Q q)) t b f h.2
      ∙ ap (λ (x : List ℕ). x ++ (n ∷ [])) (sym (filter-not (fits Q A) q t a))))

  insert_unfit : (n : ℕ) (t : List ℕ) → fits Q A n ≡ false → filter (fits Q A) (insert_by (keys_of Q) n t) ≡ filter (fits Q A) t
  insert_unfit n [] f = ap (filter (fits Q A)) (insert-nil Q n) ∙ filter-not (fits Q A) n [] f
  insert_unfit n (q ∷ t) f =
      by_test (ltb (rank Q n) (rank Q q))
      (λ e. ap (filter (fits Q A)) (insert-first Q n q t e) ∙ filter-not (fits Q A) n (q ∷ t) f)
      (λ e. ap (filter (fits Q A)) (insert_later Q n q t e)
      ∙ by_test (fits Q A q)
      (λ a. filter_yes (fits Q A) q (insert_by (keys_of Q) n t) a ∙ ap (λ (x : List ℕ). q ∷ x) (insert_unfit n t f) ∙ sym (filter_yes (fits Q A) q t a))
      (λ a. filter-not (fits Q A) q (insert_by (keys_of Q) n t) a ∙ insert_unfit n t f ∙ sym (filter-not (fits Q A) q t a)))

  -- those that fit, in precedence, are those that fit, lowest number first
  order-down : (n : ℕ) → n ≤ length Q.packages → filter (fits Q A) (order_to (keys_of Q) n) ≡ reverse (filter (fits Q A) (down n))
  unfolding order_to down
  order-down zero l = filter-nil (fits Q A) ∙ ap reverse (sym (filter-nil (fits Q A)))
  order-down (suc n) l =
      by_test (fits Q A n)
      (λ f. insert-fits n 0 (order_to (keys_of Q) n) l f (order-listed Q good.few n (omega arith))
      ∙ ap (λ (x : List ℕ). x ++ (n ∷ [])) (order-down n (omega arith))
      ∙ sym (reverse-cons n (filter (fits Q A) (down n)))
      ∙ ap reverse (sym (filter_yes (fits Q A) n (down n) f)))
      (λ f. insert_unfit n (order_to (keys_of Q) n) f ∙ order-down n (omega arith) ∙ ap reverse (sym (filter-not (fits Q A) n (down n) f)))

-- ---- the sets that cover what is done

only : (Q : Problem) (A : ℕ) → A < 2 ^ span Q → done Q A ≡ true → Rows Q → (m : ℕ) (L : List ℕ) → Ascends Q (length Q.packages) m L → found Q A L ≡ [] ∷ []
unfolding all_sets
only Q A s e good m [] h = filter_yes (covers Q A) [] [] (covers-nil Q A e) ∙ ap (λ (x : List (List ℕ)). [] ∷ x) (filter-nil (covers Q A))
only Q A s e good m (q ∷ L) h =
    found_out Q A q L (wide good s) (is_false (insideb (row Q q) A) (λ t. never e (part_open Q good.ordered (row Q q) A s t (good.some q h.0))))
    ∙ only Q A s e good (suc (rank Q q)) L h.2

-- ---- the theorem

-- a loop over a list puts together what its reverse does
gather-flat : (f : ℕ → List (List ℕ)) (ps qs : List ℕ) → flat_map f (reverse_aux ps qs) ≡ gather f ps (flat_map f qs)
unfolding gather flat_map
gather-flat f [] qs = refl
gather-flat f (p ∷ ps) qs = gather-flat f ps (p ∷ qs)

flat-nil : (f : ℕ → List (List ℕ)) → flat_map f [] ≡ []
unfolding flat_map
flat-nil f = refl

module _ (Q : Problem) (good : Rows Q) where
  -- the listing's packages stand in precedence
  listed : Ascends Q (length Q.packages) 0 (order (keys_of Q))
  listed = subst (Ascends Q (length Q.packages) 0) (sym (order_is Q)) (order-listed Q good.few (length Q.packages) (le_refl (length Q.packages)))

  -- THEOREM: of a set that is not done, over the candidates, lowest number first
  pub covering-step : (A : ℕ) → A < 2 ^ span Q → done Q A ≡ false
      → covering Q A ≡ flat_map (λ (p : ℕ). map (λ (t : List ℕ). p ∷ t) (covering Q (without A (row Q p)))) (reverse (candidates Q A))
  unfolding covering sets candidates
  covering-step A w o =
      by_candidates Q good A w o (order (keys_of Q)) 0 (order (keys_of Q)) listed (λ p l k f. refl)
      ∙ ap (flat_map (begun Q A (order (keys_of Q)))) (ap (filter (fits Q A)) (order_is Q) ∙ order-down Q good A w o (length Q.packages) (le_refl (length Q.packages)))

  -- as a loop over the candidates in their own order, highest number first
  pub covering-gather : (A : ℕ) → A < 2 ^ span Q → done Q A ≡ false
      → covering Q A ≡ gather (λ (p : ℕ). map (λ (t : List ℕ). p ∷ t) (covering Q (without A (row Q p)))) (candidates Q A) []
  covering-gather A w o =
      covering-step A w o
      ∙ gather-flat (λ (p : ℕ). map (λ (t : List ℕ). p ∷ t) (covering Q (without A (row Q p)))) (candidates Q A) []
      ∙ ap (gather (λ (p : ℕ). map (λ (t : List ℕ). p ∷ t) (covering Q (without A (row Q p)))) (candidates Q A))
      (flat-nil (λ (p : ℕ). map (λ (t : List ℕ). p ∷ t) (covering Q (without A (row Q p)))))

  -- of a set that is done: the empty set of packages
  pub covering-done : (A : ℕ) → A < 2 ^ span Q → done Q A ≡ true → covering Q A ≡ [] ∷ []
  unfolding covering sets
  covering-done A w e = only Q A w e good 0 (order (keys_of Q)) listed
