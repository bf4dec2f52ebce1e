-- THEOREMS: a problem in the positions of its order has the keys, the candidates and the covers of the problem itself. Assumes nothing.
use mathlib.Core.Path.{◌≡◌, refl, sym, ap, ap₂, ◌∙◌}
use mathlib.Core.Bool.{true, false, ◌&&◌}
use mathlib.Core.List.{List, [], ◌∷◌}
use Prim.Native.Nat.{ℕ, zero, suc, ◌*◌, ◌+◌, ◌^◌, ◌≤◌, ◌<◌}
use native.Mathlib.Nat.{lt_of_lt_of_le, not-suc-le-zero, le_of_suc-le-suc}
use native.Mathlib.Omega.{arith}
use lib.Dec.{eqb, ltb}
use lib.ListN.{length, get_or, length-map, get_or-map}
use lib.Pow.{pow_mono, pow_pos}
use lib.Seq.{ext_get_or}
use borrow.Author.Tests.{ltb-true, ltb-false, eqb-true, eq-eqb}
use Rattle.base.proofs.Bools.{by_test, same_test}
use Rattle.itemset.specs.Items.{holds, insideb, without, lowest}
use Rattle.itemset.specs.Words.{width}
use Rattle.itemset.proofs.Laws.{holds_lt, without_lt}
use Rattle.zdd.specs.Table.{filter, sets}
use Rattle.exact_cover.specs.Problem.{Problem, row, compulsory, span, item_at, lead, done, each_once, Rows, up_to}
use Rattle.exact_cover.specs.Cover.{keys_of, holders, all_inside, takes, covers, covering, fits, down, candidates}
use Rattle.exact_cover.specs.Positions.{positions, in_plain_order, permuted}
use Rattle.exact_cover.proofs.Lists.{filter_same}
use Rattle.exact_cover.proofs.Orders.{length-count, plain_at, plain-once}
use Rattle.exact_cover.proofs.PositionLaws.{holds-positions, positions_lt, positions-without, positions-none, positions-plain, positions-inside, positions-apart, holds-item, earliest-lowest}
use Rattle.exact_cover.proofs.Lead.{lead_is, lead_lt, lead-lowest, done_is, open_due}
use Rattle.exact_cover.proofs.Order.{length-keys, rank_is}
use Rattle.exact_cover.proofs.Covers.{holders_yes, holders-not, holders-nil, takes-optional, takes-compulsory, covers-inside, covers-takes, to-covers}

-- ---- the plain order

plain-span : length (up_to width) ≡ width
plain-span = length-count 0 width

-- every set of at most 192 items is one of its items
pub plain-small : {A : ℕ} → A < 2 ^ width → A < 2 ^ length (up_to width)
plain-small w = rw plain-span w

plain-ordered : each_once (length (up_to width)) (up_to width) ≡ true
plain-ordered = ap (λ (n : ℕ). each_once n (up_to width)) plain-span ∙ plain-once width

module _ (ps : List ℕ) (o : ℕ) where
  -- a set's lead is its lowest compulsory item
  pub plain-lead : (A : ℕ) → A < 2 ^ width → done (in_plain_order ps o) A ≡ false → lead (in_plain_order ps o) A ≡ lowest (compulsory (in_plain_order ps o) A)
  plain-lead A w e =
      let x = without A o in
      let z : positions (up_to width) x ≡ x = positions-plain width x (without_lt width o w) in
      let l : 0 < x = open_due (in_plain_order ps o) A e in
      lead_is (in_plain_order ps o) A ∙ earliest-lowest (up_to width) x (omega arith) ∙ ap lowest z

-- ---- packages and sets

module _ (Q : Problem) (good : Rows Q) where
  abbrev O : List ℕ
  O = Q.order

  -- the set of A's positions
  abbrev at : ℕ → ℕ
  at A = positions O A

  pub at_lt : (A : ℕ) → at A < 2 ^ width
  at_lt A = lt_of_lt_of_le (positions_lt O A) (pow_mono good.narrow)

  -- no package has an item outside the order, nor has what is no package
  row_lt : (p : ℕ) → row Q p < 2 ^ span Q
  row_lt p = by_test (ltb p (length Q.packages))
      (λ t. good.inside p (ltb-true p (length Q.packages) t))
      (λ t. omega (arith, past Q.packages p (ltb-false p (length Q.packages) t), pow_pos (span Q)))
    where
      past : (xs : List ℕ) (p : ℕ) → length xs ≤ p → get_or xs p 0 ≡ 0
      past [] p l = refl
      past (x ∷ xs) zero l = absurd (not-suc-le-zero l)
      past (x ∷ xs) (suc p) l = past xs p (le_of_suc-le-suc l)

  pub length-permuted : length (permuted Q).packages ≡ length Q.packages
  length-permuted = length-map Q.packages at

  pub row-permuted : (p : ℕ) → row (permuted Q) p ≡ at (row Q p)
  row-permuted p = ap (get_or (permuted Q).packages p) (sym (positions-none O)) ∙ get_or-map at Q.packages p 0

  compulsory-permuted : (A : ℕ) → compulsory (permuted Q) (at A) ≡ at (compulsory Q A)
  compulsory-permuted A = sym (positions-without O A Q.optional)

  module _ (A : ℕ) (w : A < 2 ^ span Q) where
    low : compulsory Q A < 2 ^ span Q
    low = without_lt (span Q) Q.optional w

    pub done-permuted : done (permuted Q) (at A) ≡ done Q A
    done-permuted =
        done_is (permuted Q) (at A) ∙ ap (λ (x : ℕ). eqb x 0) (compulsory-permuted A)
        ∙ same_test (eqb (at (compulsory Q A)) 0) (eqb (compulsory Q A) 0)
        (λ t. eq-eqb (compulsory Q A) 0
        (positions-apart O good.ordered (compulsory Q A) 0 low (pow_pos (span Q)) (eqb-true (at (compulsory Q A)) 0 t ∙ sym (positions-none O))))
        (λ t. eq-eqb (at (compulsory Q A)) 0 (ap at (eqb-true (compulsory Q A) 0 t) ∙ positions-none O))
        ∙ sym (done_is Q A)

    module _ (o : done Q A ≡ false) where
      pub lead-permuted : lead (permuted Q) (at A) ≡ lead Q A
      lead-permuted =
          plain-lead (permuted Q).packages (permuted Q).optional (at A) (at_lt A) (done-permuted ∙ o)
          ∙ ap lowest (compulsory-permuted A) ∙ sym (lead-lowest Q A good.ordered w o)

      fits-permuted : (p : ℕ) → fits (permuted Q) (at A) p ≡ fits Q A p
      unfolding fits
      fits-permuted p =
          let l : lead Q A < span Q = lead_lt Q A good.ordered w o in
          ap₂ ◌&&◌
          (ap₂ holds (ap (item_at (permuted Q)) lead-permuted ∙ plain_at width (lead Q A) (omega (arith, good.narrow))) (row-permuted p)
          ∙ holds-positions O (row Q p) (lead Q A) l)
          (ap (λ (x : ℕ). insideb x (at A)) (row-permuted p) ∙ positions-inside O good.ordered (row Q p) A (row_lt p))

      pub candidates-permuted : candidates (permuted Q) (at A) ≡ candidates Q A
      unfolding candidates
      candidates-permuted =
          filter_same (fits (permuted Q) (at A)) (fits Q A) (down (length (permuted Q).packages)) fits-permuted
          ∙ ap (λ (n : ℕ). filter (fits Q A) (down n)) length-permuted

  pub rows-permuted : Rows (permuted Q)
  rows-permuted = record {
    some = λ p l.
        let n : p < length Q.packages = omega (arith, length-permuted) in
        ap (done (permuted Q)) (row-permuted p) ∙ done-permuted (row Q p) (good.inside p n) ∙ good.some p n;
    few = omega (arith, length-permuted, good.few);
    ordered = plain-ordered;
    narrow = omega (arith, plain-span);
    inside = λ p l. plain-small (omega (arith, row-permuted p, at_lt (row Q p)));
    known = plain-small (at_lt Q.optional);
  }

  -- ---- THEOREM: the keys

  pub keys-permuted : keys_of (permuted Q) ≡ keys_of Q
  keys-permuted = ext_get_or 0 (keys_of (permuted Q)) (keys_of Q) (length-keys (permuted Q) ∙ length-permuted ∙ sym (length-keys Q)) (λ p l.
      let m : p < length (permuted Q).packages = omega (arith, length-keys (permuted Q)) in
      let n : p < length Q.packages = omega (arith, length-permuted) in
      rank_is (permuted Q) p m
      ∙ ap (λ (j : ℕ). j * 512 + p) (ap (lead (permuted Q)) (row-permuted p) ∙ lead-permuted (row Q p) (good.inside p n) (good.some p n))
      ∙ sym (rank_is Q p n))

  -- ---- THEOREM: the covers

  holders-permuted : (j : ℕ) → j < span Q → (t : List ℕ) → holders (permuted Q) j t ≡ holders Q (item_at Q j) t
  holders-permuted j l [] = holders-nil (permuted Q) j ∙ sym (holders-nil Q (item_at Q j))
  holders-permuted j l (p ∷ t) =
      let e : holds j (row (permuted Q) p) ≡ holds (item_at Q j) (row Q p) = ap (holds j) (row-permuted p) ∙ holds-positions O (row Q p) j l in
      by_test (holds (item_at Q j) (row Q p))
      (λ y. holders_yes (permuted Q) j p t (e ∙ y) ∙ ap suc (holders-permuted j l t) ∙ sym (holders_yes Q (item_at Q j) p t y))
      (λ y. holders-not (permuted Q) j p t (e ∙ y) ∙ holders-permuted j l t ∙ sym (holders-not Q (item_at Q j) p t y))

  -- an item takes as many packages as its position
  takes-permuted : (j : ℕ) → j < span Q → (t : List ℕ) → takes (permuted Q) j (holders (permuted Q) j t) ≡ takes Q (item_at Q j) (holders Q (item_at Q j) t)
  takes-permuted j l t =
      let e : holds j (permuted Q).optional ≡ holds (item_at Q j) Q.optional = holds-positions O Q.optional j l in
      ap (takes (permuted Q) j) (holders-permuted j l t)
      ∙ by_test (holds (item_at Q j) Q.optional)
      (λ y. takes-optional (permuted Q) j (holders Q (item_at Q j) t) (e ∙ y) ∙ sym (takes-optional Q (item_at Q j) (holders Q (item_at Q j) t) y))
      (λ y. takes-compulsory (permuted Q) j (holders Q (item_at Q j) t) (e ∙ y) ∙ sym (takes-compulsory Q (item_at Q j) (holders Q (item_at Q j) t) y))

  inside-permuted : (D : ℕ) (t : List ℕ) → all_inside (permuted Q) (at D) t ≡ all_inside Q D t
  unfolding all_inside
  inside-permuted D [] = refl
  inside-permuted D (p ∷ t) =
      ap₂ ◌&&◌ (ap (λ (x : ℕ). insideb x (at D)) (row-permuted p) ∙ positions-inside O good.ordered (row Q p) D (row_lt p)) (inside-permuted D t)

  module _ (D : ℕ) (w : D < 2 ^ span Q) where
    pub covers-permuted : (t : List ℕ) → covers (permuted Q) (at D) t ≡ covers Q D t
    covers-permuted t =
        same_test (covers (permuted Q) (at D) t) (covers Q D t)
        (λ h. to-covers Q D t (sym (inside-permuted D t) ∙ covers-inside (permuted Q) (at D) t h) (λ i l y.
        let r = holds-item O good.ordered D w i y in
        let j = r.0 in
        ap (λ (k : ℕ). takes Q k (holders Q k t)) (sym r.1.1.0) ∙ sym (takes-permuted j r.1.0 t)
        ∙ covers-takes (permuted Q) (at D) t h j (omega (arith, r.1.0, good.narrow)) r.1.1.1))
        (λ h. to-covers (permuted Q) (at D) t (inside-permuted D t ∙ covers-inside Q D t h) (λ j l y.
        let m : j < span Q = holds_lt (span Q) j (positions_lt O D) y in
        let d : holds (item_at Q j) D ≡ true = sym (holds-positions O D j m) ∙ y in
        takes-permuted j m t ∙ covers-takes Q D t h (item_at Q j) (omega (arith, holds_lt (span Q) (item_at Q j) w d, good.narrow)) d))

    pub covering-permuted : covering (permuted Q) (at D) ≡ covering Q D
    unfolding covering
    covering-permuted =
        filter_same (covers (permuted Q) (at D)) (covers Q D) (sets (keys_of (permuted Q))) covers-permuted
        ∙ ap (λ (K : List ℕ). filter (covers Q D) (sets K)) keys-permuted
