-- THEOREM: Search in the positions of the order takes the steps of Search of the item sets, where the memo's places are still by the item sets; and these
-- places can be carried along. Assumes nothing.
use mathlib.Core.Path.{◌≡◌, refl, sym, ap, ap₂, ◌∙◌}
use mathlib.Core.Bool.{true, false, ◌||◌}
use mathlib.Core.List.{List, [], ◌∷◌}
use Prim.Native.Nat.{ℕ, zero, suc, ◌+◌, ◌-◌, ◌%◌, ◌^◌, ◌<◌}
use native.Mathlib.Nat.{mod-lt}
use native.Mathlib.Decide.{ℕ_discrete}
use native.Mathlib.Omega.{arith}
use lib.Dec.{eqb}
use lib.ListN.{length, get_or, set, take, length-set, replicate, length-replicate}
use lib.Pow.{pow_pos}
use lib.Seq.{get_or-set_same, get_or-set_other, get_or-take, length-take-le}
use borrow.Author.Tests.{eqb-true, eq-eqb}
use Rattle.base.proofs.Bools.{by_test, same_test, or_neither}
use Rattle.base.proofs.Wiping.{zeros}
use Rattle.itemset.specs.Items.{holds, insideb, without, size}
use Rattle.itemset.proofs.Lists.{width_is}
use Rattle.itemset.proofs.Laws.{ext, without_lt}
use Rattle.itemset.proofs.Places.{place_falls}
use Rattle.exact_cover.specs.Problem.{Problem, row, span, done, Rows}
use Rattle.exact_cover.specs.Cover.{candidates}
use Rattle.exact_cover.specs.Steps.{Walk, enter, place_in, store, known, each, visit, search, steps}
use Rattle.exact_cover.specs.Positions.{positions, permuted, Inverse, Carried}
use Rattle.exact_cover.proofs.Fuel.{visit-zero, visit-known, visit_new, visit-same}
use Rattle.exact_cover.proofs.Orders.{order-position}
use Rattle.exact_cover.proofs.PositionLaws.{holds-positions, positions_lt, positions-without, positions-none, positions-part, positions-apart}
use Rattle.exact_cover.proofs.Permuted.{row-permuted, length-permuted, done-permuted, candidates-permuted}

module _ (Q : Problem) (good : Rows Q) (P : ℕ) (pos : 0 < P) (h : ℕ → ℕ) (is : (A : ℕ) → A < 2 ^ span Q → h (positions Q.order A) ≡ A % P) where
  abbrev at : ℕ → ℕ
  at A = positions Q.order A

  -- two walks that have made as many entries, and whose memos hold the same sets, the second one their positions
  record Alike (w w' : Walk) : Type 0 where
    pub entries : w.entered ≡ w'.entered
    pub first : length w.memo ≡ P
    pub second : length w'.memo ≡ P
    pub small : (j : ℕ) → j < P → get_or w.memo j 0 < 2 ^ span Q
    pub keys : (j : ℕ) → j < P → get_or w'.memo j 0 ≡ at (get_or w.memo j 0)

  alike_enter : {w w' : Walk} → Alike w w' → Alike (enter w) (enter w')
  alike_enter a = record { entries = ap suc a.entries; first = a.first; second = a.second; small = a.small; keys = a.keys }

  module _ (A : ℕ) (l : A < 2 ^ span Q) where
    here : A % P < P
    here = mod-lt A pos

    same_known : {w w' : Walk} → Alike w w' → known (permuted Q) h (at A) w' ≡ known Q (place_in P) A w
    same_known {w} {w'} a =
        let K = get_or w.memo (A % P) 0 in
        ap₂ ◌||◌ (done-permuted Q good A l)
        (ap (λ (j : ℕ). eqb (get_or w'.memo j 0) (at A)) (is A l) ∙ ap (λ (k : ℕ). eqb k (at A)) (a.keys (A % P) here)
        ∙ same_test (eqb (at K) (at A)) (eqb K A)
        (λ t. eq-eqb K A (positions-apart Q.order good.ordered K A (a.small (A % P) here) l (eqb-true (at K) (at A) t)))
        (λ t. eq-eqb (at K) (at A) (ap at (eqb-true K A t))))

    alike_store : {w w' : Walk} → Alike w w' → Alike (store (place_in P) A w) (store h (at A) w')
    alike_store {w} {w'} a = record {
      entries = a.entries;
      first = length-set w.memo (A % P) A ∙ a.first;
      second = length-set w'.memo (h (at A)) (at A) ∙ a.second;
      small = λ j k. low j k (ℕ_discrete j (A % P));
      keys = λ j k. ap (λ (i : ℕ). get_or (set w'.memo i (at A)) j 0) (is A l) ∙ same j k (ℕ_discrete j (A % P));
    }
      where
        low : (j : ℕ) → j < P → Dec (j ≡ A % P) → get_or (set w.memo (A % P) A) j 0 < 2 ^ span Q
        low j k (yes e) = rw (ap (λ (i : ℕ). get_or (set w.memo (A % P) A) i 0) e ∙ get_or-set_same w.memo (A % P) A 0 (omega (arith, a.first))) l
        low j k (no f) = rw (get_or-set_other w.memo (A % P) j A 0 f) (a.small j k)

        same : (j : ℕ) → j < P → Dec (j ≡ A % P) → get_or (set w'.memo (A % P) (at A)) j 0 ≡ at (get_or (set w.memo (A % P) A) j 0)
        same j k (yes e) =
            ap (λ (i : ℕ). get_or (set w'.memo (A % P) (at A)) i 0) e ∙ get_or-set_same w'.memo (A % P) (at A) 0 (omega (arith, a.second))
            ∙ ap at (sym (ap (λ (i : ℕ). get_or (set w.memo (A % P) A) i 0) e ∙ get_or-set_same w.memo (A % P) A 0 (omega (arith, a.first))))
        same j k (no f) =
            get_or-set_other w'.memo (A % P) j (at A) 0 f ∙ a.keys j k ∙ ap at (sym (get_or-set_other w.memo (A % P) j A 0 f))

  alike_each : (f g : ℕ → Walk → Walk) → ((p : ℕ) (v v' : Walk) → Alike v v' → Alike (f p v) (g p v'))
      → (ps : List ℕ) (w w' : Walk) → Alike w w' → Alike (each f ps w) (each g ps w')
  unfolding each
  alike_each f g k [] w w' a = a
  alike_each f g k (p ∷ ps) w w' a = alike_each f g k ps (f p w) (g p w') (k p w w' a)

  -- what a package leaves of a set, in positions
  left-permuted : (A p : ℕ) → without (at A) (row (permuted Q) p) ≡ at (without A (row Q p))
  left-permuted A p = ap (without (at A)) (row-permuted Q good p) ∙ sym (positions-without Q.order A (row Q p))

  alike_visit : (d A : ℕ) → A < 2 ^ span Q → (w w' : Walk) → Alike w w' → Alike (visit d Q (place_in P) A w) (visit d (permuted Q) h (at A) w')
  alike_visit zero A l w w' a = rw (visit-zero Q (place_in P) A w, visit-zero (permuted Q) h (at A) w') (alike_enter a)
  alike_visit (suc d) A l w w' a =
      by_test (known Q (place_in P) A w)
      (λ t. rw (visit-known d Q (place_in P) A w t, visit-known d (permuted Q) h (at A) w' (same_known A l a ∙ t)) (alike_enter a))
      (λ t.
      let o : done Q A ≡ false = (or_neither (done Q A) (eqb (get_or w.memo (A % P) 0) A) t).0 in
      rw (visit_new d Q (place_in P) A w t, visit_new d (permuted Q) h (at A) w' (same_known A l a ∙ t), candidates-permuted Q good A l o)
      (alike_store A l (alike_each (λ (p : ℕ). visit d Q (place_in P) (without A (row Q p))) (λ (p : ℕ). visit d (permuted Q) h (without (at A) (row (permuted Q) p)))
      (λ p v v' e. rw (left-permuted A p) (alike_visit d (without A (row Q p)) (without_lt (span Q) (row Q p) l) v v' e))
      (candidates Q A) (enter w) (enter w') (alike_enter a))))

  -- THEOREM: the steps
  pub steps-permuted : (A : ℕ) → A < 2 ^ span Q → (search (permuted Q) h (at A) (record { entered = 0; memo = replicate P 0 })).entered ≡ steps Q P A
  unfolding steps search
  steps-permuted A l =
      let w : Walk = record { entered = 0; memo = replicate P 0 } in
      let d = size (at A) + size A in
      let a : Alike w w = record {
        entries = refl;
        first = length-replicate P 0;
        second = length-replicate P 0;
        small = λ j k. omega (arith, zeros P j, pow_pos (span Q));
        keys = λ j k. zeros P j ∙ sym (ap at (zeros P j) ∙ positions-none Q.order);
      } in
      ap (λ (v : Walk). v.entered) (visit-same (size (at A)) d (permuted Q) h (at A) w (omega arith) (omega arith))
      ∙ sym (alike_visit d A l w w a).entries
      ∙ ap (λ (v : Walk). v.entered) (sym (visit-same (size A) d Q (place_in P) A w (omega arith) (omega arith)))

-- ---- the places by the item sets

module _ (Q : Problem) (good : Rows Q) (inverse : List ℕ) (v : Inverse Q.order inverse) where
  -- the items at positions x
  abbrev back : ℕ → ℕ
  back x = positions (take (span Q) inverse) x

  length_back : length (take (span Q) inverse) ≡ span Q
  length_back = length-take-le (span Q) inverse (omega (arith, v.long, good.narrow, width_is))

  -- back and forth
  pub back-positions : (A : ℕ) → A < 2 ^ span Q → back (positions Q.order A) ≡ A
  back-positions A l =
      let X = positions Q.order A in
      ext (span Q) (back X) A (omega (arith, positions_lt (take (span Q) inverse) X, ap (λ (n : ℕ). 2 ^ n) length_back)) l (λ i k.
      let r = order-position Q.order good.ordered i k in
      let e : get_or (take (span Q) inverse) i 0 ≡ r.0 =
      get_or-take (span Q) inverse i 0 k ∙ ap (λ (n : ℕ). get_or inverse n 0) (sym r.1.1) ∙ v.back r.0 r.1.0 in
      holds-positions (take (span Q) inverse) X i (omega (arith, length_back)) ∙ ap (λ (n : ℕ). holds n X) e
      ∙ holds-positions Q.order A r.0 r.1.0 ∙ ap (λ (n : ℕ). holds n A) r.1.1)

  -- the place of the item set whose positions are x
  abbrev pub home_of : ℕ → ℕ → ℕ
  home_of P x = back x % P

  pub home_is : (P A : ℕ) → A < 2 ^ span Q → home_of P (positions Q.order A) ≡ A % P
  home_is P A l = ap (λ (x : ℕ). x % P) (back-positions A l)

  pub home_carried : (P : ℕ) → 0 < P → (homes : List ℕ) → ((p : ℕ) → p < length Q.packages → get_or homes p 0 ≡ row Q p % P) → Carried (permuted Q) P homes (home_of P)
  home_carried P pos homes f = record { falls = λ A p l i. falls A p (omega (arith, length-permuted Q good)) i }
    where
      falls : (A p : ℕ) → p < length Q.packages → insideb (row (permuted Q) p) A ≡ true
          → home_of P (without A (row (permuted Q) p)) ≡ (home_of P A + (P - get_or homes p 0)) % P
      falls A p l i =
          let e : back (row (permuted Q) p) ≡ row Q p = ap back (row-permuted Q good p) ∙ back-positions (row Q p) (good.inside p l) in
          let t : insideb (row Q p) (back A) ≡ true =
          ap (λ (x : ℕ). insideb x (back A)) (sym e) ∙ positions-part (take (span Q) inverse) (row (permuted Q) p) A i in
          ap (λ (x : ℕ). x % P) (positions-without (take (span Q) inverse) A (row (permuted Q) p) ∙ ap (without (back A)) e)
          ∙ sym (place_falls (back A) (row Q p) P pos t) ∙ ap (λ (x : ℕ). (back A % P + (P - x)) % P) (sym (f p l))
