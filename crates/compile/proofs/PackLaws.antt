-- The packages in positions, as their words are written one after the other. Assumes nothing.
use mathlib.Core.Path.{◌≡◌, sym, ap, ◌∙◌}
use mathlib.Core.Logic.{inl}
use mathlib.Core.List.{List, [], ◌∷◌, map}
use Prim.Native.Nat.{ℕ, ◌+◌, ◌*◌, ◌/◌, ◌^◌, ◌≤◌, ◌<◌}
use native.Mathlib.Decide.{ℕ_discrete}
use native.Mathlib.Omega.{arith}
use lib.ListN.{length, get_or, take, drop, length-map, get_or-map}
use lib.Seq.{sets, length-sets, get_or-take, length-take-le, ext_get_or}
use denote.Laws.{Is}
use denote.Struct.Declared.{row}
use denote.Struct.Laws.{val}
use Rattle.itemset.specs.contracts.Items.{the_type}
use Rattle.itemset.specs.declared.Items.{Items}
use Rattle.itemset.proofs.Items.TheLaws.{the_laws}
use Rattle.itemset.proofs.Three.{known, items_lt}
use Rattle.itemset.specs.Words.{width, value, value_of, sets_of}
use Rattle.itemset.proofs.Stored.{words_from_lem, from_same, take_same, length-sets_of, sets_of-at, sets_other, sets-read}
use Rattle.exact_cover.specs.Problem.{up_to}
use Rattle.exact_cover.proofs.Permuted.{plain-small}
use Rattle.exact_cover.specs.Positions.{positions}
use Rattle.exact_cover.proofs.PositionLaws.{positions-none}

-- of the sets xs those before k are written in positions of the order
pub record Written (xs order packs : List ℕ) (k : ℕ) : Type 0 where
  pub long : length packs ≡ 1536
  pub each : (p : ℕ) → p < k → value_of (take 3 (drop (3 * p) packs)) ≡ positions order (get_or xs p 0)

pub written_start : (xs order : List ℕ) {packs : List ℕ} → length packs ≡ 1536 → Written xs order packs 0
written_start xs order e = record { long = e; each = λ p l. absurd (omega arith) }

pub written-more : {xs order packs : List ℕ} (k : ℕ) (ws : List ℕ) → k < 512 → length ws ≡ 3 → value_of ws ≡ positions order (get_or xs k 0)
    → Written xs order packs k → Written xs order (sets packs (3 * k) ws) (k + 1)
written-more {xs} {order} {packs} k ws l n e w = record {
  long = length-sets packs (3 * k) ws ∙ w.long;
  each = λ p m. at p m (ℕ_discrete p k);
}
  where
    at : (p : ℕ) → p < k + 1 → Dec (p ≡ k) → value_of (take 3 (drop (3 * p) (sets packs (3 * k) ws))) ≡ positions order (get_or xs p 0)
    at p m (yes q) =
        ap (λ (i : ℕ). value_of (take 3 (drop (3 * i) (sets packs (3 * k) ws)))) q
        ∙ ap (λ (i : ℕ). value_of (take i (drop (3 * k) (sets packs (3 * k) ws)))) (sym n)
        ∙ ap value_of (sets-read ws packs (3 * k) (omega (arith, n, w.long))) ∙ e ∙ ap (λ (i : ℕ). positions order (get_or xs i 0)) (sym q)
    at p m (no q) =
        let b : p < k = omega arith in
        ap value_of (take_same 3 (3 * p) (sets packs (3 * k) ws) packs (length-sets packs (3 * k) ws) (omega (arith, length-sets packs (3 * k) ws, w.long))
        (λ i a c. sets_other ws packs (3 * k) i (inl (omega arith))))
        ∙ w.each p b

pub written_all : {xs order packs : List ℕ} (k : ℕ) → length xs ≤ 512 → length xs ≤ k → Written xs order packs k
    → sets_of (take (3 * length xs) packs) ≡ map (positions order) xs
written_all {xs} {order} {packs} k few l w =
    let ws = take (3 * length xs) packs in
    let m : length ws ≡ 3 * length xs = length-take-le (3 * length xs) packs (omega (arith, w.long)) in
    let c : length ws / 3 ≡ length xs = omega arith in
    ext_get_or 0 (sets_of ws) (map (positions order) xs) (length-sets_of ws ∙ c ∙ sym (length-map xs (positions order))) (λ p h.
    let b : p < length xs = omega (arith, length-sets_of ws) in
    sets_of-at ws p (omega arith)
    ∙ ap value_of (sym (words_from_lem 3 (3 * p) ws (omega arith))
    ∙ from_same 3 (3 * p) ws packs (λ i a d. get_or-take (3 * length xs) packs i 0 (omega arith))
    ∙ words_from_lem 3 (3 * p) packs (omega (arith, w.long)))
    ∙ w.each p (omega arith)
    ∙ sym (ap (get_or (map (positions order) xs) p) (sym (positions-none order)) ∙ get_or-map (positions order) xs p 0))

-- a set that a function is given holds items of the plain order
pub small_items : (x : Items) → Is (row the_type) x (val the_type the_laws x ∷ []) → value x < 2 ^ length (up_to width)
small_items x g = plain-small (items_lt x (known x g))
