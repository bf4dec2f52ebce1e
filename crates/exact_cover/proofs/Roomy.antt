-- A memo that has a place for each number up to the set to cover: how many places it has besides that changes no step. Assumes nothing.
use mathlib.Core.Path.{◌≡◌, refl, sym, ap, ◌∙◌}
use mathlib.Core.Bool.{◌||◌}
use mathlib.Core.List.{List, [], ◌∷◌}
use Prim.Native.Nat.{ℕ, zero, suc, ◌%◌, ◌≤◌, ◌<◌}
use native.Mathlib.Nat.{le_refl, mod-eq_of_lt}
use native.Mathlib.Decide.{ℕ_discrete}
use native.Mathlib.Omega.{arith}
use lib.Dec.{eqb}
use lib.ListN.{length, get_or, set, length-set, replicate, length-replicate}
use lib.Seq.{get_or-set_same, get_or-set_other}
use Rattle.base.proofs.Bools.{by_test}
use Rattle.base.proofs.Wiping.{zeros}
use Rattle.itemset.specs.Items.{without, size}
use Rattle.exact_cover.specs.Problem.{Problem, row, done}
use Rattle.exact_cover.specs.Cover.{candidates}
use Rattle.exact_cover.specs.Steps.{Walk, enter, place_in, store, known, each, visit, steps}
use Rattle.exact_cover.proofs.Fuel.{visit-zero, visit-known, visit_new}

without_le : (A x : ℕ) → without A x ≤ A
unfolding without
without_le A x = omega arith

module _ (Q : Problem) (b P P' : ℕ) (l : b < P) (l' : b < P') where
  -- two walks that have made as many entries, and whose memos agree on the places up to b
  record Alike (w w' : Walk) : Type 0 where
    pub entries : w.entered ≡ w'.entered
    pub first : length w.memo ≡ P
    pub second : length w'.memo ≡ P'
    pub keys : (j : ℕ) → j ≤ b → get_or w.memo j 0 ≡ get_or w'.memo j 0

  alike_enter : {w w' : Walk} → Alike w w' → Alike (enter w) (enter w')
  alike_enter a = record { entries = ap suc a.entries; first = a.first; second = a.second; keys = a.keys }

  module _ (A : ℕ) (h : A ≤ b) where
    -- its place is the set itself, in both
    here : A % P ≡ A
    here = mod-eq_of_lt (omega arith)

    there : A % P' ≡ A
    there = mod-eq_of_lt (omega arith)

    same_known : {w w' : Walk} → Alike w w' → known Q (place_in P) A w ≡ known Q (place_in P') A w'
    same_known {w} {w'} a =
        ap (λ (n : ℕ). done Q A || eqb n A)
        (ap (λ (j : ℕ). get_or w.memo j 0) here ∙ a.keys A h ∙ ap (λ (j : ℕ). get_or w'.memo j 0) (sym there))

    alike_store : {w w' : Walk} → Alike w w' → Alike (store (place_in P) A w) (store (place_in P') A w')
    alike_store {w} {w'} a = record {
      entries = a.entries;
      first = length-set w.memo (A % P) A ∙ a.first;
      second = length-set w'.memo (A % P') A ∙ a.second;
      keys = λ j k.
          ap (λ (i : ℕ). get_or (set w.memo i A) j 0) here ∙ at j k (ℕ_discrete j A) ∙ ap (λ (i : ℕ). get_or (set w'.memo i A) j 0) (sym there);
    }
      where
        at : (j : ℕ) → j ≤ b → Dec (j ≡ A) → get_or (set w.memo A A) j 0 ≡ get_or (set w'.memo A A) j 0
        at j k (yes e) = rw e (get_or-set_same w.memo A A 0 (omega (arith, a.first)) ∙ sym (get_or-set_same w'.memo A A 0 (omega (arith, a.second))))
        at j k (no f) = get_or-set_other w.memo A j A 0 f ∙ a.keys j k ∙ sym (get_or-set_other w'.memo A j A 0 f)

  alike_each : (f g : ℕ → Walk → Walk) → ((p : ℕ) (v v' : Walk) → Alike v v' → Alike (f p v) (g p v'))
      → (ps : List ℕ) (w w' : Walk) → Alike w w' → Alike (each f ps w) (each g ps w')
  unfolding each
  alike_each f g h [] w w' a = a
  alike_each f g h (p ∷ ps) w w' a = alike_each f g h ps (f p w) (g p w') (h p w w' a)

  alike_visit : (d A : ℕ) → A ≤ b → (w w' : Walk) → Alike w w' → Alike (visit d Q (place_in P) A w) (visit d Q (place_in P') A w')
  alike_visit zero A h w w' a = rw (visit-zero Q (place_in P) A w, visit-zero Q (place_in P') A w') (alike_enter a)
  alike_visit (suc d) A h w w' a =
      by_test (known Q (place_in P) A w)
      (λ t. rw (visit-known d Q (place_in P) A w t, visit-known d Q (place_in P') A w' (sym (same_known A h a) ∙ t)) (alike_enter a))
      (λ t. rw (visit_new d Q (place_in P) A w t, visit_new d Q (place_in P') A w' (sym (same_known A h a) ∙ t))
      (alike_store A h (alike_each (λ (p : ℕ). visit d Q (place_in P) (without A (row Q p))) (λ (p : ℕ). visit d Q (place_in P') (without A (row Q p)))
      (λ p v v' e. alike_visit d (without A (row Q p)) (omega (arith, without_le A (row Q p))) v v' e)
      (candidates Q A) (enter w) (enter w') (alike_enter a))))

pub steps_roomy : (Q : Problem) (P P' A : ℕ) → A < P → A < P' → steps Q P A ≡ steps Q P' A
unfolding steps
steps_roomy Q P P' A l l' =
    (alike_visit Q A P P' l l' (size A) A (le_refl A) (record { entered = 0; memo = replicate P 0 }) (record { entered = 0; memo = replicate P' 0 })
    (record { entries = refl; first = length-replicate P 0; second = length-replicate P' 0; keys = λ j k. zeros P j ∙ sym (zeros P' j) })
    ).entries
