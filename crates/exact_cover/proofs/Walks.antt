-- What Search adds to the count does not depend on the count. Assumes nothing.
use mathlib.Core.Path.{◌≡◌, refl, sym, ap, ◌∙◌}
use mathlib.Core.List.{List, [], ◌∷◌}
use Prim.Native.Nat.{ℕ, zero, suc, ◌+◌}
use native.Mathlib.Nat.{add-suc}
use Rattle.itemset.specs.Items.{without, size}
use Rattle.base.proofs.Bools.{by_test}
use Rattle.exact_cover.specs.Problem.{Problem, row}
use Rattle.exact_cover.specs.Cover.{candidates}
use Rattle.exact_cover.specs.Steps.{Walk, enter, store, known, each, visit, search}
use Rattle.exact_cover.proofs.Fuel.{visit-zero, visit-known, visit_new}

-- the same memo, with c entries more
abbrev pub shift : ℕ → Walk → Walk
shift c w = record { entered = c + w.entered; memo = w.memo }

enter-shift : (c : ℕ) (w : Walk) → enter (shift c w) ≡ shift c (enter w)
enter-shift c w = λ i. record { entered = sym (add-suc c w.entered) i; memo = w.memo }

each-shift : (f : ℕ → Walk → Walk) (c : ℕ) (ps : List ℕ) (w : Walk) → ((p : ℕ) (v : Walk) → f p (shift c v) ≡ shift c (f p v)) → each f ps (shift c w) ≡ shift c (each f ps w)
unfolding each
each-shift f c [] w h = refl
each-shift f c (p ∷ ps) w h = ap (each f ps) (h p w) ∙ each-shift f c ps (f p w) h

visit-shift : (d : ℕ) (Q : Problem) (h : ℕ → ℕ) (A c : ℕ) (w : Walk) → visit d Q h A (shift c w) ≡ shift c (visit d Q h A w)
visit-shift zero Q h A c w = visit-zero Q h A (shift c w) ∙ enter-shift c w ∙ ap (shift c) (sym (visit-zero Q h A w))
visit-shift (suc d) Q h A c w =
    by_test (known Q h A w)
    (λ t. visit-known d Q h A (shift c w) t ∙ enter-shift c w ∙ ap (shift c) (sym (visit-known d Q h A w t)))
    (λ t. visit_new d Q h A (shift c w) t
    ∙ ap (λ (v : Walk). store h A (each (λ (p : ℕ). visit d Q h (without A (row Q p))) (candidates Q A) v)) (enter-shift c w)
    ∙ ap (store h A) (each-shift (λ (p : ℕ). visit d Q h (without A (row Q p))) c (candidates Q A) (enter w) (λ p v. visit-shift d Q h (without A (row Q p)) c v))
    ∙ ap (shift c) (sym (visit_new d Q h A w t)))

pub search-shift : (Q : Problem) (h : ℕ → ℕ) (A c : ℕ) (w : Walk) → search Q h A (shift c w) ≡ shift c (search Q h A w)
unfolding search
search-shift Q h A c w = visit-shift (size A) Q h A c w
