-- More fuel than the size of A changes nothing. Assumes nothing.
use mathlib.Core.Path.{◌≡◌, refl, sym, ap, ◌∙◌}
use mathlib.Core.Bool.{true, false}
use mathlib.Core.List.{List, [], ◌∷◌, Memᴰ}
use Prim.Native.Nat.{ℕ, zero, suc, ◌≤◌, ◌<◌}
use native.Mathlib.Nat.{le_refl}
use native.Mathlib.Omega.{arith}
use lib.Dec.{eqb}
use lib.ListN.{get_or}
use Rattle.itemset.specs.Items.{without, size}
use Rattle.base.proofs.Bools.{by_test, or_left}
use Rattle.exact_cover.specs.Problem.{Problem, row, done}
use Rattle.exact_cover.specs.Cover.{candidates}
use Rattle.exact_cover.specs.Steps.{Walk, enter, store, known, each, visit, search}
use Rattle.exact_cover.proofs.Lead.{size-done}
use Rattle.exact_cover.proofs.First.{candidate_falls}

each_same : (f g : ℕ → Walk → Walk) (ps : List ℕ) (w : Walk) → ((p : ℕ) → Memᴰ p ps → (v : Walk) → f p v ≡ g p v) → each f ps w ≡ each g ps w
unfolding each
each_same f g [] w h = refl
each_same f g (p ∷ ps) w h = ap (each f ps) (h p (Memᴰ.head refl) w) ∙ each_same f g ps (g p w) (λ q d. h q (Memᴰ.tail d))

pub visit-known : (d : ℕ) (Q : Problem) (h : ℕ → ℕ) (A : ℕ) (w : Walk) → known Q h A w ≡ true → visit (suc d) Q h A w ≡ enter w
unfolding visit
visit-known d Q h A w e = rw (e, visit)

pub visit_new : (d : ℕ) (Q : Problem) (h : ℕ → ℕ) (A : ℕ) (w : Walk) → known Q h A w ≡ false
    → visit (suc d) Q h A w ≡ store h A (each (λ (p : ℕ). visit d Q h (without A (row Q p))) (candidates Q A) (enter w))
unfolding visit
visit_new d Q h A w e = rw (e, visit)

pub visit-zero : (Q : Problem) (h : ℕ → ℕ) (A : ℕ) (w : Walk) → visit zero Q h A w ≡ enter w
unfolding visit
visit-zero Q h A w = refl

empty-known : (Q : Problem) (h : ℕ → ℕ) (A : ℕ) (w : Walk) → size A ≤ 0 → known Q h A w ≡ true
empty-known Q h A w z = or_left (done Q A) (eqb (get_or w.memo (h A) 0) A) (size-done Q A z)

pub visit-same : (d e : ℕ) (Q : Problem) (h : ℕ → ℕ) (A : ℕ) (w : Walk) → size A ≤ d → size A ≤ e → visit d Q h A w ≡ visit e Q h A w
visit-same zero zero Q h A w a b = refl
visit-same zero (suc e) Q h A w a b = visit-zero Q h A w ∙ sym (visit-known e Q h A w (empty-known Q h A w a))
visit-same (suc d) zero Q h A w a b = visit-known d Q h A w (empty-known Q h A w b) ∙ sym (visit-zero Q h A w)
visit-same (suc d) (suc e) Q h A w a b =
    by_test (known Q h A w)
    (λ t. visit-known d Q h A w t ∙ sym (visit-known e Q h A w t))
    (λ t. visit_new d Q h A w t
    ∙ ap (store h A)
    (each_same (λ (p : ℕ). visit d Q h (without A (row Q p))) (λ (p : ℕ). visit e Q h (without A (row Q p))) (candidates Q A) (enter w)
    (λ p m v.
    let l : size (without A (row Q p)) < size A = candidate_falls Q A m in
    visit-same d e Q h (without A (row Q p)) v (omega arith) (omega arith)))
    ∙ sym (visit_new e Q h A w t))

-- ---- Search with no fuel

pub search-known : (Q : Problem) (h : ℕ → ℕ) (A : ℕ) (w : Walk) → known Q h A w ≡ true → search Q h A w ≡ enter w
unfolding search
search-known Q h A w t = visit-same (size A) (suc (size A)) Q h A w (le_refl (size A)) (omega arith) ∙ visit-known (size A) Q h A w t

pub search_new : (Q : Problem) (h : ℕ → ℕ) (A : ℕ) (w : Walk) → known Q h A w ≡ false
    → search Q h A w ≡ store h A (each (λ (p : ℕ). search Q h (without A (row Q p))) (candidates Q A) (enter w))
unfolding search
search_new Q h A w t =
    visit-same (size A) (suc (size A)) Q h A w (le_refl (size A)) (omega arith)
    ∙ visit_new (size A) Q h A w t
    ∙ ap (store h A)
    (each_same (λ (p : ℕ). visit (size A) Q h (without A (row Q p))) (λ (p : ℕ). visit (size (without A (row Q p))) Q h (without A (row Q p)))
    (candidates Q A) (enter w)
    (λ p m v.
    let l : size (without A (row Q p)) < size A = candidate_falls Q A m in
    visit-same (size A) (size (without A (row Q p))) Q h (without A (row Q p)) v (omega arith) (le_refl (size (without A (row Q p))))))
