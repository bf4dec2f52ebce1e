-- Putting text into a buffer, part by part. Assumes nothing.
use mathlib.Core.Path.{◌≡◌, refl, sym, ap, ◌∙◌, subst}
use mathlib.Core.List.{List, [], ◌∷◌, ◌++◌, append_assoc, append-nil}
use Prim.Native.Nat.{ℕ, zero, suc, ◌+◌, ◌/◌, ◌%◌, ◌^◌, ◌≤◌, ◌<◌}
use native.Mathlib.Nat.{div-lt_iff_lt-mul, pow-suc}
use native.Mathlib.Numerals.{add-one}
use native.Mathlib.Omega.{arith}
use borrow.Author.Tests.{lt-ltb, le-ltb}
use lib.ListN.{length, take, get_or}
use lib.Seq.{take-suc}
use Rattle.query.specs.Questions.{cost}
use Rattle.printout.specs.Text.{decimal_in, decimal, field, packages_text}
use Rattle.printout.specs.Written.{Puts, Adds}
use Rattle.printout.specs.declared.Writer.{Writer}

-- ---- one part and the next

pub puts_none : (out : List ℕ) (at : ℕ) → Puts out at out at []
puts_none out at ts h = rw append-nil h

pub puts_then : {out out₁ out₂ : List ℕ} {at at₁ at₂ : ℕ} (xs : List ℕ) {ys : List ℕ} → Puts out at out₁ at₁ xs → Puts out₁ at₁ out₂ at₂ ys → Puts out at out₂ at₂ (xs ++ ys)
puts_then xs {ys} p q ts h = rw (← append_assoc ts xs ys) (q (ts ++ xs) (p ts h))

-- ---- by a writer

pub adds_none : (w : Writer) → Adds w w []
adds_none w = record { same_buffer = refl; long = refl; puts = puts_none w.buffer.now w.len }

pub adds_then : {w w₁ w₂ : Writer} (xs : List ℕ) {ys : List ℕ} → Adds w w₁ xs → Adds w₁ w₂ ys → Adds w w₂ (xs ++ ys)
adds_then xs p q = record { same_buffer = q.same_buffer ∙ p.same_buffer; long = q.long ∙ p.long; puts = puts_then xs p.puts q.puts }

pub adds_same : {w w' : Writer} {xs ys : List ℕ} → xs ≡ ys → Adds w w' xs → Adds w w' ys
adds_same {w} {w'} e p = subst (λ (l : List ℕ). Adds w w' l) e p

-- ---- a number

pub last_digit : (d x : ℕ) → x < 10 → (48 + x) ∷ [] ≡ decimal_in (suc d) x
unfolding decimal_in
last_digit d x h = rw (lt-ltb x 10 h, decimal_in)

-- the digits of x / 10, and the last; 10 or more has two at least
pub more_digits : (d x : ℕ) → 10 ≤ x → decimal_in d (x / 10) ++ ((48 + x % 10) ∷ []) ≡ decimal_in (suc d) x
unfolding decimal_in
more_digits d x h = rw (le-ltb x 10 h, decimal_in)

tenth : (x d : ℕ) → x < 10 ^ suc d → x / 10 < 10 ^ d
tenth x d h = (div-lt_iff_lt-mul {k = 10} {x = x} {y = 10 ^ d} (omega arith)).1 (rw (pow-suc 10 d) at h)

pub digits_put : {w w₁ w₂ : Writer} (x : ℕ) → 10 ≤ x
    → ((d : ℕ) → x / 10 < 10 ^ suc d → Adds w w₁ (decimal_in (suc d) (x / 10))) → Adds w₁ w₂ ((48 + x % 10) ∷ [])
    → (d : ℕ) → x < 10 ^ suc d → Adds w w₂ (decimal_in (suc d) x)
digits_put x h p q zero l = absurd (omega arith)
digits_put x h p q (suc d) l = adds_same (more_digits (suc d) x h) (adds_then (decimal_in (suc d) (x / 10)) (p d (tenth x (suc d) l)) q)

pub decimal-put : {w w' : Writer} (x : ℕ) → x < 2 ^ 64
    → ((d : ℕ) → x < 10 ^ suc d → Adds w w' (decimal_in (suc d) x)) → Adds w w' (decimal x)
unfolding decimal
decimal-put x h p = p 19 (omega arith)

-- ---- lists

packages-append : (s t : List ℕ) → packages_text (s ++ t) ≡ packages_text s ++ packages_text t
unfolding packages_text
packages-append [] t = refl
packages-append (p ∷ s) t = ap (λ (l : List ℕ). field (32 ∷ []) p ++ l) (packages-append s t) ∙ sym (append_assoc (field (32 ∷ []) p) (packages_text s) (packages_text t))

pub packages-none : (s : List ℕ) → [] ≡ packages_text (take 0 s)
unfolding packages_text
packages-none s = refl

pub packages-more : (s : List ℕ) (i : ℕ) → i < length s → packages_text (take i s) ++ field (32 ∷ []) (get_or s i 0) ≡ packages_text (take (i + 1) s)
unfolding packages_text
packages-more s i h =
    sym (ap (λ (k : ℕ). packages_text (take k s)) (add-one i) ∙ ap packages_text (take-suc s i 0 h) ∙ packages-append (take i s) (get_or s i 0 ∷ [])
    ∙ ap (λ (l : List ℕ). packages_text (take i s) ++ l) (append-nil (field (32 ∷ []) (get_or s i 0))))

cost-append : (C s t : List ℕ) → cost C (s ++ t) ≡ cost C s + cost C t
unfolding cost
cost-append C [] t = omega arith
cost-append C (p ∷ s) t = rw (cost-append C s t) (omega arith)

pub cost-none : (C s : List ℕ) → 0 ≡ cost C (take 0 s)
unfolding cost
cost-none C s = refl

pub cost-more : (C s : List ℕ) (i : ℕ) → i < length s → cost C (take i s) + get_or C (get_or s i 0) 0 ≡ cost C (take (i + 1) s)
unfolding cost
cost-more C s i h =
    sym (ap (λ (k : ℕ). cost C (take k s)) (add-one i) ∙ ap (cost C) (take-suc s i 0 h) ∙ cost-append C (take i s) (get_or s i 0 ∷ []) ∙ omega arith)
