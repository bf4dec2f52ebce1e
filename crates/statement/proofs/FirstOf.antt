-- How a call's refusal is read off its list of tests. Assumes nothing.
use mathlib.Core.Path.{◌≡◌, refl, sym, ◌∙◌}
use mathlib.Core.Bool.{Bool, true, false}
use mathlib.Core.List.{List, [], ◌∷◌, ◌++◌}
use Prim.Native.Nat.{ℕ, zero, suc}
use native.Mathlib.Omega.{arith}
use lib.Dec.{eqb}
use borrow.Author.Tests.{eq-eqb}
use Rattle.base.proofs.Bools.{never}
use Rattle.statement.specs.Refusals.{first_of}

-- the first test fails: the others decide
pub pass : {b : Bool} (n : ℕ) (ts : List (Bool × ℕ)) → b ≡ false → first_of ((b, n) ∷ ts) ≡ first_of ts
unfolding first_of
pass {b} n ts e = rw e

-- the first test holds: its number
pub hit : {b : Bool} (n : ℕ) (ts : List (Bool × ℕ)) → b ≡ true → first_of ((b, n) ∷ ts) ≡ n
unfolding first_of
hit {b} n ts e = rw e

pub none : first_of [] ≡ 0
unfolding first_of
none = refl

-- no refusal: the first test fails, and so do the others
pub passed : (b : Bool) (n : ℕ) (ts : List (Bool × ℕ)) → first_of ((b, suc n) ∷ ts) ≡ 0 → (b ≡ false) × (first_of ts ≡ 0)
unfolding first_of
passed true n ts e = absurd (omega arith)
passed false n ts e = (refl, e)

-- behind a test, one list may be exchanged for another that decides the same where the test fails
pub exchanged : (b : Bool) (n : ℕ) (ts us : List (Bool × ℕ)) → (b ≡ false → first_of ts ≡ first_of us) → first_of ((b, n) ∷ ts) ≡ first_of ((b, n) ∷ us)
unfolding first_of
exchanged true n ts us h = refl
exchanged false n ts us h = h refl

-- a refusal that the first tests give is not changed by tests behind them
pub front : (xs ts : List (Bool × ℕ)) → (first_of xs ≡ 0 → ⊥) → first_of (xs ++ ts) ≡ first_of xs
unfolding first_of
front [] ts f = absurd (f refl)
front (x ∷ xs) ts f = go x.0 (front xs ts) f
  where
    go : (b : Bool) → ((first_of xs ≡ 0 → ⊥) → first_of (xs ++ ts) ≡ first_of xs)
        → (first_of ((b, x.1) ∷ xs) ≡ 0 → ⊥) → first_of ((b, x.1) ∷ (xs ++ ts)) ≡ first_of ((b, x.1) ∷ xs)
    go true h f = refl
    go false h f = h f

-- no test has the number 0
abbrev counts : ℕ → Type 0 → Type 0
counts zero T = ⊥
counts (suc n) T = T

abbrev pub Numbered : List (Bool × ℕ) → Type 0
Numbered [] = Unit {0}
Numbered (x ∷ xs) = counts x.1 (Numbered xs)

-- where the first tests give no refusal, those behind them decide
pub behind : (xs ts : List (Bool × ℕ)) → Numbered xs → first_of xs ≡ 0 → first_of (xs ++ ts) ≡ first_of ts
unfolding first_of
behind [] ts n e = refl
behind (x ∷ xs) ts n e = go x.0 x.1 n (behind xs ts) e
  where
    go : (b : Bool) (k : ℕ) → counts k (Numbered xs) → (Numbered xs → first_of xs ≡ 0 → first_of (xs ++ ts) ≡ first_of ts)
        → first_of ((b, k) ∷ xs) ≡ 0 → first_of ((b, k) ∷ (xs ++ ts)) ≡ first_of ts
    go b zero n h e = absurd n
    go true (suc k) n h e = absurd (omega arith)
    go false (suc k) n h e = h n e

-- n is not 0, and no test has it
abbrev differs : Bool → Type 0 → Type 0
differs true T = ⊥
differs false T = T

abbrev pub Avoids : ℕ → List (Bool × ℕ) → Type 0
Avoids n [] = counts n (Unit {0})
Avoids n (x ∷ xs) = differs (eqb x.1 n) (Avoids n xs)

-- a number that no test has is not said
pub avoided : (n : ℕ) (ts : List (Bool × ℕ)) → Avoids n ts → first_of ts ≡ n → ⊥
unfolding first_of
avoided zero [] a e = a
avoided (suc n) [] a e = omega arith
avoided n (x ∷ ts) a e = go x.0 (eqb x.1 n) refl a e (avoided n ts)
  where
    go : (b q : Bool) → eqb x.1 n ≡ q → differs q (Avoids n ts) → first_of ((b, x.1) ∷ ts) ≡ n → (Avoids n ts → first_of ts ≡ n → ⊥) → ⊥
    go b true p a e ih = a
    go true false p a e ih = never (eq-eqb x.1 n e) p
    go false false p a e ih = ih a e

-- a refusal whose number one test alone has: no test before that one holds, and it does
pub only-there : (xs ts : List (Bool × ℕ)) (n : ℕ) {b : Bool} → Numbered xs → Avoids n xs → Avoids n ts → first_of (xs ++ ((b, n) ∷ ts)) ≡ n
    → (first_of xs ≡ 0) × (b ≡ true)
unfolding first_of
only-there xs ts n {b} m a c e = go (first_of xs) refl b e
  where
    go : (k : ℕ) → first_of xs ≡ k → (b : Bool) → first_of (xs ++ ((b, n) ∷ ts)) ≡ n → (first_of xs ≡ 0) × (b ≡ true)
    go zero p true e = (p, refl)
    go zero p false e = absurd (avoided n ts c (sym (behind xs ((false, n) ∷ ts) m p) ∙ e))
    go (suc k) p b e = absurd (avoided n xs a (sym (front xs ((b, n) ∷ ts) (λ z. omega (arith, p, z))) ∙ e))

-- a refusal that none of the tests behind says is that of the tests in front, whatever is behind them
pub said_in_front : (xs ts us : List (Bool × ℕ)) {n : ℕ} → Numbered xs → first_of (xs ++ ts) ≡ n → (first_of ts ≡ n → ⊥) → first_of (xs ++ us) ≡ n
said_in_front xs ts us {n} c e f = go (first_of xs) refl
  where
    go : (k : ℕ) → first_of xs ≡ k → first_of (xs ++ us) ≡ n
    go zero z = absurd (f (sym (behind xs ts c z) ∙ e))
    go (suc k) z = let g : first_of xs ≡ 0 → ⊥ = λ y. omega (arith, y, z) in front xs us g ∙ sym (front xs ts g) ∙ e

-- two tests say no other number than theirs
pub neither : (b c : Bool) {i j n : ℕ} → (n ≡ 0 → ⊥) → (n ≡ i → ⊥) → (n ≡ j → ⊥) → first_of ((b, i) ∷ (c, j) ∷ []) ≡ n → ⊥
unfolding first_of
neither true c f g h e = g (sym e)
neither false true f g h e = h (sym e)
neither false false f g h e = f (sym e)
