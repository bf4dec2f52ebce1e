-- What each test of `specs/Refusals.antt` says where the facts are known, and what a call replies whose refusal is known. Assumes nothing.
use mathlib.Core.Path.{◌≡◌, refl, sym, ap, ap₂, ◌∙◌}
use mathlib.Core.Bool.{Bool, true, false, not, ◌||◌}
use mathlib.Core.List.{List, [], ◌∷◌, ◌++◌}
use Prim.Native.Nat.{ℕ, zero, suc, ◌+◌, ◌≤◌, ◌<◌}
use native.Mathlib.Nat.{not-suc-le-zero, le_of_suc-le-suc}
use native.Mathlib.Omega.{arith}
use lib.Dec.{ltb}
use lib.ListN.{length, get_or, take, drop}
use lib.Seq.{take_at, drop_at}
use borrow.Author.Tests.{ltb-false, lt-ltb, le-ltb, le-leb, lt-leb, eq-eqb, ne_eqb}
use Rattle.base.specs.Lists.{any}
use Rattle.base.proofs.Bools.{or_neither}
use Rattle.itemset.specs.Words.{width}
use Rattle.zdd.specs.Table.{Family, count}
use Rattle.exact_cover.specs.Problem.{Problem}
use Rattle.exact_cover.specs.Cover.{keys_of}
use Rattle.exact_cover.proofs.Order.{length-keys}
use Rattle.query.specs.Questions.{unknown_package, ascending, in_precedence}
use Rattle.query.proofs.Precede.{unknown-length}
use Rattle.statement.specs.Replies.{refused, gives, reply}
use Rattle.statement.specs.Postconditions.{written}
use Rattle.statement.specs.Refusals.{oversize, unpriced, unknown_answer, not_timetable, short_work, uncountable, past_end, nothing, short_page}

-- ---- replies

-- the refusal is n, and n is said
pub reply-refused : {A : Type 0} {k : ℕ} (n : ℕ) (v : A) → k ≡ n → (n ≡ 0 → ⊥) → refused n ≡ reply k v
reply-refused zero v e f = absurd (f refl)
reply-refused (suc n) v e f = sym (ap (λ (i : ℕ). reply i v) e)

-- there is none, and the values are given
pub reply_gives : {A : Type 0} {k : ℕ} (v : A) → k ≡ 0 → gives v ≡ reply k v
reply_gives v e = sym (ap (λ (i : ℕ). reply i v) e)

-- back: a reply that gives x is no refusal, and x is its value
pub was_given : {A : Type 0} (x : A) (k : ℕ) (v : A) → gives x ≡ reply k v → (k ≡ 0) × (x ≡ v)
was_given x zero v e = (refl, cc)
was_given x (suc k) v e = absurd (let z : ◌≡◌ {A = ℕ} 0 1 = cc in omega arith)

-- and one that says n is the refusal n
pub was_refused : {A : Type 0} (n k : ℕ) (v : A) → refused n ≡ reply k v → (k ≡ n) × (n ≡ 0 → ⊥)
was_refused n zero v e = absurd (let z : ◌≡◌ {A = ℕ} 0 1 = cc in omega arith)
was_refused n (suc k) v e = let q : n ≡ suc k = cc in (sym q, λ z. omega arith)

-- a refused call leaves the page alone
pub page_left : {k : ℕ} (n : ℕ) (s page : List ℕ) → k ≡ n → (n ≡ 0 → ⊥) → page ≡ written k s page
page_left zero s page e f = absurd (f refl)
page_left (suc n) s page e f = sym (ap (λ (i : ℕ). written i s page) e)

-- one that is not writes to its start
pub page_written : {k : ℕ} (s page : List ℕ) → k ≡ 0 → s ++ drop (length s) page ≡ written k s page
page_written s page e = sym (ap (λ (i : ℕ). written i s page) e)

-- so that, c packages long, it stands there, with the rest behind it
pub page_holds : {k c : ℕ} (s page : List ℕ) {page' : List ℕ} → k ≡ 0 → c ≡ length s → page' ≡ written k s page
    → (take c page' ≡ s) × (drop c page' ≡ drop c page)
page_holds {c = c} s page e n p =
    let q = p ∙ sym (page_written s page e) in
    let r : List ℕ = drop (length s) page in
    (ap (take c) q ∙ take_at s r c (sym n), ap (drop c) q ∙ drop_at s r c (sym n) ∙ ap (λ (i : ℕ). drop i page) (sym n))

-- ---- 1

pub within_limits : (m : ℕ) (packages : List ℕ) → oversize m packages ≡ false → (m ≤ width) × (length packages ≤ 512)
unfolding oversize
within_limits m packages e =
    let b = or_neither (ltb width m) (ltb 512 (length packages)) e in (ltb-false width m b.0, ltb-false 512 (length packages) b.1)

-- ---- 2, 30: some package passes a test

module _ (f : ℕ → Bool) where
  -- where none does, package p does not
  pub package_passes : (xs : List ℕ) → any f xs ≡ false → (p : ℕ) → p < length xs → f (get_or xs p 0) ≡ false
  unfolding any
  package_passes [] e p l = absurd (not-suc-le-zero l)
  package_passes (x ∷ xs) e zero l = (or_neither (f x) (any f xs) e).0
  package_passes (x ∷ xs) e (suc p) l = package_passes xs (or_neither (f x) (any f xs) e).1 p (le_of_suc-le-suc l)

  -- and back, package by package
  pub none_of : (xs : List ℕ) → ((p : ℕ) → p < length xs → f (get_or xs p 0) ≡ false) → any f xs ≡ false
  unfolding any
  none_of [] h = refl
  none_of (x ∷ xs) h = ap₂ ◌||◌ (h 0 (omega arith)) (none_of xs (λ p l. h (suc p) (omega arith)))

  -- nor does any pass a test that asks more
  pub none_stricter : (g : ℕ → Bool) → ((x : ℕ) → f x ≡ false → g x ≡ false) → (xs : List ℕ) → any f xs ≡ false → any g xs ≡ false
  unfolding any
  none_stricter g h [] e = refl
  none_stricter g h (x ∷ xs) e = let b = or_neither (f x) (any f xs) e in ap₂ ◌||◌ (h x b.0) (none_stricter g h xs b.1)

-- ---- 3

pub all-priced : (Q : Problem) (C : List ℕ) → length C ≡ length Q.packages → unpriced Q C ≡ false
unfolding unpriced
all-priced Q C e = ap not (eq-eqb (length C) (length Q.packages) e)

pub not-priced : (Q : Problem) (C : List ℕ) → (length C ≡ length Q.packages → ⊥) → unpriced Q C ≡ true
unfolding unpriced
not-priced Q C f = ap not (ne_eqb (length C) (length Q.packages) f)

-- ---- 5

pub answer-known : (t : List ℕ) (a : ℕ) → a < count t + 2 → unknown_answer t a ≡ false
unfolding unknown_answer
answer-known t a h = lt-leb (count t + 2) a h

pub answer-unknown : (t : List ℕ) (a : ℕ) → count t + 2 ≤ a → unknown_answer t a ≡ true
unfolding unknown_answer
answer-unknown t a h = le-leb (count t + 2) a h

-- ---- 6

pub package_known : (S : List ℕ) (p : ℕ) → p < length S → unknown_package S p ≡ false
unfolding unknown_package
package_known S p h = lt-leb (length S) p h

pub package_unknown : (S : List ℕ) (p : ℕ) → length S ≤ p → unknown_package S p ≡ true
unfolding unknown_package
package_unknown S p h = le-leb (length S) p h

-- ---- 8

pub enough : (least words : ℕ) → least ≤ words → short_work least words ≡ false
unfolding short_work
enough least words h = le-ltb words least h

pub too_few : (least words : ℕ) → words < least → short_work least words ≡ true
unfolding short_work
too_few least words h = lt-ltb words least h

-- ---- 11, 12, 13, 15

pub countable : (F : Family) → length F ≤ 18446744073709551615 → uncountable F ≡ false
unfolding uncountable
countable F h = le-ltb 18446744073709551615 (length F) h

pub too_many : (F : Family) → 18446744073709551615 < length F → uncountable F ≡ true
unfolding uncountable
too_many F h = lt-ltb 18446744073709551615 (length F) h

pub is_past : (F : Family) (k : ℕ) → length F ≤ k → past_end F k ≡ true
unfolding past_end
is_past F k h = le-leb (length F) k h

pub not_past : (F : Family) (k : ℕ) → k < length F → past_end F k ≡ false
unfolding past_end
not_past F k h = lt-leb (length F) k h

pub something : (a : ℕ) → (a ≡ 0 → ⊥) → nothing a ≡ false
unfolding nothing
something a f = ne_eqb a 0 f

pub is_nothing : (a : ℕ) → a ≡ 0 → nothing a ≡ true
unfolding nothing
is_nothing a e = eq-eqb a 0 e

pub page_fits : (page s : List ℕ) → length s ≤ length page → short_page page s ≡ false
unfolding short_page
page_fits page s h = le-ltb (length page) (length s) h

pub page_short : (page s : List ℕ) → length page < length s → short_page page s ≡ true
unfolding short_page
page_short page s h = lt-ltb (length page) (length s) h

-- 6 of a list: it is not in precedence
pub listed_test : (Q : Problem) (s : List ℕ) → in_precedence (keys_of Q) s ≡ not (not_timetable Q s)
unfolding not_timetable in_precedence
listed_test Q s = ap (λ (b : Bool). not (b || not (ascending (keys_of Q) s))) (sym (unknown-length Q.packages (keys_of Q) s (sym (length-keys Q))))
