-- What the borrow checker knows of an `Items`, as the laws of Lists.antt want it: its three words are words. Assumes nothing.
use mathlib.Core.Path.{◌≡◌, refl, sym, ap, ◌∙◌}
use mathlib.Core.Bool.{Bool, true, false, ◌&&◌}
use mathlib.Core.List.{[], ◌∷◌}
use Prim.Native.Nat.{ℕ, ◌-◌, ◌<◌, ◌^◌}
use native.Mathlib.Omega.{arith}
use lib.Dec.{eqb}
use borrow.Author.Tests.{eqb-true}
use Rattle.base.proofs.Bools.{and_left, and_right}
use mir.Val.{Fits}
use mir.Syntax.{w64}
use denote.Laws.{Is}
use denote.Struct.Declared.{row}
use denote.Struct.Laws.{val}
use Rattle.itemset.specs.contracts.Items.{the_type}
use Rattle.itemset.proofs.Items.TheLaws.{the_laws}
use Rattle.itemset.specs.declared.Items.{Items}
use Rattle.itemset.specs.Items.{belowb, lowest}
use Rattle.itemset.specs.Words.{width, value_of, words_of, value}
use Rattle.itemset.proofs.Laws.{lowest_lt}
use Rattle.itemset.proofs.Lists.{Words, none, word, value_lt, Pairs, end, pair, every, same_words, below_words, value-first, value_one}

abbrev pub Known : Items → Type 0
Known x = Fits w64 x.w0 × (Fits w64 x.w1 × (Fits w64 x.w2 × Unit))

pub words : (x : Items) → Known x → Words (words_of x)
words x k = word k.0.fits (word k.1.0.fits (word k.1.1.0.fits none))

pub pairs : (x y : Items) → Known x → Known y → Pairs (words_of x) (words_of y)
pairs x y j k = pair j.0.fits k.0.fits (pair j.1.0.fits k.1.0.fits (pair j.1.1.0.fits k.1.1.0.fits end))

-- what a function is given of a parameter, `c.good`, says so too
pub known : (x : Items) → Is (row the_type) x (val the_type the_laws x ∷ []) → Known x
known x g = (record { fits = g.1.1.0.1 }, (record { fits = g.1.1.1.0.1 }, (record { fits = g.1.1.1.1.0.1 }, tt)))

-- a set has items below the width only
pub items_lt : (x : Items) → Known x → value x < 2 ^ width
unfolding width
items_lt x k = value_lt (words x k)

-- so the least of them is below it
pub lowest-below : (x : Items) → Known x → 0 < value x → {r : ℕ} → r ≡ lowest (value x) → (r ≡ lowest (value x)) × (r < width)
lowest-below x k h e = (e, rw e (lowest_lt width (value x) h (items_lt x k)))

-- the tests of three words are the test of all
and_true : (b : Bool) → b ≡ b && true
and_true true = refl
and_true false = refl

pub every_three : (f : ℕ → ℕ → Bool) (x y : Items) → f x.w0 y.w0 && (f x.w1 y.w1 && f x.w2 y.w2) ≡ every f (words_of x) (words_of y)
unfolding every
every_three f x y = ap (λ (b : Bool). f x.w0 y.w0 && (f x.w1 y.w1 && b)) (and_true (f x.w2 y.w2))

-- so a derived `==` says whether two sets are the same
pub equal_is : (x y : Items) → Known x → Known y → eqb x.w0 y.w0 && (eqb x.w1 y.w1 && eqb x.w2 y.w2) ≡ eqb (value x) (value y)
equal_is x y j k = every_three eqb x y ∙ sym (same_words (pairs x y j k))

-- a derived default is the set of no item
abbrev pub Zero : Items → Type 0
Zero e = (e.w0 ≡ 0) × ((e.w1 ≡ 0) × (e.w2 ≡ 0))

pub zero_known : (e : Items) → Zero e → Known e
zero_known e z = (record { fits = fits z.0 }, (record { fits = fits z.1.0 }, (record { fits = fits z.1.1 }, tt)))
  where
    fits : {n : ℕ} → n ≡ 0 → n < 2 ^ 64
    fits z = omega arith

pub default_is : (e : Items) → Zero e → value e ≡ 0
default_is e z = value-first e.w0 (e.w1 ∷ e.w2 ∷ []) (value-first e.w1 (e.w2 ∷ []) (value_one e.w2 ∙ z.1.1) ∙ z.1.0) ∙ z.0

-- a set whose other words have no item is its lowest word
pub no_others : (x : Items) → eqb x.w1 0 && eqb x.w2 0 ≡ true → value_of (x.w1 ∷ x.w2 ∷ []) ≡ 0
no_others x t = value-first x.w1 (x.w2 ∷ []) (value_one x.w2 ∙ eqb-true x.w2 0 second) ∙ eqb-true x.w1 0 first
  where
    first : eqb x.w1 0 ≡ true
    first = and_left (eqb x.w1 0) (eqb x.w2 0) t

    second : eqb x.w2 0 ≡ true
    second = and_right (eqb x.w1 0) (eqb x.w2 0) t

pub one_word : (x : Items) → eqb x.w1 0 && eqb x.w2 0 ≡ true → value x ≡ x.w0
one_word x t = value-first x.w0 (x.w1 ∷ x.w2 ∷ []) (no_others x t)

pub below_three : (x : Items) (m : ℕ) → belowb x.w0 m && (belowb x.w1 (m - 64) && belowb x.w2 (m - 64 - 64)) ≡ below_words (words_of x) m
unfolding below_words
below_three x m = ap (λ (b : Bool). belowb x.w0 m && (belowb x.w1 (m - 64) && b)) (and_true (belowb x.w2 (m - 64 - 64)))
