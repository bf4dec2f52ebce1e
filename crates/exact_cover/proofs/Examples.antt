-- Worked examples, by computation. Assumes nothing.
use mathlib.Core.Path.{◌≡◌, refl, sym, ap, ◌∙◌}
use mathlib.Core.Bool.{Bool, true, not, ◌&&◌}
use mathlib.Core.List.{List, [], ◌∷◌}
use Prim.Native.Nat.{ℕ, zero, suc, ◌<◌}
use native.Mathlib.Nat.{not-suc-le-zero, le_of_suc-le-suc}
use borrow.Author.Tests.{not-true, ltb-true}
use lib.Dec.{lit<, lit≤, ltb}
use lib.ListN.{length, get_or}
use Rattle.itemset.specs.Items.{holds, insideb, without, size}
use Rattle.itemset.specs.Words.{width}
use Rattle.zdd.specs.Table.{order, all_sets, sets, filter}
use Rattle.base.proofs.Bools.{and_left, and_right}
use Rattle.exact_cover.specs.Problem.{Problem, count_from, up_to, earliest, lead, done, Rows}
use Rattle.exact_cover.specs.Cover.{keys_from, holders, all_inside, takes, once, covers, covering, fits, down, candidates, keys_of}
use Rattle.exact_cover.specs.Recursion.{gather, solve}
use Rattle.exact_cover.specs.Steps.{each, visit, steps}
use Rattle.exact_cover.proofs.Orders.{plain-once}
use Rattle.exact_cover.proofs.Solve.{solve-covering}

abbrev five : Problem
five = record { packages = 0b010111 ∷ 0b000011 ∷ 0b101000 ∷ 0b101100 ∷ 0b010100 ∷ []; optional = 0; order = up_to 6 }

five-order : order (keys_of five) ≡ 0 ∷ 1 ∷ 3 ∷ 4 ∷ 2 ∷ []
unfolding keys_from keys_of order count_from earliest lead holds without
five-order = refl

five-covering : covering five 0b111111 ≡ (0 ∷ 2 ∷ []) ∷ (1 ∷ 4 ∷ 2 ∷ []) ∷ []
unfolding keys_from keys_of order all_sets sets holders all_inside takes once width covers filter covering count_from earliest lead holds insideb without
five-covering = refl

five-candidates : candidates five 0b111100 ≡ 4 ∷ 3 ∷ []
unfolding fits down candidates filter count_from earliest lead holds insideb without
five-candidates = refl

five-steps : steps five 64 0b111111 ≡ 6
unfolding fits down candidates filter count_from earliest lead holds insideb without size each done visit steps
five-steps = refl

five-steps-small : steps five 4 0b111111 ≡ 7
unfolding fits down candidates filter count_from earliest lead holds insideb without size each done visit steps
five-steps-small = refl

-- in the reversed order
abbrev five_back : Problem
five_back = record { packages = five.packages; optional = 0; order = 5 ∷ 4 ∷ 3 ∷ 2 ∷ 1 ∷ 0 ∷ [] }

back-order : order (keys_of five_back) ≡ 2 ∷ 3 ∷ 0 ∷ 4 ∷ 1 ∷ []
unfolding keys_from keys_of order count_from earliest lead holds without
back-order = refl

back-covering : covering five_back 0b111111 ≡ (2 ∷ 0 ∷ []) ∷ (2 ∷ 4 ∷ 1 ∷ []) ∷ []
unfolding keys_from keys_of order all_sets sets holders all_inside takes once width covers filter covering count_from earliest lead holds insideb without
back-covering = refl

abbrev none : ℕ → Problem
none m = record { packages = []; optional = 0; order = up_to m }

-- no items and no packages: one set, the empty one
none-of-none : covering (none 0) 0 ≡ [] ∷ []
unfolding keys_from keys_of order all_sets sets holders all_inside takes once width covers filter covering count_from earliest lead holds insideb without
none-of-none = refl

-- one item and no packages
none_of_one : covering (none 1) 1 ≡ []
unfolding keys_from keys_of order all_sets sets holders all_inside takes once width covers filter covering count_from earliest lead holds insideb without
none_of_one = refl

-- two packages of the same item
two_of_one : covering (record { packages = 1 ∷ 1 ∷ []; optional = 0; order = up_to 1 }) 1 ≡ (0 ∷ []) ∷ (1 ∷ []) ∷ []
unfolding keys_from keys_of order all_sets sets holders all_inside takes once width covers filter covering count_from earliest lead holds insideb without
two_of_one = refl

-- the tilings of a board of 2 by 6 with dominoes: 16 packages, more than `covering` goes through in good time
abbrev dominoes : Problem
dominoes = record { packages = 3 ∷ 5 ∷ 10 ∷ 12 ∷ 20 ∷ 40 ∷ 48 ∷ 80 ∷ 160 ∷ 192 ∷ 320 ∷ 640 ∷ 768 ∷ 1280 ∷ 2560 ∷ 3072 ∷ []; optional = 0; order = up_to 12 }

dominoes-solve : length (solve (size 4095) dominoes 4095) ≡ 13
unfolding fits down candidates filter gather done solve count_from earliest lead holds insideb without size
dominoes-solve = refl

-- each of them passes a test
every : (ℕ → Bool) → List ℕ → Bool
every f [] = true
every f (x ∷ xs) = f x && every f xs

every-at : (f : ℕ → Bool) (xs : List ℕ) → every f xs ≡ true → (p : ℕ) → p < length xs → f (get_or xs p 0) ≡ true
unfolding every
every-at f [] h p l = absurd (not-suc-le-zero l)
every-at f (x ∷ xs) h zero l = and_left (f x) (every f xs) h
every-at f (x ∷ xs) h (suc p) l = every-at f xs (and_right (f x) (every f xs) h) p (le_of_suc-le-suc l)

-- none is empty, and none has an item of 12 or above
dominoes-good : Rows dominoes
unfolding done every without width count_from
dominoes-good = record {
  some = λ p l. not-true (done dominoes (get_or dominoes.packages p 0)) (every-at (λ (x : ℕ). not (done dominoes x)) dominoes.packages refl p l);
  few = lit≤ tt;
  ordered = plain-once 12;
  narrow = lit≤ tt;
  inside = λ p l. ltb-true (get_or dominoes.packages p 0) 4096 (every-at (λ (x : ℕ). ltb x 4096) dominoes.packages refl p l);
  known = lit< tt;
}

-- so `covering` has as many, by `solve-covering`
dominoes-covering : length (covering dominoes 4095) ≡ 13
unfolding count_from
dominoes-covering =
    ap length (sym (solve-covering dominoes dominoes-good 4095 (lit< tt))) ∙ dominoes-solve

dominoes-steps : steps dominoes 64 4095 ≡ 22
unfolding fits down candidates filter count_from earliest lead holds insideb without size each done visit steps
dominoes-steps = refl
