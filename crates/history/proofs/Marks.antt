-- The marks of the numbers given: laws over plain lists. Assumes nothing.
use mathlib.Core.Path.{◌≡◌, refl, sym, ap, ◌∙◌}
use mathlib.Core.Bool.{Bool, true, false, ◌&&◌, ◌||◌}
use mathlib.Core.List.{List, [], ◌∷◌}
use Prim.Native.Nat.{ℕ, ◌<◌}
use native.Mathlib.Omega.{arith}
use lib.Dec.{eqb, ltb}
use lib.ListN.{length, get_or, set, replicate, length-replicate, get_or-replicate, get_or-eq_default}
use lib.Seq.{get_or-set_same, get_or-set_other}
use borrow.Author.Tests.{ltb-true, ltb-false, eqb-true, eqb-false}
use Rattle.base.proofs.Bools.{by_test}
use Rattle.zdd.specs.Table.{count, has}
use Rattle.statement.specs.Replies.{Reply, refused, gives}
use Rattle.history.specs.Histories.{Calls, give, given}
use Rattle.history.proofs.Requests.{stop, goes}
use Rattle.history.specs.Script.{beyond, passes}
use Rattle.history.specs.Parts.{marked, noted}

-- the mark of a number, by whether it was given
abbrev pub bit : Bool → ℕ
bit true = 1
bit false = 0

-- g has a mark for each number of l, and for no other
abbrev pub Marks : List ℕ → List ℕ → Type 0
Marks g l = (x : ℕ) → get_or g x 0 ≡ bit (has x l)

pub marks_none : (n : ℕ) → Marks (replicate n 0) []
unfolding has
marks_none n x = by_test (ltb x n)
    (λ e. get_or-replicate n x 0 0 (ltb-true x n e))
    (λ e. get_or-eq_default (replicate n 0) 0 (omega (arith, length-replicate {A = ℕ} n 0, ltb-false x n e)))

pub marks_more : (g l : List ℕ) (a : ℕ) → a < length g → Marks g l → Marks (set g a 1) (a ∷ l)
unfolding has
marks_more g l a h m x = by_test (eqb x a)
    (λ e. ap (λ (j : ℕ). get_or (set g a 1) j 0) (eqb-true x a e) ∙ get_or-set_same g a 1 0 h ∙ sym (ap (λ (b : Bool). bit (b || has x l)) e))
    (λ e. get_or-set_other g a x 1 0 (eqb-false x a e) ∙ m x ∙ sym (ap (λ (b : Bool). bit (b || has x l)) e))

pub marks_give : (g l : List ℕ) (o : Reply ℕ) → ((a : ℕ) → o ≡ gives a → a < length g) → Marks g l → Marks (noted o g) (give o l)
marks_give g l (refused n) h m = m
marks_give g l (gives a) h m = marks_more g l a (h a refl) m

eqb_bit : (b : Bool) → eqb (bit b) 1 ≡ b
eqb_bit true = refl
eqb_bit false = refl

pub marked-passes : (g t : List ℕ) (h : Calls) → length g ≡ 65536 → Marks g (given h) → (x : ℕ) → marked g (count t) x ≡ passes h t x
marked-passes g t h l m x = ap (λ (b : Bool). beyond (count t) x || b) told ∙ or_swap (beyond (count t) x) (has x (given h))
  where
    marks_bit : eqb (get_or g x 0) 1 ≡ has x (given h)
    marks_bit = ap (λ (n : ℕ). eqb n 1) (m x) ∙ eqb_bit (has x (given h))

    or_swap : (a b : Bool) → (a || b) ≡ (b || a)
    or_swap true true = refl
    or_swap true false = refl
    or_swap false true = refl
    or_swap false false = refl

    told : (ltb x 65536 && eqb (get_or g x 0) 1) ≡ has x (given h)
    told = by_test (ltb x 65536)
        (λ e. sym (goes _ e refl) ∙ marks_bit)
        (λ e. sym (stop _ e) ∙ sym (ap (λ (n : ℕ). eqb n 1) (get_or-eq_default g 0 {n = x} (omega (arith, ltb-false x 65536 e)))) ∙ marks_bit)
