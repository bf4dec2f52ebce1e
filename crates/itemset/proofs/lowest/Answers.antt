use mathlib.Core.Path.{◌≡◌}
use mathlib.Core.List.{[], ◌∷◌}
use Prim.Native.Nat.{◌+◌, ◌<◌}
use native.Mathlib.Omega.{arith}
use lib.Count.{count_trailing_zeros}
use Rattle.itemset.specs.declared.Items.{Items}
use Rattle.itemset.specs.Items.{lowest}
use Rattle.itemset.specs.Words.{value}
use Rattle.itemset.proofs.Laws.{lowest_trailing}
use Rattle.itemset.proofs.Lists.{value-next, value_one, lowest_words, lowest_words_lem, lowest_here, lowest-next}
use Rattle.itemset.proofs.Three.{Known, words, known, lowest-below}
use Rattle.itemset.proofs.lowest.Goals as goal

-- the lowest item by the first word that has one
module _ (x : Items) (k : Known x) (h : 0 < value x) where
  split : lowest (value x) ≡ lowest_words (x.w0 ∷ x.w1 ∷ x.w2 ∷ [])
  split = lowest_words_lem (words x k) h

  in_first : 0 < x.w0 → count_trailing_zeros 64 x.w0 ≡ lowest (value x)
  in_first l = omega (arith, split, lowest_trailing 64 x.w0 l k.0.fits, lowest_here x.w0 (x.w1 ∷ x.w2 ∷ []) l)

  in_second : x.w0 ≡ 0 → 0 < x.w1 → 64 + count_trailing_zeros 64 x.w1 ≡ lowest (value x)
  in_second e l =
      omega (arith, split, lowest_trailing 64 x.w1 l k.1.0.fits, lowest-next x.w0 (x.w1 ∷ x.w2 ∷ []) e, lowest_here x.w1 (x.w2 ∷ []) l)

  in_third : x.w0 ≡ 0 → x.w1 ≡ 0 → 128 + count_trailing_zeros 64 x.w2 ≡ lowest (value x)
  in_third e f =
      omega (arith, split, lowest_trailing 64 x.w2 l k.1.1.0.fits, lowest-next x.w0 (x.w1 ∷ x.w2 ∷ []) e, lowest-next x.w1 (x.w2 ∷ []) f, lowest_here x.w2 [] l)
    where
      l : 0 < x.w2
      l = omega (arith, value_one x.w2, value-next x.w1 (x.w2 ∷ []) f (value-next x.w0 (x.w1 ∷ x.w2 ∷ []) e h))

pub returns-then-x-ne0 : goal.returns-then-x-ne0
returns-then-x-ne0 c = let k = known c.args.x c.well_formed.0 in
    let r = lowest-below c.args.x k c.requires (in_first c.args.x k c.requires (omega (arith, c.if-x-ne0.true))) in record { value = r.0; upper_bound = r.1 }

pub returns-then-x-ne0-2 : goal.returns-then-x-ne0-2
returns-then-x-ne0-2 c = let k = known c.args.x c.well_formed.0 in
    let r = lowest-below c.args.x k c.requires (in_second c.args.x k c.requires c.if-x-ne0.false (omega (arith, c.if-x-ne0-2.true))) in record { value = r.0; upper_bound = r.1 }

pub returns : goal.returns
returns c = let k = known c.args.x c.well_formed.0 in
    let r = lowest-below c.args.x k c.requires (in_third c.args.x k c.requires c.if-x-ne0.false c.if-x-ne0-2.false) in record { value = r.0; upper_bound = r.1 }
