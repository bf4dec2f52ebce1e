use mathlib.Core.Path.{◌≡◌, ap, ◌∙◌}
use mathlib.Core.Bool.{◌&&◌}
use mathlib.Core.List.{List}
use Prim.Native.Nat.{ℕ, ◌+◌, ◌*◌, ◌<◌, ◌^◌}
use native.Mathlib.Omega.{arith}
use lib.Dec.{eqb}
use Rattle.itemset.specs.declared.Items.{Items}
use Rattle.itemset.specs.Words.{value}
use Rattle.itemset.proofs.Three.{Known, known, equal_is}
use Rattle.memo.specs.Memo.{key_at}
use Rattle.memo.proofs.Storing.{key_low, key_all}
use Rattle.memo.proofs.is_key.Goals as goal

-- words that are a set are known to be one
three : (key : Items) → key.w0 < 2 ^ 64 → key.w1 < 2 ^ 64 → key.w2 < 2 ^ 64 → Known key
three key a b d = (record { fits = a }, (record { fits = b }, (record { fits = d }, tt)))

-- a set that is the place's key, against x
against : (P : ℕ) (memo : List ℕ) (at : ℕ) (key x : Items) → value key ≡ key_at P memo at → Known key → Known x
    → eqb key.w0 x.w0 && (eqb key.w1 x.w1 && eqb key.w2 x.w2) ≡ eqb (key_at P memo at) (value x)
against P memo at key x e j k = equal_is key x j k ∙ ap (λ (n : ℕ). eqb n (value x)) e

pub returns-then-tag-lt4294967296 : goal.returns-then-tag-lt4294967296
returns-then-tag-lt4294967296 c = let w = c.type_inv.memo in let P = c.args.places in
    c.eq.ensures ∙ against P c.args.memo.now c.args.at _ c.args.x (key_low P c.args.memo.now c.args.at c.if-tag-lt4294967296.true)
    (three _ (w (2 * c.args.at)).fits (omega arith) (omega arith)) (known c.args.x c.well_formed.1.1.1.0)

pub returns : goal.returns
returns c = let w = c.type_inv.memo in let P = c.args.places in let high = 2 * P + 2 * c.args.at in
    c.eq-2.ensures ∙ against P c.args.memo.now c.args.at _ c.args.x (key_all P c.args.memo.now c.args.at c.requires.places_in_bounds c.requires.at_lt_places c.if-tag-lt4294967296.false)
    (three _ (w (2 * c.args.at)).fits (w high).fits (w (high + 1)).fits) (known c.args.x c.well_formed.1.1.1.0)
