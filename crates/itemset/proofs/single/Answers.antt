use mathlib.Core.Path.{ap, ◌∙◌}
use mathlib.Core.List.{[], ◌∷◌}
use Prim.Native.Nat.{ℕ, ◌-◌, ◌^◌, ◌<◌}
use native.Mathlib.Omega.{arith}
use Rattle.itemset.specs.Words.{value_of}
use Rattle.itemset.proofs.Laws.{shl_one}
use Rattle.itemset.proofs.Lists.{width_is, single_here, single-next}
use Rattle.itemset.proofs.single.Goals as goal

pub returns-then-i-lt64 : goal.returns-then-i-lt64
returns-then-i-lt64 c = ap (λ (w : ℕ). value_of (w ∷ 0 ∷ 0 ∷ [])) (shl_one 64 c.args.i c.if-i-lt64.true) ∙ single_here c.args.i 2

pub returns-then-i-lt128 : goal.returns-then-i-lt128
returns-then-i-lt128 c = let l : c.args.i - 64 < 64 = omega (arith, c.if-i-lt128.true) in
    ap (λ (w : ℕ). value_of (0 ∷ w ∷ 0 ∷ [])) (shl_one 64 (c.args.i - 64) l)
    ∙ single-next c.args.i (c.args.i - 64) (2 ^ (c.args.i - 64) ∷ 0 ∷ []) (omega (arith, c.if-i-lt64.false)) (single_here (c.args.i - 64) 1)

pub overflow_shl-result-2 : goal.overflow_shl-result-2
overflow_shl-result-2 c = omega (arith, width_is, c.requires)

pub returns : goal.returns
returns c = let l : c.args.i - 128 < 64 = omega (arith, width_is, c.requires) in
    ap (λ (w : ℕ). value_of (0 ∷ 0 ∷ w ∷ [])) (shl_one 64 (c.args.i - 128) l)
    ∙ single-next c.args.i (c.args.i - 64) (0 ∷ 2 ^ (c.args.i - 128) ∷ []) (omega (arith, c.if-i-lt64.false))
    (single-next (c.args.i - 64) (c.args.i - 128) (2 ^ (c.args.i - 128) ∷ []) (omega (arith, c.if-i-lt128.false)) (single_here (c.args.i - 128) 0))
