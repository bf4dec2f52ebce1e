use mathlib.Core.Path.{◌≡◌, ap, subst, ◌∙◌}
use Prim.Native.Nat.{ℕ, suc, ◌+◌, ◌-◌, ◌*◌, ◌/◌, ◌%◌, ◌^◌}
use native.Mathlib.Omega.{arith}
use lib.Bits.{and_mask}
use Rattle.itemset.proofs.Places.{Shifted, shifted-more}
use Rattle.itemset.proofs.step_bits.Goals as goal

pub loop-i-preserved : goal.loop-i-preserved
loop-i-preserved c = let e : c.loop-i.i ≡ suc (c.loop-i.i - 1) = omega (arith, c.loop-i-test.true) in
    shifted-more (c.loop-i.i - 1) c.twice-s.result
    (subst (λ (n : ℕ). Shifted c.args.r c.args.w c.args.p n c.loop-i.s) e c.loop-i.invariant)
    (c.twice-s.ensures ∙ ap (λ (n : ℕ). (c.loop-i.s * 2 + n) % c.args.p) (and_mask (c.args.w / 2 ^ (c.loop-i.i - 1)) 1))
