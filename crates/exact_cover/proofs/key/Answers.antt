use Rattle.exact_cover.proofs.PositionLaws.{positions-some, earliest-lowest}
use Rattle.exact_cover.specs.Positions.{positions}
use Rattle.itemset.proofs.Laws.{without_lt}
use Rattle.itemset.proofs.Lists.{width_is}
use Rattle.itemset.specs.Items.{without, lowest}
use Rattle.itemset.specs.Words.{value}
use lib.ListN.{length}
use native.Mathlib.Omega.{arith}
use Prim.Native.Nat.{ℕ, ◌+◌, ◌*◌, ◌^◌, ◌<◌}
use mathlib.Core.List.{List}
use mathlib.Core.Bool.{true}
use mathlib.Core.Path.{◌≡◌, sym, ap, ◌∙◌}
use Rattle.exact_cover.specs.Problem.{each_once}
use Rattle.exact_cover.proofs.key.Goals as goal

-- the compulsory items have a position
due_some : (order : List ℕ) → each_once (length order) order ≡ true → (A D : ℕ) → A < 2 ^ length order → 0 < without A D → 0 < positions order (without A D)
due_some order once A D h some = positions-some order once (without A D) (without_lt (length order) D h) some

pub positions-at-requires-clause-x_bound : goal.positions-at-requires-clause-x_bound
positions-at-requires-clause-x_bound c = rw c.without-due.ensures (without_lt (length c.args.order.now) (value c.args.optional) c.requires.bound)

pub lowest-requires : goal.lowest-requires
lowest-requires c =
    omega (
      arith,
      c.positions-at.ensures,
      ap (positions c.args.order.now) c.without-due.ensures,
      c.without-due.ensures,
      c.requires.nonzero.0,
      due_some c.args.order.now c.requires.located.once (value c.args.items) (value c.args.optional) c.requires.bound c.requires.nonzero.0,
    )

pub overflow_mul-result : goal.overflow_mul-result
overflow_mul-result c = omega (arith, width_is, c.lowest.ensures.upper_bound)

pub overflow_add-result : goal.overflow_add-result
overflow_add-result c = omega (arith, width_is, c.lowest.ensures.upper_bound, c.requires.nonzero.1)

pub returns : goal.returns
returns c = let order = c.args.order.now in
    let some = due_some order c.requires.located.once (value c.args.items) (value c.args.optional) c.requires.bound c.requires.nonzero.0 in
    ap (λ (i : ℕ). i * 512 + c.args.number)
    (c.lowest.ensures.value ∙ ap lowest (c.positions-at.ensures ∙ ap (positions order) c.without-due.ensures) ∙ sym (earliest-lowest order _ some))
