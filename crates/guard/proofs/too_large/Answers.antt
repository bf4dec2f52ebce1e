use Rattle.guard.proofs.GuardLaws.{many-items, few_items}
use lib.Dec.{ltb}
use native.Mathlib.Omega.{arith}
use mathlib.Core.Path.{sym, ap, ◌∙◌}
use Rattle.guard.proofs.too_large.Goals as goal

pub returns-then-m-gt192 : goal.returns-then-m-gt192
returns-then-m-gt192 c = sym (many-items c.args.m _ c.if-m-gt192.true)

pub returns : goal.returns
returns c = ap (ltb 512) c.number.ensures ∙ sym (few_items c.args.m _ (omega (arith, c.if-m-gt192.false)))
