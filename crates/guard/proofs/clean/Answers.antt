use Rattle.guard.proofs.GuardLaws.{passed_found, passed_more, passed_all}
use Rattle.statement.specs.Refusals.{stray}
use Rattle.itemset.specs.Words.{value}
use Rattle.itemset.specs.Items.{belowb}
use lib.Dec.{eqb}
use native.Mathlib.Omega.{arith}
use mathlib.Core.Path.{sym, ap, ap₂, ◌∙◌}
use mathlib.Core.Bool.{not, ◌||◌}
use Rattle.base.proofs.Bools.{or_left, or_right}
use Rattle.guard.proofs.clean.Goals as goal

pub returns-then-is_empty : goal.returns-then-is_empty
unfolding stray
returns-then-is_empty c = let x = value c.items-x.result in
    let e = or_left (eqb x 0) (not (belowb x c.args.m)) (sym c.is_empty.ensures ∙ c.if-is_empty.true) in
    sym (ap not (passed_found c.loop-k.k c.loop-k.invariant (omega (arith, c.number-n.ensures, c.loop-k-test.true)) c.items-x.ensures e))

pub returns-then-not-below : goal.returns-then-not-below
unfolding stray
returns-then-not-below c = let x = value c.items-x.result in
    let e = or_right (eqb x 0) (not (belowb x _)) (ap not (sym c.below.ensures ∙ c.if-not-below.true)) in
    sym (ap not (passed_found c.loop-k.k c.loop-k.invariant (omega (arith, c.number-n.ensures, c.loop-k-test.true)) c.items-x.ensures e))

pub loop-k-preserved : goal.loop-k-preserved
loop-k-preserved c = let e = ap₂ ◌||◌ (sym c.is_empty.ensures ∙ c.if-is_empty.false) (ap not (sym c.below.ensures ∙ c.if-not-below.false)) in
    passed_more c.loop-k.k c.loop-k.invariant (omega (arith, c.number-n.ensures, c.loop-k-test.true)) c.items-x.ensures e

pub returns : goal.returns
unfolding stray
returns c = sym (ap not (passed_all c.loop-k.k c.loop-k.invariant (omega (arith, c.number-n.ensures, c.loop-k-test.false))))
