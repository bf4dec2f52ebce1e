use Rattle.compile.proofs.PackLaws.{written-more, written_all}
use Rattle.exact_cover.specs.Positions.{positions}
use Rattle.itemset.specs.Words.{words_of}
use native.Mathlib.Omega.{arith}
use Prim.Native.Nat.{◌<◌}
use mathlib.Core.Path.{refl, ap, ◌∙◌}
use Rattle.compile.proofs.in_positions.Goals as goal

pub loop-k-preserved : goal.loop-k-preserved
loop-k-preserved c = let few : c.loop-k.k < 512 = omega (arith, c.requires.listed.few, c.number-n.ensures, c.loop-k-test.true) in
    rw c.write.ensures
    (written-more c.loop-k.k (words_of c.positions-y.result) few refl
    (c.positions-y.ensures ∙ ap (positions c.args.order.now) c.items-x.ensures) c.loop-k.invariant)

pub returns-clause-packs_after : goal.returns-clause-packs_after
returns-clause-packs_after c = written_all c.loop-k.k c.requires.listed.few (omega (arith, c.number-n.ensures, c.loop-k-test.false)) c.loop-k.invariant
