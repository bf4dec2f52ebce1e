use Rattle.exact_cover.proofs.Shortening.{moved_start, moved_room, moved_gone, moved_kept, moved_all}
use Rattle.itemset.specs.Words.{words_of}
use native.Mathlib.Omega.{arith}
use mathlib.Core.Path.{refl, sym, ◌∙◌}
use Rattle.exact_cover.proofs.shorten.Goals as goal

pub loop-p-init : goal.loop-p-init
loop-p-init c = moved_start c.args.packages.now c.args.gone.now

pub loop-p-preserved-then-is_next : goal.loop-p-preserved-then-is_next
loop-p-preserved-then-is_next c = moved_gone (omega (arith, c.number-p-end.ensures, c.loop-p-test.true)) c.loop-p.invariant (sym c.is_next.ensures ∙ c.if-is_next.true)

pub read-x-requires : goal.read-x-requires
read-x-requires c = omega (arith, c.loop-p.invariant.fewer, moved_room (omega (arith, c.number-p-end.ensures, c.loop-p-test.true)) c.loop-p.invariant)

pub write-requires : goal.write-requires
write-requires c = omega (arith, c.loop-p.invariant.fewer, moved_room (omega (arith, c.number-p-end.ensures, c.loop-p-test.true)) c.loop-p.invariant)

pub loop-p-preserved : goal.loop-p-preserved
loop-p-preserved c = rw c.write.ensures
    (moved_kept (omega (arith, c.number-p-end.ensures, c.loop-p-test.true)) c.loop-p.invariant (words_of c.read-x.result) refl c.read-x.ensures (sym c.is_next.ensures ∙ c.if-is_next.false))

pub returns : goal.returns
returns c = moved_all (omega (arith, c.number-p-end.ensures, c.loop-p-test.false)) c.loop-p.invariant
