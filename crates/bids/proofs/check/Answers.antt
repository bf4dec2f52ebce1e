use Rattle.bids.proofs.Laws.{fnv-none, fnv-more}
use Prim.Native.Nat.{◌<◌}
use lib.Seq.{get_or-take, length-take-le}
use mathlib.Core.Path.{sym}
use native.Mathlib.Omega.{arith}
use Rattle.bids.proofs.check.Goals as goal

pub loop-byte-init : goal.loop-byte-init
loop-byte-init c = fnv-none c.args.file.now

pub loop-byte-preserved : goal.loop-byte-preserved
loop-byte-preserved c =
    let b = c.args.file.now in
    let i = c.loop-byte.byte-index in
    let l : i < c.args.n = omega (arith, length-take-le c.args.n b c.requires) in
    rw (c.loop-byte.invariant, get_or-take c.args.n b i 0 l) (sym (fnv-more b i (omega arith)))
