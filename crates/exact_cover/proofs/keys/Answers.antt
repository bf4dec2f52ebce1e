use Rattle.base.proofs.Wiping.{zeros}
use Rattle.exact_cover.proofs.Lead.{open_due}
use Rattle.exact_cover.proofs.KeyLaws.{keyed_more, keyed_all}
use Rattle.exact_cover.specs.Problem.{problem_of}
use Rattle.itemset.specs.Words.{value}
use lib.ListN.{length}
use native.Mathlib.Omega.{arith}
use Prim.Native.Nat.{◌<◌}
use Rattle.exact_cover.proofs.keys.Goals as goal

pub invert-requires-clause-by_index : goal.invert-requires-clause-by_index
invert-requires-clause-by_index c = zeros 192

pub key-requires-clause-nonzero : goal.key-requires-clause-nonzero
key-requires-clause-nonzero c = let Q = problem_of c.args.packages.now (value c.args.optional) c.args.order.now in
    let l : c.loop-k.k < length Q.packages = omega (arith, c.number-k-end.ensures, c.loop-k-test.true) in
    (rw c.items-x.ensures (open_due Q _ (c.requires.rows.some c.loop-k.k l)), omega (arith, c.requires.rows.few))

pub loop-k-preserved : goal.loop-k-preserved
loop-k-preserved c = keyed_more c.loop-k.k c.key.result (omega (arith, c.requires.rows.few, c.number-k-end.ensures, c.loop-k-test.true))
    (rw c.items-x.ensures at c.key.ensures) c.loop-k.invariant

pub returns : goal.returns
returns c = keyed_all c.loop-k.k c.requires.rows (omega (arith, c.number-k-end.ensures, c.loop-k-test.false)) c.loop-k.invariant
