use native.Mathlib.Omega.{arith}
use Rattle.family.proofs.MemoryLaws.{noted-store}
use Rattle.family.proofs.remember.Goals as goal

pub returns : goal.returns
returns c = noted-store c.args.memo.now c.args.at c.args.pair c.args.r c.requires (omega (arith, c.if-r-ge65535.false))
    c.replace.ensures
