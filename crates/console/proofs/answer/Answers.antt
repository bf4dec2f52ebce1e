use Rattle.std.proofs.Common.{arith}
use Rattle.printout.proofs.Prefix.{printed_for}
use Rattle.console.proofs.Through.{through}
use Rattle.console.proofs.answer.Goals as goal

pub write-requires-clause-printed_for : goal.write-requires-clause-printed_for
write-requires-clause-printed_for g c = λ e. printed_for c.read_full.new.buffer c.in_ok-n.n (omega arith) c.lines-k.ensures

pub returns : goal.returns
returns g c =
    through _ _ _ _ c.write.result _ c.in_ok-n.ensures.bytes (printed_for c.read_full.new.buffer c.in_ok-n.n (omega arith) c.lines-k.ensures) c.write.ensures
