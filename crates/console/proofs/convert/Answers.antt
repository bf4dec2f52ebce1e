use Rattle.std.proofs.Common.{arith}
use Rattle.console.proofs.Through.{through}
use Rattle.console.proofs.Turning.{turned_for}
use Rattle.console.proofs.convert.Goals as goal

pub write-requires-clause-turned_for : goal.write-requires-clause-turned_for
write-requires-clause-turned_for g c = λ e. turned_for c.read_full.new.buffer c.in_ok-n.n (omega arith) c.turn-k.ensures

pub returns : goal.returns
returns g c =
    through _ _ _ _ c.write.result _ c.in_ok-n.ensures.bytes (turned_for c.read_full.new.buffer c.in_ok-n.n (omega arith) c.turn-k.ensures) c.write.ensures
