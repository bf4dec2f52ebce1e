use Rattle.table.proofs.UniqueLaws.{appends}
use Rattle.zdd.specs.Table.{node}
use Rattle.table.proofs.append.Goals as goal

pub returns : goal.returns
returns c = rw c.insert.ensures (appends (node c.args.label c.args.lo c.args.hi) c.args.h c.requires.indexed c.requires.h_value.1 c.requires.h_value.0 c.requires.room)
