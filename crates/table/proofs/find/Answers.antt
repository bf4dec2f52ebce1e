use Rattle.table.proofs.Walk.{start, step}
use Rattle.zdd.specs.Table.{node}
use native.Mathlib.Omega.{arith}
use Rattle.table.proofs.find.Goals as goal

pub loop-k-init : goal.loop-k-init
loop-k-init c = start (node c.args.label c.args.lo c.args.hi) c.args.h c.requires.indexed_to c.requires.h_value.0 c.requires.h_value.1

pub loop-k-preserved : goal.loop-k-preserved
loop-k-preserved c = step (node c.args.label c.args.lo c.args.hi) c.loop-k.k c.requires.indexed_to c.loop-k.invariant (omega arith) (c.is_node.ensures.no c.if-is_node.false)
