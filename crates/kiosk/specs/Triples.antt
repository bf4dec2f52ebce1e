-- The nodes that the kiosk lends [document 01: a list of triples], as nodes of the table. Assumes nothing.
use Rattle.std.specs.Prelude.{List, map}
use Rattle.zdd.specs.Table.{Node as TableNode, node}
use Rattle.kiosk.specs.declared.Node.{Node}

-- a triple's node
abbrev pub node_in : Node → TableNode
node_in x = node x.label x.lo x.hi

-- the list's nodes, those that are all 0 included
abbrev pub nodes_in : List Node → List TableNode
nodes_in ns = map node_in ns
