use Rattle.printout.specs.Written.{Adds}
use Rattle.printout.specs.Text.{packages_text}
use lib.ListN.{take}
use Rattle.printout.proofs.Writer.put_packages.Given as goal

abbrev pub invariant-loop-p : goal.invariant-loop-p
invariant-loop-p l = Adds l.initial.self l.self (packages_text (take l.p-index l.list))
