use Rattle.printout.proofs.Putting.{adds_none, adds_then, adds_same, packages-none, packages-more}
use Rattle.printout.specs.Text.{packages_text}
use lib.ListN.{take}
use Rattle.printout.proofs.Writer.put_packages.Goals as goal

pub loop-p-init : goal.loop-p-init
loop-p-init c = adds_same (packages-none c.args.list.now) (adds_none c.args.self.now)

pub loop-p-preserved : goal.loop-p-preserved
loop-p-preserved c = adds_same (packages-more c.args.list.now c.loop-p.p-index c.loop-p-test.true)
    (adds_then (packages_text (take c.loop-p.p-index c.args.list.now)) c.loop-p.invariant c.put_field.ensures)
