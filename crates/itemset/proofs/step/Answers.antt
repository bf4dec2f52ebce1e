use Rattle.itemset.proofs.Places.{digits}
use Rattle.itemset.proofs.step.Goals as goal

pub returns-then-p-le4294967296 : goal.returns-then-p-le4294967296
returns-then-p-le4294967296 c = digits c.args.r c.args.w c.args.p
