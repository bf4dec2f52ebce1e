use Rattle.printout.proofs.Putting.{decimal-put}
use Rattle.printout.proofs.Writer.put_decimal.Goals as goal

pub returns : goal.returns
returns c = decimal-put c.args.x c.ranges.x.fits c.put_digits.ensures
