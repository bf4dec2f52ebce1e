use Rattle.printout.proofs.Putting.{adds_same, last_digit, digits_put}
use Rattle.printout.proofs.Writer.+put_digits.Goals as goal

pub returns-then-x-lt10 : goal.returns-then-x-lt10
returns-then-x-lt10 t c = λ d h. adds_same (last_digit d c.args.x c.if-x-lt10.true) c.put.ensures

pub returns : goal.returns
returns t c = digits_put c.args.x c.if-x-lt10.false c.put_digits.ensures c.put-2.ensures
