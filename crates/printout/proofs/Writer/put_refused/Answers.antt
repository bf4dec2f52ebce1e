use Rattle.printout.proofs.Putting.{adds_then}
use Rattle.printout.specs.Text.{refused_line, field, refused_word}
use Rattle.printout.proofs.Writer.put_refused.Goals as goal

pub returns : goal.returns
unfolding refused_line
returns c = adds_then (field refused_word c.args.number)
    c.put_field.ensures c.put.ensures
