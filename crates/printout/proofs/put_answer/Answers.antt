use Rattle.printout.proofs.Sheets.{count-said, count_gave}
use Rattle.printout.proofs.Putting.{adds_same}
use Rattle.printout.specs.Text.{refused_line}
use Rattle.statement.specs.Replies.{reply_of}
use mathlib.Core.Path.{ap, ◌∙◌}
use Rattle.printout.proofs.put_answer.Goals as goal

pub returns-in-Err : goal.returns-in-Err
returns-in-Err c = adds_same (ap refused_line c.number.ensures ∙ count-said c.requires.askable c.count-counted.ensures _ _ _ _ _ _ (ap reply_of c.in-Err.is))
    c.put_refused.ensures

pub returns-in-Ok : goal.returns-in-Ok
returns-in-Ok c = adds_same (count_gave c.requires.askable c.count-counted.ensures _ _ _ _ _ _ (ap reply_of c.in-Ok.is)) c.put_sheet.ensures
