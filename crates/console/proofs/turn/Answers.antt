use mathlib.Core.Path.{ap, ◌∙◌, sym}
use native.Mathlib.Omega.{arith}
use Rattle.statement.specs.Replies.{reply_of, refused}
use Rattle.printout.proofs.Sheets.{from_start}
use Rattle.console.proofs.Turning.{turned-said, turned_gave}
use Rattle.console.proofs.turn.Goals as goal

pub returns-in-Ok : goal.returns-in-Ok
returns-in-Ok c = turned_gave (omega arith) c.turn-turned.ensures (ap reply_of c.in-Ok.is) (omega arith)

pub returns-in-Err : goal.returns-in-Err
returns-in-Err c = turned-said (omega arith) c.turn-turned.ensures (ap reply_of c.in-Err.is ∙ ap refused (sym c.number.ensures)) (omega arith) (from_start c.put_refused.ensures)
