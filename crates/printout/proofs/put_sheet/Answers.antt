use Rattle.itemset.specs.Words.{sets_of}
use Rattle.printout.proofs.Sheets.{sheet-parts}
use Rattle.printout.proofs.Putting.{adds_then, adds_same}
use Rattle.printout.specs.Program.{timetable_lines}
use Rattle.printout.specs.Text.{head}
use Rattle.query.specs.Questions.{family_at}
use lib.ListN.{length}
use Prim.Native.Nat.{min}
use mathlib.Core.Path.{ap}
use Rattle.printout.proofs.put_sheet.Goals as goal

pub returns : goal.returns
returns c = let F = family_at c.args.table.now c.args.c.answer in
    let C = c.args.week.now.costs.now in
    adds_same (sheet-parts C F c.args.c.s c.args.c.t (length (sets_of c.args.week.now.packages.now)) c.args.c.made c.args.c.steps c.number-n.ensures c.requires.count_value)
    (adds_then (head c.args.c.s c.args.c.t c.number-n.result c.args.c.made c.args.c.steps c.args.count) c.put_head.ensures
    (adds_then (timetable_lines C F (min c.args.count 10)) (adds_same (ap (timetable_lines C F) c.min.ensures) c.put_timetables.ensures) c.put_last.ensures))
