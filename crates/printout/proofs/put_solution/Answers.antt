use Rattle.printout.specs.Weeks.{problem}
use Rattle.printout.specs.Text.{refused_line}
use lib.ListN.{length-replicate}
use Rattle.printout.proofs.Sheets.{is_blank, cover-said, cover_gave}
use Rattle.printout.proofs.Putting.{adds_same}
use Rattle.statement.specs.Replies.{reply_of}
use Prim.Native.Nat.{ℕ}
use mathlib.Core.Path.{ap, ◌∙◌}
use Rattle.printout.proofs.put_solution.Goals as goal

pub put_answer-requires-clause-askable : goal.put_answer-requires-clause-askable
put_answer-requires-clause-askable c =
    let g = cover_gave _ _ (problem c.args.week.now) c.args.week.now.costs.now is_blank (length-replicate {A = ℕ} 3604 0) c.requires.m_value c.requires.t_bound
    c.all_below-d.ensures c.cover-report.ensures _ (ap reply_of c.in-Ok.is) in
    g.0 _ (c.work-2-1.given ∙ length-replicate {A = ℕ} 3604 0)

pub returns-in-Err : goal.returns-in-Err
returns-in-Err c =
    let said = cover-said _ _ (problem c.args.week.now) c.args.week.now.costs.now is_blank (length-replicate {A = ℕ} 3604 0) c.requires.m_value c.requires.t_bound
    c.all_below-d.ensures c.cover-report.ensures _ (ap reply_of c.in-Err.is) in
    adds_same (ap refused_line c.number.ensures ∙ said) c.put_refused.ensures

pub returns-in-Ok : goal.returns-in-Ok
returns-in-Ok c =
    let g = cover_gave _ _ (problem c.args.week.now) c.args.week.now.costs.now is_blank (length-replicate {A = ℕ} 3604 0) c.requires.m_value c.requires.t_bound
    c.all_below-d.ensures c.cover-report.ensures _ (ap reply_of c.in-Ok.is) in
    adds_same g.1 c.put_answer.ensures
