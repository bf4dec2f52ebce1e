use Rattle.guard.proofs.GuardLaws.{passed_found, passed_more, passed_all}
use Rattle.statement.specs.Refusals.{nothing_compulsory}
use Rattle.exact_cover.specs.Problem.{done}
use Rattle.exact_cover.proofs.Lead.{done_is}
use native.Mathlib.Omega.{arith}
use mathlib.Core.Path.{sym, ap, ◌∙◌}
use mathlib.Core.Bool.{not}
use Rattle.guard.proofs.all_due.Goals as goal

pub returns-then-is_done : goal.returns-then-is_done
unfolding nothing_compulsory done
returns-then-is_done c order = sym (ap not (passed_found c.loop-p.p c.loop-p.invariant (omega (arith, c.number-n.ensures, c.loop-p-test.true)) c.items-x.ensures
    (sym c.is_done.ensures ∙ c.if-is_done.true)))

pub loop-p-preserved : goal.loop-p-preserved
loop-p-preserved c = passed_more c.loop-p.p c.loop-p.invariant (omega (arith, c.number-n.ensures, c.loop-p-test.true)) c.items-x.ensures (done_is _ _ ∙ sym c.is_done.ensures ∙ c.if-is_done.false)

pub returns : goal.returns
unfolding nothing_compulsory done
returns c order = sym (ap not (passed_all c.loop-p.p c.loop-p.invariant (omega (arith, c.number-n.ensures, c.loop-p-test.false))))
