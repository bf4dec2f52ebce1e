use Rattle.history.proofs.Requests.{no_operand, first_fails, with_package, without_package, then_second}
use mathlib.Core.Path.{sym, ◌∙◌}
use Rattle.history.proofs.operands_pass.Goals as goal

pub returns-then-q-eq0 : goal.returns-then-q-eq0
returns-then-q-eq0 c = no_operand _ c.args.q c.if-q-eq0.true

pub returns-then-not-passes : goal.returns-then-not-passes
returns-then-not-passes c = first_fails _ c.args.q c.if-q-eq0.false (sym c.passes.ensures ∙ c.if-not-passes.true)

pub returns-then-q-eq4 : goal.returns-then-q-eq4
returns-then-q-eq4 c = with_package _ c.args.q c.if-q-eq0.false (sym c.passes.ensures ∙ c.if-not-passes.false) c.if-q-eq4.true

pub returns-then-q-eq5 : goal.returns-then-q-eq5
returns-then-q-eq5 c = without_package _ c.args.q c.if-q-eq0.false (sym c.passes.ensures ∙ c.if-not-passes.false) c.if-q-eq5.true

pub returns : goal.returns
returns c = c.passes-2.ensures ∙ then_second _ c.args.q c.if-q-eq0.false
    (sym c.passes.ensures ∙ c.if-not-passes.false) c.if-q-eq4.false c.if-q-eq5.false
