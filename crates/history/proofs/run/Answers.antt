use Rattle.statement.specs.Replies.{report_of}
use Rattle.history.specs.Script.{call_at}
use Rattle.history.proofs.Contract.{answer-below}
use Rattle.history.proofs.Requests.{may_run}
use Rattle.history.proofs.Running.{running_start, running_next, ran}
use lib.ListN.{length, length-replicate}
use native.Mathlib.Omega.{arith}
use mathlib.Core.Path.{refl, sym, ap, ◌∙◌}
use Rattle.itemset.specs.Words.{value}
use Rattle.exact_cover.specs.Problem.{problem_of}
use Rattle.history.proofs.run.Goals as goal

pub loop-optional-init : goal.loop-optional-init
loop-optional-init c = (
  running_start _ _ _ _ _ _ (length c.args.t.now) 65536 refl c.mark_first.ensures
      c.clear.ensures,
  refl,
)

pub call-r-requires-clause-i_in_bounds : goal.call-r-requires-clause-i_in_bounds
call-r-requires-clause-i_in_bounds c = let k = may_run _ _ _ _ _ (sym c.ready.ensures ∙ c.loop-optional-test.true) in k.there

pub call-r-requires-clause-i_value : goal.call-r-requires-clause-i_value
call-r-requires-clause-i_value c = let k = may_run _ _ _ _ _ (sym c.ready.ensures ∙ c.loop-optional-test.true) in rw c.loop-optional.invariant.1 k.fit

pub store-requires : goal.store-requires
store-requires c = let k = may_run _ _ _ _ _ (sym c.ready.ensures ∙
    c.loop-optional-test.true) in rw c.loop-optional.invariant.0.wide k.placed

pub mark-requires : goal.mark-requires
mark-requires c = answer-below (problem_of c.args.packages.now (value c.args.optional) c.args.order.now) c.loop-optional.t
    (call_at c.args.script.now c.loop-optional.i) (report_of c.call-r.result) c.call-r.new.t c.call-r.ensures

pub loop-optional-smaller : goal.loop-optional-smaller
loop-optional-smaller c = let k = may_run _ _ _ _ _ (sym c.ready.ensures ∙ c.loop-optional-test.true) in omega (arith, k.placed)

pub loop-optional-preserved : goal.loop-optional-preserved
loop-optional-preserved c = (
  running_next c.loop-optional.invariant.0 (sym c.ready.ensures ∙ c.loop-optional-test.true) c.call-r.ensures c.store.ensures c.mark.ensures,
  c.call-r.auto.work ∙ c.loop-optional.invariant.1,
)

pub returns : goal.returns
returns c = ran c.loop-optional.invariant.0 _ (ap length c.clear.ensures ∙ length-replicate _ _)
    (sym c.ready.ensures ∙ c.loop-optional-test.false)
