use Rattle.query.proofs.CountWords.{told_none, told_many, told_count}
use native.Mathlib.Omega.{arith}
use Rattle.query.proofs.count.Goals as goal

pub returns-then-a-eq0-clause-told : goal.returns-then-a-eq0-clause-told
returns-then-a-eq0-clause-told c = told_none c.args.t.now c.args.a c.if-a-eq0.true

pub returns-then-c-clause-told : goal.returns-then-c-clause-told
returns-then-c-clause-told c = told_many c.args.t.now c.args.a _ (c.counts.ensures.each c.args.a (omega arith)) c.if-c.true

pub returns-clause-told : goal.returns-clause-told
returns-clause-told c = told_count c.requires.readable c.args.a _ (omega arith) c.requires.a_bound.0 (c.counts.ensures.each c.args.a (omega arith))
    (omega (arith, c.slice_known-2-1.given c.args.a))
