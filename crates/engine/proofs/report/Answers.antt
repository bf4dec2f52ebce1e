use Rattle.engine.proofs.report.Goals as goal

pub returns-in-None : goal.returns-in-None
returns-in-None c = rw c.in-None.is (c.declined.ensures c.args.t.now)
