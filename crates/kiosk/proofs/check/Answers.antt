use Rattle.itemset.specs.Words.{value}
use Rattle.exact_cover.specs.Problem.{problem_of}
use Rattle.kiosk.proofs.Same.{check-same}
use Rattle.statement.specs.Replies.{reply_of}
use Rattle.kiosk.proofs.check.Goals as goal

pub returns : goal.returns
returns c = check-same (problem_of c.args.packages.now (value c.args.optional) c.args.order.now) c.args.m c.args.n c.args.nodes.now (reply_of c.check.result)
    (rw c.flatten.ensures at c.check.ensures)
