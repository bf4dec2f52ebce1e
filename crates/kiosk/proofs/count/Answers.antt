use lib.ListN.{length}
use Rattle.itemset.specs.Words.{value}
use Rattle.exact_cover.specs.Problem.{problem_of}
use Rattle.kiosk.proofs.Same.{count_same}
use Rattle.statement.specs.Replies.{reply_of}
use Rattle.kiosk.proofs.count.Goals as goal

pub returns : goal.returns
returns c = count_same (problem_of c.args.packages.now (value c.args.optional) c.args.order.now) c.args.m c.args.n c.args.nodes.now c.args.answer (length c.args.work.now) (reply_of c.count.result)
    (rw c.flatten.ensures at c.count.ensures)
