use Rattle.exact_cover.proofs.LocateLaws.{plain-positions}
use Rattle.itemset.specs.Words.{value}
use mathlib.Core.Path.{sym, ◌∙◌}
use Rattle.exact_cover.proofs.positions.Goals as goal

pub returns-then-plain : goal.returns-then-plain
returns-then-plain c = plain-positions c.args.order.now (value c.args.x) (sym c.requires.located.straight ∙ c.if-plain.true) c.requires.x_bound
