use Rattle.exact_cover.proofs.LocateLaws.{Counted}
use Rattle.exact_cover.proofs.plain_order.Given as goal

abbrev pub invariant-loop-i : goal.invariant-loop-i
invariant-loop-i l = Counted l.i l.item-items
