use Rattle.family.proofs.CombineLaws.{ends_left_union, ends_left, ends_right_kept, ends_right_none, ends_both, ends_both_differ}
use Rattle.family.proofs.ended.Goals as goal

pub returns-in-Union : goal.returns-in-Union
returns-in-Union c = ends_left_union _ _ _ c.if-f-eq0.true c.in-Union.is

pub returns-in_default : goal.returns-in_default
returns-in_default c = ends_left _ _ _ c.if-f-eq0.true c.in_default.not-Union

pub returns-in-Union-op : goal.returns-in-Union-op
returns-in-Union-op c = ends_right_kept _ _ _ c.if-g-eq0.true c.in-Union-op.is

pub returns-in-Intersection : goal.returns-in-Intersection
returns-in-Intersection c = ends_right_none _ _ _ c.if-g-eq0.true c.in-Intersection.is

pub returns-then-f-g : goal.returns-then-f-g
returns-then-f-g c = ends_both_differ _ _ _ c.if-f-g.true c.in-Difference.is

pub returns-then-f-g-2 : goal.returns-then-f-g-2
returns-then-f-g-2 c = ends_both _ _ _ c.if-f-g-2.true c.in-Union-op-2.is
