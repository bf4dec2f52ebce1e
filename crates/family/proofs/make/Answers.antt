use native.Mathlib.Omega.{arith}
use Rattle.family.proofs.GivesLaws.{noded_lo, noded_made}
use Rattle.family.proofs.make.Goals as goal

pub returns-then-hi-eq0 : goal.returns-then-hi-eq0
returns-then-hi-eq0 c = noded_lo _ _ _ c.requires c.if-hi-eq0.true

pub returns : goal.returns
returns c = noded_made _ _ _ _ _ _ _ (omega (arith, c.if-hi-eq0.false)) (omega (arith, c.if-r-eq0.false))
    c.unique-r.ensures
