use Prim.Native.Nat.{ℕ}
use mathlib.Core.Path.{refl}
use lib.ListN.{length-replicate}
use Rattle.base.proofs.Wiping.{zeros}
use Rattle.family.proofs.RestrictLaws.{kept_fresh, wanted-same}
use Rattle.family.proofs.GivesLaws.{gives_eq, produced_done, produced_full}
use Rattle.family.proofs.restriction.Goals as goal

pub restrict-requires-clause-kept : goal.restrict-requires-clause-kept
restrict-requires-clause-kept c = kept_fresh _ _ _ _ _ (length-replicate {A = ℕ} 65536 0) (λ i. zeros 65536 i)

pub returns-in_default : goal.returns-in_default
returns-in_default c = produced_full (gives_eq (wanted-same _ _ c.wanted-q.ensures.0 c.wanted-q.ensures.1) c.in_default.ensures.gives) c.requires.operable.sound refl c.rollback.ensures

pub returns : goal.returns
returns c = let g = c.in-Some.ensures.gives in produced_done (g.0, gives_eq (wanted-same _ _ c.wanted-q.ensures.0 c.wanted-q.ensures.1) g.1)
