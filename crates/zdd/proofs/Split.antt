-- A family split by its first label, as the recursions make it: `Split K R p R1 R0`. The parts are under the whole, and work on the parts and
-- then on the node is work on the whole. Assumes nothing.
use mathlib.Core.Path.{sym}
use mathlib.Core.Bool.{Bool}
use mathlib.Core.List.{List}
use Prim.Native.Nat.{ℕ, zero, suc, ◌<◌}
use native.Mathlib.Omega.{arith}
use lib.ListN.{length, get_or}
use Rattle.zdd.specs.Table.{Node, blank, Family, fork, family, Over, Nodes}
use Rattle.zdd.proofs.Member.{from_at}
use Rattle.zdd.specs.Work.{From, Under, Worked, Split}
use Rattle.zdd.proofs.Canon.{label-set}
use Rattle.zdd.proofs.Under.{under_trans, under_eq, after_hi, after_lo}
use Rattle.zdd.proofs.Room.{worked_under, worked_then}

module _ {K : List ℕ} {R : Family} {p : ℕ} {R1 R0 : Family} (s : Split K R p R1 R0) where
  -- THEOREM: the parts are branches of the whole, or take no node; where R1 has no set too
  pub split_hi : Under R1 R
  split_hi = under_trans (after_hi K p R1 R0 s.lo_from) (under_eq (sym s.is))

  pub split_lo : Under R0 R
  split_lo = under_trans (after_lo K p R1 R0 s.lo_from) (under_eq (sym s.is))

  -- work on the parts and then on the node is work on the whole
  pub worked_split : {c : ℕ} {ns n0 ns' : List Node} {b b0 b' : Bool} → Worked c ns b n0 b0 R → Worked c n0 b0 ns' b' (fork p R1 R0) → Worked c ns b ns' b' R
  worked_split w v = worked_then w (worked_under v (under_eq (sym s.is)))

-- ---- the other way of `family_from`: a number whose sets begin late has a late label

pub from_over : {K : List ℕ} {ns : List Node} → Nodes K ns → (k : ℕ) → k < suc (suc (length ns)) → (b : ℕ) → From K b (family ns k) → Over K ns b k
from_over {K} {ns} n zero h b f = tt
from_over {K} {ns} n (suc zero) h b f = tt
from_over {K} {ns} n (suc (suc i)) h b f =
    let r = label-set n i (omega arith) in
    from_at K b (family ns (suc (suc i))) f (get_or ns i blank).label r.0 r.1
