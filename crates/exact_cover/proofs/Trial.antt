-- The loop of the trial of A: its invariant, and each step of it in one law. ns and b are the nodes and the flag 'there was no room' before the
-- trial, ns' and b' now; l is the number that the trial has after the package numbers from n on; c is the room. Assumes nothing.
use mathlib.Core.Path.{◌≡◌}
use mathlib.Core.Bool.{Bool, true, false}
use mathlib.Core.List.{List, []}
use Prim.Native.Nat.{ℕ, suc, ◌+◌, ◌^◌, ◌≤◌, ◌<◌}
use native.Mathlib.Omega.{arith}
use lib.ListN.{length}
use Rattle.zdd.specs.Table.{Node, Family, fork, family, Nodes}
use Rattle.zdd.proofs.Grow.{family-zero}
use Rattle.zdd.specs.Work.{Got}
use Rattle.zdd.proofs.Got.{got_eq, got_there, got_split_lo, got_none_lo}
use Rattle.exact_cover.specs.Problem.{Problem, span, done, Rows}
use Rattle.exact_cover.specs.Cover.{covering, fits, keys_of}
use Rattle.exact_cover.proofs.Partial.{Partial, left, partial_start, partial_skip, partial_take, partial_split, partial_end}

pub record Trial (Q : Problem) (A c : ℕ) (ns : List Node) (b : Bool) (n l : ℕ) (ns' : List Node) (b' : Bool) : Type 0 where
  pub acc : Family
  pub part : Partial Q A n acc
  pub got : Got (keys_of Q) c ns b l ns' b' acc

module _ (Q : Problem) (good : Rows Q) (A : ℕ) (w : A < 2 ^ span Q) (o : done Q A ≡ false) {c : ℕ} {ns : List Node} {b : Bool} where
  -- nothing is tried: the number 0
  pub trial_start : Nodes (keys_of Q) ns → Trial Q A c ns b (length Q.packages) 0 ns b
  trial_start n = record { acc = []; part = partial_start Q good A w o; got = got_eq (family-zero ns) (got_there c b 0 n (omega arith)) }

  -- the numbers from n to m are no candidates
  pub trial_skip : (d n m l : ℕ) {ns' : List Node} {b' : Bool} → m ≡ d + n → ((q : ℕ) → n ≤ q → q < m → fits Q A q ≡ false)
      → Trial Q A c ns b m l ns' b' → Trial Q A c ns b n l ns' b'
  trial_skip d n m l e f t = record { acc = t.acc; part = partial_skip Q good A w o d n m t.acc e f t.part; got = t.got }

  -- n is a candidate: search gives h, find-or-make r
  pub trial-take : (n l h r : ℕ) {n0 n1 ns' : List Node} {b0 b1 b' : Bool} → n < length Q.packages → fits Q A n ≡ true
      → Trial Q A c ns b (suc n) l n0 b0 → Got (keys_of Q) c n0 b0 h n1 b1 (left Q A n)
      → Got (keys_of Q) c n1 b1 r ns' b' (fork n (family n1 h) (family n1 l))
      → Trial Q A c ns b n r ns' b'
  trial-take n l h r m e t g1 g = record {
    acc = fork n (left Q A n) t.acc;
    part = partial_take Q good A w o n t.acc m e t.part;
    got = got_split_lo (partial_split Q good A w o n t.acc m e t.part) t.got g1 g;
  }

  -- n is a candidate, and search gives 0: no node
  pub trial-none : (n l : ℕ) {n0 n1 : List Node} {b0 b1 : Bool} → n < length Q.packages → fits Q A n ≡ true
      → Trial Q A c ns b (suc n) l n0 b0 → Got (keys_of Q) c n0 b0 0 n1 b1 (left Q A n) → Trial Q A c ns b n l n1 b1
  trial-none n l m e t g1 = record {
    acc = fork n (left Q A n) t.acc;
    part = partial_take Q good A w o n t.acc m e t.part;
    got = got_none_lo (partial_split Q good A w o n t.acc m e t.part) t.got g1;
  }

  pub trial_end : (l : ℕ) {ns' : List Node} {b' : Bool} → Trial Q A c ns b 0 l ns' b' → Got (keys_of Q) c ns b l ns' b' (covering Q A)
  trial_end l t = got_eq (partial_end Q good A w o t.acc t.part) t.got
