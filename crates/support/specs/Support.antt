-- The items of the packages on the nodes below an answer. Assumes nothing.
use Rattle.std.specs.Prelude.{◌≡◌, true, List, ℕ, length, get_or}
use Rattle.itemset.specs.Items.{holds}
use Rattle.zdd.specs.Table.{Node, Sound}
use Rattle.zdd.specs.Below.{Labels}

-- t is sound, and its labels are packages
pub record Labelled (packages t : List ℕ) : Type 0 where
  pub keys : List ℕ
  pub sound : Sound keys t
  pub each : length keys ≡ length packages

-- item i is in a package on a node below a, its own node included
pub record Carries (packages : List ℕ) (ns : List Node) (a i : ℕ) : Type 0 where
  pub label : ℕ
  pub below : Labels ns a label
  pub held : holds i (get_or packages label 0) ≡ true

-- x has these items and no others
pub record Supports (packages : List ℕ) (ns : List Node) (a x : ℕ) : Type 0 where
  pub only : (i : ℕ) → holds i x ≡ true → Carries packages ns a i
  pub all : (i : ℕ) → Carries packages ns a i → holds i x ≡ true
