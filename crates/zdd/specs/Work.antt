-- What the functions that make a family in a table say of their work, for each other: no node is made that the family does not need, and 'there was no
-- room' is said only where the family lacks a node. The public contracts follow from it (`proofs/Got.antt`). Assumes nothing.
use Rattle.std.specs.Prelude.{◌≡◌, Bool, true, false, List, ◌∷◌, ◌++◌, ℕ, suc, ◌≤◌, ◌<◌, length}
use Rattle.zdd.specs.Table.{Node, Family, fork, family, key, elem, Nodes, ◌∈◌}
use Rattle.zdd.specs.Branches.{branches}

-- each set of F begins with a label whose key is at least b, or is empty
unfoldable pub From : List ℕ → ℕ → Family → Type 0
From K b F = (q : ℕ) (t : List ℕ) → elem (q ∷ t) F ≡ true → b ≤ key K q

-- R is split by its first label p: R1 are the sets that begin with it, without it, and R0 the others
pub record Split (K : List ℕ) (R : Family) (p : ℕ) (R1 R0 : Family) : Type 0 where
  pub is : R ≡ fork p R1 R0
  pub hi_from : From K (suc (key K p)) R1
  pub lo_from : From K (suc (key K p)) R0

-- each branch family of F is one of G
pub record Under (F G : Family) : Type 0 where
  pub each : (H : Family) → H ∈ branches F → H ∈ branches G

-- ns' is ns with nodes appended, and each new number's family is a branch family of F
pub record Nowaste (ns ns' : List Node) (F : Family) : Type 0 where
  pub new : List Node
  pub grown : ns' ≡ ns ++ new
  pub needed : (k : ℕ) → suc (suc (length ns)) ≤ k → k < suc (suc (length ns')) → family ns' k ∈ branches F

-- some branch family of F is the family of no number of ns
pub record Short (ns : List Node) (F : Family) : Type 0 where
  pub lacking : Family
  pub branch : lacking ∈ branches F
  pub absent : (k : ℕ) → k < suc (suc (length ns)) → family ns k ≡ lacking → ⊥

-- work for F with a flag that says that there was no room: b before, b' after; c is the room. Once it is set nothing is made
pub record Worked (c : ℕ) (ns : List Node) (b : Bool) (ns' : List Node) (b' : Bool) (F : Family) : Type 0 where
  pub nowaste : Nowaste ns ns' F
  pub idle : b ≡ true → (ns' ≡ ns) × (b' ≡ true)
  pub short : b ≡ false → b' ≡ true → Short ns' F × (c ≤ length ns')

-- the number k was got for F: the nodes stay sound, and k holds F while the flag is down
pub record Got (K : List ℕ) (c : ℕ) (ns : List Node) (b : Bool) (k : ℕ) (ns' : List Node) (b' : Bool) (F : Family) : Type 0 where
  pub sound : Nodes K ns'
  pub known : k < suc (suc (length ns'))
  pub work : Worked c ns b ns' b' F
  pub holds : b' ≡ false → family ns' k ≡ F

-- what a function whose result is one number says, no flag before: r is the number that was got for F, or it is n: there was no room
pub record Gained (n : ℕ) (K : List ℕ) (c : ℕ) (ns : List Node) (r : ℕ) (ns' : List Node) (F : Family) : Type 0 where
  pub got : (r ≡ n → ⊥) → Got K c ns false r ns' false F
  pub full : r ≡ n → Got K c ns false 0 ns' true F
