-- What a function that makes a family in a sound table says: its number, or that there was no room. Assumes nothing.
use Rattle.std.specs.Prelude.{◌≡◌, true, false, List, ℕ, suc, ◌+◌, ◌<◌, ◌≤◌, length, Option, Some, None}
use Rattle.zdd.specs.Table.{Node, node, Family, fork, count, capacity, nodes_of, family, Fine, Sound, Keys}
use Rattle.zdd.specs.Work.{Gained}
use Rattle.zdd.specs.Branches.{no_room}
use Rattle.table.specs.State.{Indexed, Obtained}

-- a sound indexed table over distinct keys
pub record Operable (K t index : List ℕ) : Type 0 where
  pub keys : Keys K
  pub sound : Sound K t
  pub indexed : Indexed t index

-- t before; t' and index' after. r is F's number, below 65536; or 65536: there was no room
pub record Gives (K t t' index' : List ℕ) (r : ℕ) (F : Family) : Type 0 where
  pub long : length t' ≡ length t
  pub sound : Sound K t'
  pub indexed : Indexed t' index'
  pub small : r ≤ 65536
  pub gained : Gained 65536 K (capacity t) (nodes_of t) r (nodes_of t') F

-- what a function that makes F in t answers: F's number, or None: there was no room
abbrev pub Yields : List ℕ → List ℕ → List ℕ → List ℕ → Option ℕ → Family → Type 0
Yields K t t' index' (Some r) F = (r < 65536) × Gives K t t' index' r F
Yields K t t' index' None F = Gives K t t' index' 65536 F

-- the node of three words may be made where hi is not 0
pub record Child (K t : List ℕ) (label lo hi : ℕ) : Type 0 where
  pub sound : Sound K t
  pub lo-known : lo < count t + 2
  pub fine : 0 < hi → Fine K (nodes_of t) (count t) (node label lo hi)

-- what make ensures, whatever the keys
abbrev pub Noded : List ℕ → List ℕ → List ℕ → ℕ → ℕ → ℕ → Option ℕ → Type 0
Noded t t' index' label lo hi r =
    (K : List ℕ) → Child K t label lo hi → Yields K t t' index' r (fork label (family (nodes_of t) hi) (family (nodes_of t) lo))

-- the number r is known and holds F
pub record Answers (ns : List Node) (r : ℕ) (F : Family) : Type 0 where
  pub known : r < suc (suc (length ns))
  pub holds : family ns r ≡ F

-- what an operation that makes F ensures: where what is missing for F exceeds the free places it says 65536 and the table is as before; where it does
-- not, r is F's number
pub record Produced (K t t' index' : List ℕ) (r : ℕ) (F : Family) : Type 0 where
  pub small : r ≤ 65536
  pub full : r ≡ 65536 → no_room t F ≡ true
  pub same : r ≡ 65536 → t' ≡ t
  pub room : r < 65536 → no_room t F ≡ false
  pub done : r < 65536 → Obtained K t t' index' r F

-- what such an operation answers: F's number, or None: there was no room
abbrev pub Returned : List ℕ → List ℕ → List ℕ → List ℕ → Option ℕ → Family → Type 0
Returned K t t' index' (Some r) F = (r < 65536) × Produced K t t' index' r F
Returned K t t' index' None F = Produced K t t' index' 65536 F
