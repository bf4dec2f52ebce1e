-- What the functions over a node table ask and ensure: the index of its nodes, the soundness test, find or make, and growth. Assumes nothing.
use Rattle.std.specs.Prelude.{◌≡◌, Bool, true, false, List, ℕ, ◌+◌, ◌-◌, ◌*◌, ◌/◌, ◌%◌, ◌<◌, ◌≤◌, length, get_or, set, take}
use Rattle.zdd.specs.Table.{Node, Family, blank, fork, count, capacity, nodes_of, family, Fine, Sound, soundb}
use Rattle.zdd.specs.Branches.{missing}
use Rattle.zdd.specs.Work.{Gained}
use Rattle.buckets.specs.Chain.{Index}

-- r says whether P holds
pub record Tells (P : Type 0) (r : Bool) : Type 0 where
  pub yes : r ≡ true → P
  pub no : r ≡ false → P → ⊥

-- ---- the index

-- the bucket of a triple
unfoldable pub hash_of : Node → ℕ
hash_of x = (x.label * 951274213 + x.lo * 663608941 + x.hi * 444758373) / 65536 % 65536

-- the bucket of number k
unfoldable pub bucket : List Node → ℕ → ℕ
unfolding hash_of
bucket ns k = hash_of (get_or ns (k - 2) blank)

-- the words have the nodes that word 0 counts
pub record Room (t : List ℕ) : Type 0 where
  pub fit : 3 * count t < length t
  pub few : count t ≤ 65534

-- the list indexes the numbers from 2 to m - 1 of the nodes ns, in 65536 buckets
pub record IndexedTo (ns : List Node) (m : ℕ) (index : List ℕ) : Type 0 where
  pub long : length index ≡ 131072
  pub chain : Index (bucket ns) 2 65536 m index

-- the index before the first number joins
pub record Fresh (index : List ℕ) : Type 0 where
  pub long : length index ≡ 131072
  pub zero : (h : ℕ) → get_or index h 0 ≡ 0

-- the list indexes all nodes of t
pub record Indexed (t index : List ℕ) : Type 0 where
  pub room : Room t
  pub entries : IndexedTo (nodes_of t) (count t + 2) index

-- what find answers: 0 exactly where no number below m is the node x
pub record Found (ns : List Node) (m : ℕ) (x : Node) (r : ℕ) : Type 0 where
  pub node : 0 < r → (2 ≤ r) × ((r < m) × (get_or ns (r - 2) blank ≡ x))
  pub none : r ≡ 0 → (i : ℕ) → i + 2 < m → get_or ns i blank ≡ x → ⊥

-- ---- the soundness test

-- the labels of the nodes before index i are known
abbrev pub Labelled : List ℕ → List Node → ℕ → Type 0
Labelled K ns i = (j : ℕ) → j < i → (get_or ns j blank).label < length K

-- node i joins the index, unless one before it is the same
pub record Entered (ns : List Node) (i : ℕ) (index : List ℕ) (r : Bool) : Type 0 where
  pub joined : r ≡ true → IndexedTo ns (i + 1 + 2) index
  pub fresh : r ≡ true → (j : ℕ) → j < i → get_or ns j blank ≡ get_or ns i blank → ⊥
  pub twice : r ≡ false → (j : ℕ) × ((j < i) × (get_or ns j blank ≡ get_or ns i blank))

-- what check answers
pub record Checked (K t index : List ℕ) (r : Bool) : Type 0 where
  pub says : r ≡ soundb K t
  pub indexed : r ≡ true → Indexed t index

-- ---- growth

-- t' is sound, as long as t, and has t's nodes first and unchanged
pub record Grown (K t t' : List ℕ) : Type 0 where
  pub long : length t' ≡ length t
  pub sound : Sound K t'
  pub old : take (count t) (nodes_of t') ≡ nodes_of t

-- no node of t is x
abbrev pub Absent : List ℕ → Node → Type 0
Absent t x = (i : ℕ) → i < count t → get_or (nodes_of t) i blank ≡ x → ⊥

-- t' is t with the node x in the words behind its nodes, and r is its number
pub record Appends (t t' index' : List ℕ) (x : Node) (r : ℕ) : Type 0 where
  pub number : r ≡ count t + 2
  pub words : t' ≡ set (set (set (set t (3 * count t + 1) x.label) (3 * count t + 2) x.lo) (3 * count t + 3) x.hi) 0 (count t + 1)
  pub indexed : Indexed t' index'

-- t is sound, and x may be its next node
pub record May (K t : List ℕ) (x : Node) : Type 0 where
  pub sound : Sound K t
  pub fine : Fine K (nodes_of t) (count t) x

-- r is the number of the node x in t', which is t or t with this node more; or 0, where x is not in t and t has no room
pub record Made (K t t' index' : List ℕ) (x : Node) (r : ℕ) : Type 0 where
  pub grown : Grown K t t'
  pub indexed : Indexed t' index'
  pub gained : Gained 0 K (capacity t) (nodes_of t) r (nodes_of t') (fork x.label (family (nodes_of t) x.hi) (family (nodes_of t) x.lo))

-- what unique ensures, whatever the keys
abbrev pub Unique : List ℕ → List ℕ → List ℕ → Node → ℕ → Type 0
Unique t t' index' x r = (K : List ℕ) → May K t x → Made K t t' index' x r

-- what rollback ensures: t goes back to any sound table of n nodes that it grew from
abbrev pub Rolled : List ℕ → ℕ → List ℕ → Type 0
Rolled t n t' = (K t₀ : List ℕ) → Sound K t₀ → Grown K t₀ t → n ≡ count t₀ → t' ≡ t₀

-- ---- for the crates above

-- F has its number r in the table t', which is t with the branch nodes that were missing for it
pub record Obtained (K t t' index' : List ℕ) (r : ℕ) (F : Family) : Type 0 where
  pub grown : Grown K t t'
  pub indexed : Indexed t' index'
  pub known : r < count t' + 2
  pub holds : family (nodes_of t') r ≡ F
  pub made : count t' ≡ count t + missing (nodes_of t) F
