-- What the functions of `withdraw` ask and ensure for each other: the marks, the pass over the nodes, and the words. Assumes nothing.
use Rattle.std.specs.Prelude.{◌≡◌, true, false, List, [], ◌∷◌, ◌++◌, ℕ, suc, ◌+◌, ◌-◌, ◌*◌, ◌≤◌, ◌<◌, length, get_or}
use Rattle.zdd.specs.Table.{Node, node, blank, count, nodes_of, key, has, Nodes}
use Rattle.table.specs.State.{Indexed}
use Rattle.zdd.specs.Withdrawal.{rank, Shorter}

-- ---- the new names of the labels

-- of n labels, names has 0 for each that is withdrawn, and for another one more than its new number
pub record Names (gone : List ℕ) (n : ℕ) (names : List ℕ) : Type 0 where
  pub many : n ≤ length names
  pub gone_zero : (p : ℕ) → p < n → has p gone ≡ true → get_or names p 0 ≡ 0
  pub stays_rank : (p : ℕ) → p < n → has p gone ≡ false → get_or names p 0 ≡ suc (rank gone p)

-- the first j entries of gone are struck: of n labels each has 1, and the others have 0
pub record Struck (gone : List ℕ) (j n : ℕ) (names : List ℕ) : Type 0 where
  pub many : n ≤ length names
  pub ones : (i : ℕ) → i < j → get_or names (get_or gone i 0) 0 ≡ 1
  pub zeros : (p : ℕ) → p < n → ((i : ℕ) → i < j → get_or gone i 0 ≡ p → ⊥) → get_or names p 0 ≡ 0

-- the labels below p have their names, and c of them remain; each other is struck or has 0
pub record NumberedTo (gone : List ℕ) (n p c : ℕ) (names : List ℕ) : Type 0 where
  pub many : n ≤ length names
  pub counted : c ≡ rank gone p
  pub gone_zero : (q : ℕ) → q < p → q < n → has q gone ≡ true → get_or names q 0 ≡ 0
  pub stays_rank : (q : ℕ) → q < p → q < n → has q gone ≡ false → get_or names q 0 ≡ suc (rank gone q)
  pub gone_one : (q : ℕ) → p ≤ q → q < n → has q gone ≡ true → get_or names q 0 ≡ 1
  pub stays_zero : (q : ℕ) → p ≤ q → q < n → has q gone ≡ false → get_or names q 0 ≡ 0

-- ---- the marks

-- number k is 0, 1 or marked
abbrev pub Live : List ℕ → ℕ → Type 0
Live marks k = 2 ≤ k → 0 < get_or marks k 0

-- number k is listed, or a wanted node has it as lo, or as hi where its label remains
pub data Wanted (gone : List ℕ) (ns : List Node) (answers : List ℕ) : ℕ → Type 0 where
  listed : {k : ℕ} (j : ℕ) → j < length answers → get_or answers j 0 ≡ k → Wanted gone ns answers k
  lo-of : {k : ℕ} (i : ℕ) → i < length ns → Wanted gone ns answers (suc (suc i)) → (get_or ns i blank).lo ≡ k → Wanted gone ns answers k
  hi_of : {k : ℕ} (i : ℕ) → i < length ns → Wanted gone ns answers (suc (suc i)) → has (get_or ns i blank).label gone ≡ false → (get_or ns i blank).hi ≡ k
      → Wanted gone ns answers k

-- the first j answers are marked, and nothing else below m
pub record ListedTo (answers : List ℕ) (m j : ℕ) (marks : List ℕ) : Type 0 where
  pub many : m ≤ length marks
  pub all : (i : ℕ) → i < j → 0 < get_or marks (get_or answers i 0) 0
  pub only : (k : ℕ) → k < m → 0 < get_or marks k 0 → (i : ℕ) × ((i < j) × (get_or answers i 0 ≡ k))

-- the listed numbers are marked, only wanted ones are, and those that a marked node at index i or above wants are
pub record MarkedFrom (gone : List ℕ) (ns : List Node) (answers : List ℕ) (i : ℕ) (marks : List ℕ) : Type 0 where
  pub all : (j : ℕ) → j < length answers → Live marks (get_or answers j 0)
  pub only : (k : ℕ) → 2 ≤ k → k < length ns + 2 → 0 < get_or marks k 0 → Wanted gone ns answers k
  pub lo_too : (j : ℕ) → i ≤ j → j < length ns → 0 < get_or marks (suc (suc j)) 0 → Live marks (get_or ns j blank).lo
  pub hi_too : (j : ℕ) → i ≤ j → j < length ns → 0 < get_or marks (suc (suc j)) 0 → has (get_or ns j blank).label gone ≡ false
      → Live marks (get_or ns j blank).hi

-- the wanted numbers are marked, and no others
abbrev pub Marked : List ℕ → List Node → List ℕ → List ℕ → Type 0
Marked gone ns answers marks = MarkedFrom gone ns answers 0 marks

-- what mark ensures of the working words: the marks, and the new numbers of 0 and 1
pub record Ready (gone : List ℕ) (ns : List Node) (answers work work' : List ℕ) : Type 0 where
  pub same : length work' ≡ length work
  pub marked : Marked gone ns answers work'
  pub zero : get_or work' 0 0 ≡ 0
  pub one : get_or work' 1 0 ≡ 1

-- ---- one node

-- r is the number of the node x in ms', which is ms or ms with this node more
pub record Place (ms ms' : List Node) (x : Node) (r : ℕ) : Type 0 where
  pub old : r < length ms + 2 → (ms' ≡ ms) × ((2 ≤ r) × (get_or ms (r - 2) blank ≡ x))
  pub new : length ms + 2 ≤ r → (r ≡ length ms + 2) × ((ms' ≡ ms ++ (x ∷ [])) × ((i : ℕ) → i < length ms → get_or ms i blank ≡ x → ⊥))

-- r is the new number of a node whose label has the given name and whose children have the new numbers lo and hi
pub record Renewed (name lo hi : ℕ) (ms ms' : List Node) (r : ℕ) : Type 0 where
  pub skip : name ≡ 0 → (ms' ≡ ms) × (r ≡ lo)
  pub void : hi ≡ 0 → (ms' ≡ ms) × (r ≡ lo)
  pub made : 0 < name → 0 < hi → Place ms ms' (node (name - 1) lo hi) r

-- t' is t with at most one node more; the words behind that are as they were
pub record Rewritten (t t' index' : List ℕ) : Type 0 where
  pub long : length t' ≡ length t
  pub indexed : Indexed t' index'
  pub behind : (j : ℕ) → 3 * count t + 3 < j → get_or t' j 0 ≡ get_or t j 0

pub record Placed (t t' index' : List ℕ) (x : Node) (r : ℕ) : Type 0 where
  pub words : Rewritten t t' index'
  pub place : Place (nodes_of t) (nodes_of t') x r

pub record Renewal (name lo hi : ℕ) (t t' index' : List ℕ) (r : ℕ) : Type 0 where
  pub words : Rewritten t t' index'
  pub nodes : Renewed name lo hi (nodes_of t) (nodes_of t') r

-- t has its nodes and room for one more
pub record Roomy (t : List ℕ) : Type 0 where
  pub fit : 3 * count t + 3 < length t
  pub few : count t < 65534

-- ---- the pass

-- v is the new number of the old node x whose children's new numbers are a and b
pub record Linked (gone : List ℕ) (ms : List Node) (x : Node) (v a b : ℕ) : Type 0 where
  pub skip : has x.label gone ≡ true → v ≡ a
  pub void : b ≡ 0 → v ≡ a
  pub made : has x.label gone ≡ false → 0 < b → (2 ≤ v) × (get_or ms (v - 2) blank ≡ node (rank gone x.label) a b)

-- r is the new number of a label that remains and comes no earlier than p
pub record Later (gone K : List ℕ) (p r : ℕ) : Type 0 where
  pub other : ℕ
  pub known : other < length K
  pub stays : has other gone ≡ false
  pub named : rank gone other ≡ r
  pub after : key K p ≤ key K other

-- the nodes of ns before index i are done: ms are the new nodes, and f has the new numbers of the old ones, and the marks from there on
pub record Passed (gone K : List ℕ) (ns : List Node) (marks : List ℕ) (i : ℕ) (ms : List Node) (f : List ℕ) : Type 0 where
  pub sound : (K' : List ℕ) → Shorter gone K K' → Nodes K' ms
  pub fewer : length ms ≤ i
  pub zero : get_or f 0 0 ≡ 0
  pub one : get_or f 1 0 ≡ 1
  pub ahead : (k : ℕ) → i + 2 ≤ k → k < length ns + 2 → get_or f k 0 ≡ get_or marks k 0
  pub below : (k : ℕ) → k < i + 2 → get_or f k 0 < length ms + 2
  pub late : (j : ℕ) → j < i → 2 ≤ get_or f (suc (suc j)) 0
      → Later gone K (get_or ns j blank).label (get_or ms (get_or f (suc (suc j)) 0 - 2) blank).label
  pub linked : (j : ℕ) → j < i → 0 < get_or marks (suc (suc j)) 0
      → Linked gone ms (get_or ns j blank) (get_or f (suc (suc j)) 0) (get_or f (get_or ns j blank).lo 0) (get_or f (get_or ns j blank).hi 0)
  pub onto : (j : ℕ) → j < length ms → (k : ℕ) × ((k < i) × ((0 < get_or marks (suc (suc k)) 0) × (get_or f (suc (suc k)) 0 ≡ suc (suc j))))

-- ---- the words

-- the words while the pass goes on: the new nodes stand first, and word 0 counts them; the old nodes from index i on are where they were
pub record Passing (gone K t₀ marks : List ℕ) (i : ℕ) (t index f : List ℕ) : Type 0 where
  pub pass : Passed gone K (nodes_of t₀) marks i (nodes_of t) f
  pub long : length t ≡ length t₀
  pub words : length f ≡ length marks
  pub indexed : Indexed t index
  pub behind : (j : ℕ) → 3 * i < j → get_or t j 0 ≡ get_or t₀ j 0

-- the first j answers are replaced by their new numbers
pub record ReplacedTo (f answers : List ℕ) (j : ℕ) (answers' : List ℕ) : Type 0 where
  pub same : length answers' ≡ length answers
  pub new : (i : ℕ) → i < j → get_or answers' i 0 ≡ get_or f (get_or answers i 0) 0
  pub old : (i : ℕ) → j ≤ i → get_or answers' i 0 ≡ get_or answers i 0

-- the new numbers of the answers fit a word
abbrev pub Small : List ℕ → List ℕ → Type 0
Small f answers = (j : ℕ) → j < length answers → get_or f (get_or answers j 0) 0 < 65536
