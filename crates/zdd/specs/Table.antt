-- The node table: its nodes, the families that they denote, the listing of all sets, and what a sound table is. Labels are numbers [document 01:
-- packages], and a set of labels [timetable] is written as a list. A key list K has a key for each label: label p comes before q [in precedence]
-- when key K p < key K q. Assumes nothing.
use Rattle.std.specs.Prelude.{◌≡◌, Bool, true, false, not, cond, ◌&&◌, ◌||◌, ℕ, zero, suc, ◌-◌, ◌*◌, ◌/◌, ◌≤◌, ◌<◌, leb, ltb, eqb, length, get_or, drop}
use mathlib.Core.List.{List, [], ◌∷◌, ◌++◌, map, Memᴰ}

-- ---- nodes

pub record Node : Type 0 where
  pub label : ℕ
  pub lo : ℕ
  pub hi : ℕ

abbrev pub node : ℕ → ℕ → ℕ → Node
node l a b = record { label = l; lo = a; hi = b }

abbrev pub blank : Node
blank = node 0 0 0

-- word 0 is the number of branch nodes [document 01: n]
abbrev pub count : List ℕ → ℕ
count ws = get_or ws 0 0

-- how many nodes the words have room for: (length - 1) / 3 rounded down, at most 65534
unfoldable pub capacity : List ℕ → ℕ
capacity ws = cond (leb ((length ws - 1) / 3) 65534) ((length ws - 1) / 3) 65534

-- the first n triples of a list of words
unfoldable pub triples : ℕ → List ℕ → List Node
triples zero ws = []
triples (suc n) ws = node (get_or ws 0 0) (get_or ws 1 0) (get_or ws 2 0) ∷ triples n (drop 3 ws)

-- the branch nodes: node k stands at index k - 2, in three words from word 1 + 3 × (k - 2)
unfoldable pub nodes_of : List ℕ → List Node
unfolding triples
nodes_of ws = triples (count ws) (drop 1 ws)

-- ---- families

-- a set is the list of its labels in the order of their keys, and a family the list of its sets [document 01: a set of timetables, in listing order]
abbrev pub Family : Type 0
Family = List (List ℕ)

-- the family of a node with label p over the families of hi and lo: F1's sets with p added, then F0's sets
abbrev pub fork : ℕ → Family → Family → Family
fork p F1 F0 = map (λ (t : List ℕ). p ∷ t) F1 ++ F0

-- a node holds lo's sets, and hi's with the label added; those with it are listed first
abbrev pub denote : List Family → Node → Family
denote fs x = fork x.label (get_or fs x.hi []) (get_or fs x.lo [])

unfoldable pub grow : List Family → List Node → List Family
grow fs [] = fs
grow fs (x ∷ ns) = grow (fs ++ (denote fs x ∷ [])) ns

-- number 0 holds no set, and number 1 only the empty one
abbrev pub ends : List Family
ends = [] ∷ ([] ∷ []) ∷ []

-- the families of the numbers 0, 1, 2, ..
unfoldable pub families : List Node → List Family
unfolding grow
families ns = grow ends ns

unfoldable pub family : List Node → ℕ → Family
unfolding families
family ns k = get_or (families ns) k []

-- ---- all sets, in listing order: at the first label that only one of two sets has, the one that has it is first (`proofs/Ordered.antt`, `sets-ordered`)

abbrev pub key : List ℕ → ℕ → ℕ
key K p = get_or K p 0

-- p put in its place among labels that stand in the order of their keys
unfoldable pub insert_by : List ℕ → ℕ → List ℕ → List ℕ
insert_by K p [] = p ∷ []
insert_by K p (q ∷ qs) = cond (ltb (key K p) (key K q)) (p ∷ q ∷ qs) (q ∷ insert_by K p qs)

-- the labels below n, sorted
unfoldable pub order_to : List ℕ → ℕ → List ℕ
unfolding insert_by
order_to K zero = []
order_to K (suc n) = insert_by K n (order_to K n)

-- the labels, sorted by their keys
unfoldable pub order : List ℕ → List ℕ
unfolding order_to
order K = order_to K (length K)

-- every set of labels ps that are sorted: those with the first label, then those without it
unfoldable pub all_sets : List ℕ → Family
all_sets [] = [] ∷ []
all_sets (p ∷ ps) = fork p (all_sets ps) (all_sets ps)

unfoldable pub sets : List ℕ → Family
unfolding all_sets order
sets K = all_sets (order K)

-- ---- membership

unfoldable pub eq_set : List ℕ → List ℕ → Bool
eq_set [] [] = true
eq_set [] (q ∷ t) = false
eq_set (p ∷ s) [] = false
eq_set (p ∷ s) (q ∷ t) = eqb p q && eq_set s t

-- the set t is in the family
unfoldable pub elem : List ℕ → Family → Bool
unfolding eq_set
elem t [] = false
elem t (u ∷ F) = eq_set t u || elem t F

-- the members of a list that pass a test, in their order
unfoldable pub filter : {A : Type 0} → (A → Bool) → List A → List A
filter P [] = []
filter P (t ∷ F) = cond (P t) (t ∷ filter P F) (filter P F)

-- the label p is in the list
unfoldable pub has : ℕ → List ℕ → Bool
has p [] = false
has p (q ∷ qs) = eqb p q || has p qs

-- x stands somewhere in l
infix 40 ◌∈◌
abbrev pub ◌∈◌ : {A : Type 0} → A → List A → Type 0
◌∈◌ x l = Memᴰ x l

-- ---- sound tables: as tests

-- a child c of a node is 0, 1 or a branch node whose label's key is at least b
unfoldable pub overb : List ℕ → List Node → ℕ → ℕ → Bool
overb K ns b zero = true
overb K ns b (suc zero) = true
overb K ns b (suc (suc i)) = leb b (key K (get_or ns i blank).label)

-- the node x may stand at index i of the nodes ns, as number i + 2: its label is known, lo and hi are below its own number, hi is not 0, and the
-- label of each child comes later than its own
unfoldable pub fineb : List ℕ → List Node → ℕ → Node → Bool
unfolding overb
fineb K ns i x =
    ltb x.label (length K)
    && (ltb x.lo (suc (suc i))
    && (ltb x.hi (suc (suc i))
    && (ltb 0 x.hi
    && (overb K ns (suc (key K x.label)) x.lo
    && overb K ns (suc (key K x.label)) x.hi))))

-- each node of xs, which stand in ns from index i on
unfoldable pub all_fine : List ℕ → List Node → ℕ → List Node → Bool
unfolding fineb
all_fine K ns i [] = true
all_fine K ns i (x ∷ xs) = fineb K ns i x && all_fine K ns (suc i) xs

unfoldable pub eq_node : Node → Node → Bool
eq_node x y = eqb x.label y.label && (eqb x.lo y.lo && eqb x.hi y.hi)

unfoldable pub has_node : Node → List Node → Bool
unfolding eq_node
has_node x [] = false
has_node x (y ∷ ys) = eq_node x y || has_node x ys

-- no triple stands twice
unfoldable pub onceb : List Node → Bool
unfolding has_node
onceb [] = true
onceb (x ∷ xs) = not (has_node x xs) && onceb xs

unfoldable pub zerosb : List ℕ → Bool
zerosb [] = true
zerosb (w ∷ ws) = eqb w 0 && zerosb ws

unfoldable pub nodesb : List ℕ → List Node → Bool
unfolding all_fine onceb
nodesb K ns = all_fine K ns 0 ns && onceb ns

-- it has a word 0; n is within capacity; each label, lo and hi are as `fineb` says, and no triple stands twice; every word beyond the last node is 0
-- [document 01: sound]
unfoldable pub soundb : List ℕ → List ℕ → Bool
unfolding nodes_of nodesb zerosb capacity
soundb K ws =
    ltb 0 (length ws)
    && (leb (count ws) (capacity ws)
    && (nodesb K (nodes_of ws)
    && zerosb (drop (suc (3 * count ws)) ws)))

-- ---- sound tables: as facts

abbrev pub Over : List ℕ → List Node → ℕ → ℕ → Type 0
Over K ns b zero = Unit {0}
Over K ns b (suc zero) = Unit {0}
Over K ns b (suc (suc i)) = b ≤ key K (get_or ns i blank).label

-- the node x may stand at index i of the nodes ns, as number i + 2
pub record Fine (K : List ℕ) (ns : List Node) (i : ℕ) (x : Node) : Type 0 where
  pub label-known : x.label < length K
  pub lo-below : x.lo < suc (suc i)
  pub hi-below : x.hi < suc (suc i)
  pub hi-some : 0 < x.hi
  pub lo_after : Over K ns (suc (key K x.label)) x.lo
  pub hi_after : Over K ns (suc (key K x.label)) x.hi

pub record Nodes (K : List ℕ) (ns : List Node) : Type 0 where
  pub each : (i : ℕ) → i < length ns → Fine K ns i (get_or ns i blank)
  pub once : (i j : ℕ) → i < length ns → j < length ns → get_or ns i blank ≡ get_or ns j blank → i ≡ j

pub record Sound (K ws : List ℕ) : Type 0 where
  pub room : 3 * count ws < length ws
  pub few : count ws ≤ 65534
  pub nodes : Nodes K (nodes_of ws)
  pub rest : (j : ℕ) → 3 * count ws < j → get_or ws j 0 ≡ 0

-- each label has a key of its own
pub record Keys (K : List ℕ) : Type 0 where
  pub apart : (p q : ℕ) → p < length K → q < length K → key K p ≡ key K q → p ≡ q
