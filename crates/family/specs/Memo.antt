-- The operations, and what their memories hold. Assumes nothing.
use Rattle.std.specs.Prelude.{◌≡◌, Bool, true, false, List, ◌⊎◌, ℕ, zero, suc, ◌+◌, ◌-◌, ◌*◌, ◌/◌, ◌%◌, ◌<◌, ◌≤◌, eqb, length, get_or, Option, Some, None, ⊤}
use Rattle.zdd.specs.Table.{Node, blank, Family, family, Nodes, Keys}
use Rattle.zdd.specs.Operations.{union, inter, differ, including, excluding, join, Apart}
use Rattle.zdd.specs.Work.{Split}
use Rattle.family.specs.Gives.{Answers}
use Rattle.family.specs.declared.Operation.{Operation}
use Rattle.family.specs.declared.Operation.TheVariants.{Union, Intersection, Difference, Join}

-- ---- with and without

-- whether the lowest bit is set
abbrev pub odd : ℕ → Bool
odd q = eqb (q % 2) 1

-- the sets of F with p, or those without it
abbrev pub restricted : Bool → List ℕ → ℕ → Family → Family
restricted true K p F = including K p F
restricted false K p F = excluding K p F

-- what the place of number k holds: 0, or one more than the number of its restriction
pub record Kept (b : Bool) (K : List ℕ) (p : ℕ) (ns : List Node) (memo : List ℕ) : Type 0 where
  pub long : length memo ≡ 65536
  pub place : (k : ℕ) → 0 < get_or memo k 0 → k < suc (suc (length ns))
  pub each : (k : ℕ) → 0 < get_or memo k 0 → Answers ns (get_or memo k 0 - 1) (restricted b K p (family ns k))

-- the number at once, or a node whose restriction is to be made
abbrev pub Soon : Bool → List ℕ → ℕ → List Node → ℕ → Option ℕ → Type 0
Soon b K p ns f (Some r) = (r < 65536) × Answers ns r (restricted b K p (family ns f))
Soon b K p ns f None = (2 ≤ f) × ((get_or ns (f - 2) blank).label ≡ p → b ≡ true)

-- ---- union, intersection, difference, join

-- the operation of a number
abbrev pub operation_of : ℕ → Operation
operation_of zero = Union
operation_of (suc zero) = Intersection
operation_of (suc (suc zero)) = Difference
operation_of (suc (suc (suc n))) = Join

abbrev pub combined : Operation → List ℕ → Family → Family → Family
combined Union K F G = union K F G
combined Intersection K F G = inter K F G
combined Difference K F G = differ K F G
combined Join K F G = join K F G

-- f and g can be combined: a join is of families that have no label in common
abbrev pub Combinable : (op : Operation) (ns : List Node) (f g : ℕ) → Type 0
Combinable op ns f g = op ≡ Join → Apart (family ns f) (family ns g)

-- what goes with the other's sets at a label that number k lacks: in a join k's sets, each with each, and else none, since no set of k has the label
abbrev pub beside_of : Operation → ℕ → ℕ
beside_of Union k = 0
beside_of Intersection k = 0
beside_of Difference k = 0
beside_of Join k = k

-- the lesser of two numbers is remembered as the first, since their order does not matter
abbrev pub lesser_first : Operation → Bool
lesser_first Union = true
lesser_first Intersection = true
lesser_first Difference = false
lesser_first Join = false

-- x and y are f and g, or, where the lesser may be the first, g and f
abbrev pub Ordered : (op : Operation) (f g x y : ℕ) → Type 0
Ordered op f g x y = ((x ≡ f) × (y ≡ g)) ⊎ ((lesser_first op ≡ true) × ((x ≡ g) × (y ≡ f)))

-- a pair k, below 2 ^ 32, mixed: times an odd number modulo 2 ^ 32, which is one to one
unfoldable pub mixed : ℕ → ℕ
mixed k = k * 4021839121 % 4294967296

-- the two numbers in one, mixed
pub record Packed (op : Operation) (f g k : ℕ) : Type 0 where
  pub first : ℕ
  pub second : ℕ
  pub is : k ≡ mixed (first * 65536 + second)
  pub order : Ordered op f g first second

-- ---- the memory of results: two places a word

-- the first at an even place, the second at an odd one
abbrev pub chosen : ℕ → ℕ → ℕ → ℕ
chosen zero x y = x
chosen (suc n) x y = y

-- the half of a word at a place, and the word with e in that half
abbrev pub half : ℕ → ℕ → ℕ
half p w = chosen p (w % 4294967296) (w / 4294967296)

abbrev pub replaced : ℕ → ℕ → ℕ → ℕ
replaced p w e = chosen p (w / 4294967296) e * 4294967296 + chosen p e (w % 4294967296)

-- what stands at place i
unfoldable pub entry_at : List ℕ → ℕ → ℕ
entry_at memo i = half (i % 2) (get_or memo (i / 2) 0)

-- the place of a mixed pair in so many words: the higher the pair, the higher the place
unfoldable pub place_of : ℕ → ℕ → ℕ
place_of words k = k * (2 * words) / 4294967296

-- an entry is the low half of its mixed pair, which with the place tells the pair, and one more than the number; 0 is none
abbrev pub tagged : ℕ → ℕ → ℕ
tagged k r = k % 65536 * 65536 + (r + 1)

-- an entry of the mixed pair k stands at its place
pub record Hit (memo : List ℕ) (k : ℕ) : Type 0 where
  pub tag : entry_at memo (place_of (length memo) k) / 65536 ≡ k % 65536
  pub some : 0 < entry_at memo (place_of (length memo) k) % 65536

-- an entry's number is that of its pair's combination
pub record Remembered (op : Operation) (K : List ℕ) (ns : List Node) (memo : List ℕ) : Type 0 where
  pub least : 32768 ≤ length memo
  pub most : length memo ≤ 2147483648
  pub each : (f g : ℕ) → f < 65536 → g < 65536 → Hit memo (mixed (f * 65536 + g))
      → (f < suc (suc (length ns))) × ((g < suc (suc (length ns)))
      × Answers ns (entry_at memo (place_of (length memo) (mixed (f * 65536 + g))) % 65536 - 1) (combined op K (family ns f) (family ns g)))

-- what recall answers: None, or the number of an entry with k's tag at the place
abbrev pub Recalled : List ℕ → ℕ → ℕ → Option ℕ → Type 0
Recalled memo at k (Some r) = (entry_at memo at / 65536 ≡ k % 65536) × (0 < entry_at memo at % 65536) × (r ≡ entry_at memo at % 65536 - 1)
Recalled memo at k None = ⊤

-- what remember ensures: no place has changed, but perhaps the one, which then has the number under its pair
pub record Noted (memo : List ℕ) (at k r : ℕ) (memo' : List ℕ) : Type 0 where
  pub same : length memo' ≡ length memo
  pub each : (i : ℕ) → (entry_at memo' i ≡ entry_at memo i) ⊎ ((i ≡ at) × ((r < 65535) × (entry_at memo' i ≡ tagged k r)))

-- neither is 0, and they are two
pub record Two (f g : ℕ) : Type 0 where
  pub some : 0 < f
  pub other : 0 < g
  pub differ : f ≡ g → ⊥

-- two numbers of nodes over distinct keys
pub record Pair (K : List ℕ) (ns : List Node) (f g : ℕ) : Type 0 where
  pub keys : Keys K
  pub nodes : Nodes K ns
  pub few : length ns ≤ 65534
  pub left : f < suc (suc (length ns))
  pub right : g < suc (suc (length ns))

-- the number at once, or two numbers whose combination is to be made
abbrev pub Ended : Operation → List ℕ → List Node → ℕ → ℕ → Option ℕ → Type 0
Ended op K ns f g (Some r) = (r < 65536) × Answers ns r (combined op K (family ns f) (family ns g))
Ended op K ns f g None = Two f g

-- what ended ensures, whatever the keys and the nodes
abbrev pub Ends : Operation → ℕ → ℕ → Option ℕ → Type 0
Ends op f g r = (K : List ℕ) (ns : List Node) → Pair K ns f g → Combinable op ns f g → Ended op K ns f g r

-- the key of a number's label, or 2 ^ 32 for 0 and 1
pub record Top (K : List ℕ) (ns : List Node) (f r : ℕ) : Type 0 where
  pub end : f < 2 → r ≡ 4294967296
  pub key_of : 2 ≤ f → (r ≡ get_or K (get_or ns (f - 2) blank).label 0) × (r < 4294967296)

-- the parts of f and g at the first label of the two
pub record Cut (op : Operation) (K : List ℕ) (ns : List Node) (f g label f1 g1 f0 g0 : ℕ) : Type 0 where
  pub label-known : label < length K
  pub f1_known : f1 < suc (suc (length ns))
  pub g1_known : g1 < suc (suc (length ns))
  pub f0_known : f0 < suc (suc (length ns))
  pub g0_known : g0 < suc (suc (length ns))
  pub falls1 : f1 + g1 < f + g
  pub falls0 : f0 + g0 < f + g
  pub hi_combinable : Combinable op ns f1 g1
  pub lo_combinable : Combinable op ns f0 g0
  pub split : Split K (combined op K (family ns f) (family ns g)) label (combined op K (family ns f1) (family ns g1)) (combined op K (family ns f0) (family ns g0))
