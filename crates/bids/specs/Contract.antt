-- What the functions of bids promise. Assumes nothing.
use Rattle.std.specs.Prelude.{◌≡◌, not, ◌||◌, List, [], ◌∷◌, ℕ, ◌+◌, ◌*◌, ◌^◌, ◌<◌, ◌≤◌, eqb, ltb, length, Result, Ok, Err}
use Rattle.itemset.specs.Words.{value, spread}
use Rattle.statement.specs.Refusals.{first_of}
use Rattle.statement.specs.declared.Refusal.{Refusal}
use Rattle.statement.specs.Replies.{Reply, refused, gives, reply, number_of}
use Rattle.statement.specs.Postconditions.{written}
use Rattle.bids.specs.Contents.{packages_of, costs_of, optional_of, items_of, school_in, nth_package}
use Rattle.bids.specs.Format.{markb, file_length, school_at, package_at, contents, refusal, schools_in, packages_in}
use Rattle.bids.specs.Format as F
use Rattle.bids.specs.declared.Layout.{Layout}
use Rattle.bids.specs.declared.Header.{Header}
use Rattle.bids.specs.declared.School.{School}
use Rattle.bids.specs.declared.Package.{Package}
use Rattle.bids.specs.declared.Bids.{Bids}

-- ---- the layout and the cursor

-- a layout whose set of optional slots has at most 64 bits and stands behind N, with sites of one byte or two: both versions are such
pub record Legible (L : Layout) : Type 0 where
  pub header : (9 ≤ L.header) × (L.header ≤ 17)
  pub site : (1 ≤ L.site) × (L.site ≤ 2)

-- a number of `width` bytes at the place `at`: its value v is the one wanted, and n is the place past it
pub record FieldPost (wanted at width v n : ℕ) : Type 0 where
  pub value : v ≡ wanted
  pub next : n ≡ at + width
  pub small : v < 256 ^ width

-- the header of the file b: whether its mark is right, its version and its counts
pub record HeaderPost (b : List ℕ) (h : Header) : Type 0 where
  pub marked : h.marked ≡ markb b
  pub version : h.version ≡ F.version b
  pub schools : h.schools ≡ F.schools b
  pub slots : h.slots ≡ F.slots b
  pub packages : h.packages ≡ F.packages b
  pub small : (h.schools < 256) × ((h.slots < 256) × (h.packages < 65536))

-- the school record at the place `at`, and the package record: its school u, its package p, and n is the place past it
pub record SchoolPost (L : Layout) (b : List ℕ) (at : ℕ) (u : School) (n : ℕ) : Type 0 where
  pub school : u ≡ school_at L b at
  pub next : n ≡ at + (L.site + 1)

pub record PackagePost (L : Layout) (b : List ℕ) (at : ℕ) (p : Package) (n : ℕ) : Type 0 where
  pub bid : p ≡ package_at L b at
  pub small : p.cost < 65536
  pub next : n ≡ at + (L.site + 11)

-- ---- the steps of the reader

-- what the tests of a header leave: the file has the length that its s schools, t slots and n packages ask, and these are few
pub record Sized (L : Layout) (b : List ℕ) (s t n : ℕ) : Type 0 where
  pub legible : Legible L
  pub long : length b ≡ file_length L s n
  pub items : s + t ≤ 64
  pub few : n ≤ 512
  pub counts : (s ≡ F.schools b) × ((t ≡ F.slots b) × (n ≡ F.packages b))

-- what a file b of s schools, t slots and n packages must be for its packages to be written
pub record Fillable (L : Layout) (b : List ℕ) (s t n : ℕ) : Type 0 where
  pub sized : Sized L b s t n
  pub known : (k : ℕ) → k < n → school_in (schools_in L b) s (nth_package (packages_in L b) k).school < s
  pub inside : (k : ℕ) → k < n → items_of (schools_in L b) (nth_package (packages_in L b) k) < 2 ^ 64

-- ---- the reader

-- what it returns: S, T, N and the optional items, or the number of the refusal
abbrev pub read_reply : Result Bids Refusal → Reply (ℕ × (ℕ × (ℕ × ℕ)))
read_reply (Ok r) = gives (r.schools, (r.slots, (r.packages, value r.optional)))
read_reply (Err e) = refused (number_of e)

-- its refusal of the file b with p words for the packages, three each, and c places for the costs: the file's own, and last 15 [document 01: short page]
-- where there is no room for N packages or for N costs
unfoldable pub read_refusal : Layout → List ℕ → ℕ → ℕ → ℕ
read_refusal L b p c =
    first_of (
    (not (eqb (refusal L b) 0), refusal L b) ∷
    (ltb p (3 * F.packages b) || ltb c (F.packages b), 15) ∷
    [])

-- what it gives of an accepted file
abbrev pub read_gives : Layout → List ℕ → ℕ × (ℕ × (ℕ × ℕ))
read_gives L b = (F.schools b, (F.slots b, (F.packages b, optional_of (contents L b))))

-- its answer r to the file b; p and c are the buffers before, p' and c' after: the words of the item sets and the costs stand at their start and the
-- rest is unchanged, as all is after a refusal. The sets of these words are the item sets again (proofs/Packed)
pub record ReadPost (L : Layout) (b : List ℕ) (r : Reply (ℕ × (ℕ × (ℕ × ℕ)))) (p p' c c' : List ℕ) : Type 0 where
  pub answer : r ≡ reply (read_refusal L b (length p) (length c)) (read_gives L b)
  pub items : p' ≡ written (read_refusal L b (length p) (length c)) (spread 3 (packages_of (contents L b))) p
  pub costs : c' ≡ written (read_refusal L b (length p) (length c)) (costs_of (contents L b)) c
