-- The packages by lead, the memo, and what search and trial ensure. Q is the problem, in the plain order: search works on positions, and cover permutes what it
-- is lent. P is the number of the memo's places. Assumes nothing.
use Rattle.std.specs.Prelude.{◌≡◌, Bool, true, false, List, ℕ, ◌+◌, ◌-◌, ◌*◌, ◌%◌, ◌^◌, ◌<◌, ◌≤◌, ltb, length, get_or, Option, Some, None, Result, Ok, Err}
use Rattle.itemset.specs.Items.{without}
use Rattle.memo.specs.Memo.{key_at, number_at}
use Rattle.zdd.specs.Table.{count, capacity, nodes_of, family, Sound}
use Rattle.zdd.specs.Branches.{missing, no_room}
use Rattle.zdd.specs.Work.{Got}
use Rattle.exact_cover.specs.Problem.{Problem, row, lead, Rows}
use Rattle.exact_cover.specs.Cover.{keys_of, covering, candidates}
use Rattle.exact_cover.specs.Steps.{Walk, store, each, search, steps}
use Rattle.exact_cover.specs.Positions.{Carried}
use Rattle.buckets.specs.Chain.{Index}
use Rattle.table.specs.State.{Grown, Indexed, Obtained}
use Rattle.compile.specs.declared.Run.{Run}
use Rattle.compile.specs.declared.Answer.{Answer}
use Rattle.compile.specs.declared.Failure.{Failure}
use Rattle.compile.specs.declared.Failure.TheVariants.{Spent, Full}

-- ---- the packages by lead: entry p of the index is package p - 1, and 0 is none

unfoldable pub lead_of : Problem → ℕ → ℕ
lead_of Q p = lead Q (row Q (p - 1))

-- and their places in a memo of P places: which these are is said by `Carried`
pub record Packs (Q : Problem) (P : ℕ) (leads homes : List ℕ) : Type 0 where
  pub rows : Rows Q
  pub long : length leads ≡ 706
  pub chain : Index (lead_of Q) 1 193 (length Q.packages + 1) leads
  pub home : (p : ℕ) → p < length Q.packages → get_or homes p 0 < P

-- packages of items of an order, and so few that their words fit
pub record Listed (xs order : List ℕ) : Type 0 where
  pub few : length xs ≤ 512
  pub inside : (p : ℕ) → p < length xs → get_or xs p 0 < 2 ^ length order

-- ---- the memo: each place has a key (0 where it is empty) and a number

-- the numbers are known, and while the flag is down each is that of its key's covers
pub record Held (Q : Problem) (P : ℕ) (t memo : List ℕ) (b : Bool) : Type 0 where
  pub some : 0 < P
  pub long : 4 * P ≤ length memo
  pub values : (j : ℕ) → j < P → number_at memo j < count t + 2
  pub right : b ≡ false → (j : ℕ) → j < P → 0 < key_at P memo j → family (nodes_of t) (number_at memo j) ≡ covering Q (key_at P memo j)

-- a table, its index and the memo, as search asks for them
pub record Searchable (Q : Problem) (P : ℕ) (t index memo : List ℕ) (b : Bool) : Type 0 where
  pub sound : Sound (keys_of Q) t
  pub indexed : Indexed t index
  pub held : Held Q P t memo b

-- ---- the walk

-- w is the walk after n entries with the keys of the memo
pub record Is (P : ℕ) (w : Walk) (n : ℕ) (memo : List ℕ) : Type 0 where
  pub entries : w.entered ≡ n
  pub places : length w.memo ≡ P
  pub keys : (j : ℕ) → j < P → get_or w.memo j 0 ≡ key_at P memo j

-- Search of an A that is not known, once it is entered
abbrev pub tried : Problem → (ℕ → ℕ) → ℕ → Walk → Walk
tried Q h A w = store h A (each (λ (p : ℕ). search Q h (without A (row Q p))) (candidates Q A) w)

-- ---- what search and trial of A, whose place is `at`, ensure: n entries and the flag b before, n' and b' after, f the walk's step. The walk is that of all places
-- h that can be carried along with the packages' places and are `at` for A
pub record Explored (f : (ℕ → ℕ) → Walk → Walk) (Q : Problem) (P : ℕ) (homes : List ℕ) (at A limit : ℕ) (t memo : List ℕ) (n : ℕ) (b : Bool) (t' index' memo' : List ℕ) (a n' : ℕ) (b' over : Bool) : Type 0 where
  pub grown : Grown (keys_of Q) t t'
  pub indexed : Indexed t' index'
  pub same : length memo' ≡ length memo
  -- the limit was not met: the covers of A are got, and the entries and the memo's keys are those of the walk
  pub held : over ≡ false → Held Q P t' memo' b'
  pub got : over ≡ false → Got (keys_of Q) (capacity t) (nodes_of t) b a (nodes_of t') b' (covering Q A)
  pub within : over ≡ false → n' ≤ limit
  pub walk : over ≡ false → (h : ℕ → ℕ) → Carried Q P homes h → h A ≡ at → (w : Walk) → Is P w n memo → Is P (f h w) n' memo'
  -- it was met: the walk exceeds it
  pub spent : over ≡ true → (h : ℕ → ℕ) → Carried Q P homes h → h A ≡ at → (w : Walk) → Is P w n memo → limit < (f h w).entered

abbrev pub Searched : Problem → ℕ → List ℕ → ℕ → ℕ → ℕ → List ℕ → List ℕ → ℕ → Bool → List ℕ → List ℕ → List ℕ → ℕ → ℕ → Bool → Bool → Type 0
Searched Q P homes at A = Explored (λ (h : ℕ → ℕ). search Q h A) Q P homes at A

abbrev pub Tried : Problem → ℕ → List ℕ → ℕ → ℕ → ℕ → List ℕ → List ℕ → ℕ → Bool → List ℕ → List ℕ → List ℕ → ℕ → ℕ → Bool → Bool → Type 0
Tried Q P homes at A = Explored (λ (h : ℕ → ℕ). tried Q h A) Q P homes at A

-- ---- the whole

-- the package index before the first package joins
pub record NoPacks (leads : List ℕ) : Type 0 where
  pub long : length leads ≡ 706
  pub zero : (h : ℕ) → get_or leads h 0 ≡ 0

-- the packages are indexed, and have their places, which are those of the sets in xs
pub record Enlisted (Q : Problem) (xs : List ℕ) (P : ℕ) (leads homes : List ℕ) : Type 0 where
  pub packs : Packs Q P leads homes
  pub home : (p : ℕ) → p < length xs → get_or homes p 0 ≡ get_or xs p 0 % P

-- the search of A, an item set of Q, from a table t on
pub record Sought (Q : Problem) (P A limit : ℕ) (t t' index' : List ℕ) (a n : ℕ) (full over : Bool) : Type 0 where
  pub grown : Grown (keys_of Q) t t'
  pub indexed : Indexed t' index'
  pub got : over ≡ false → Got (keys_of Q) (capacity t) (nodes_of t) false a (nodes_of t') full (covering Q A)
  pub counted : over ≡ false → n ≡ steps Q P A
  pub within : over ≡ false → n ≤ limit
  pub spent : over ≡ true → limit < steps Q P A

-- how a search ended: with a run, of which f says what it says where the limit was not met, or with none, where it was
abbrev pub Ran : (ℕ → ℕ → Bool → Bool → Type 0) → Option Run → Type 0
Ran f (Some r) = f r.answer r.steps r.full false
Ran f None = f 0 0 false true

-- the answer a, after n steps and with m nodes made
pub record CoverFound (Q : Problem) (P A : ℕ) (t t' index' : List ℕ) (a n m : ℕ) : Type 0 where
  pub got : Obtained (keys_of Q) t t' index' a (covering Q A)
  pub counted : n ≡ steps Q P A
  pub exactly : m ≡ missing (nodes_of t) (covering Q A)

pub record Covered (Q : Problem) (P A limit : ℕ) (t t' index' : List ℕ) (a n m : ℕ) (full over : Bool) : Type 0 where
  -- spent is said exactly where the steps exceed the limit
  pub spent : over ≡ ltb limit (steps Q P A)
  -- otherwise full exactly where what is missing exceeds the free places
  pub short : over ≡ false → full ≡ no_room t (covering Q A)
  -- then the table is as it was
  pub back : over ≡ true → t' ≡ t
  pub back_full : full ≡ true → t' ≡ t
  pub answer : over ≡ false → full ≡ false → CoverFound Q P A t t' index' a n m

-- how cover ended: with an answer, or spent, or full
abbrev pub CoverEnded : Problem → ℕ → ℕ → ℕ → List ℕ → List ℕ → List ℕ → Result Answer Failure → Type 0
CoverEnded Q P A limit t t' index' (Ok x) = Covered Q P A limit t t' index' x.answer x.steps x.made false false
CoverEnded Q P A limit t t' index' (Err Spent) = Covered Q P A limit t t' index' 0 0 0 false true
CoverEnded Q P A limit t t' index' (Err Full) = Covered Q P A limit t t' index' 0 0 0 true false

-- no place of the memo has a key
abbrev pub Unkeyed : ℕ → List ℕ → Type 0
Unkeyed P memo = (j : ℕ) → j < P → key_at P memo j ≡ 0
