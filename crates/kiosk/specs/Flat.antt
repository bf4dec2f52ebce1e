-- The words that the functions below the calls leave. Where the list cannot be a table's, word 0 is 4294967295, a number of nodes that no table
-- has room for. Assumes nothing.
use Rattle.std.specs.Prelude.{Bool, cond, ◌&&◌, List, ℕ, zero, suc, ◌+◌, ◌*◌, eqb, leb, ltb, get_or, set}
use Rattle.kiosk.specs.declared.Node.{Node}

-- a triple that is all 0; it stands past the end of a list too
abbrev pub none : Node
none = record { label = 0; lo = 0; hi = 0 }

-- whether a triple is all 0
abbrev pub blankb : Node → Bool
blankb x = eqb x.label 0 && (eqb x.lo 0 && eqb x.hi 0)

-- word 0 of a spoilt table [document 01: spoilt, refusal 4]
abbrev pub spoilt : ℕ
spoilt = 4294967295

-- the words t, spoilt
abbrev pub spoil : List ℕ → List ℕ
spoil t = set t 0 spoilt

-- a triple's words in their order
abbrev pub words3 : Node → ℕ × ℕ × ℕ
words3 x = (x.label, x.lo, x.hi)

-- three words of t from word a on
abbrev pub store : List ℕ → ℕ → ℕ × ℕ × ℕ → List ℕ
store t a w = set (set (set t a w.0) (a + 1) w.1) (a + 2) w.2

-- the triple x in the words of node i + 2
abbrev pub set3 : List ℕ → ℕ → Node → List ℕ
set3 t i x = store t (3 * i + 1) (words3 x)

-- the words t once triple i is dealt with
abbrev pub put3 : List ℕ → ℕ → Node → List ℕ
put3 t i x = cond (ltb i 65534) (set3 t i x) (cond (blankb x) t (spoil t))

-- and once the first k triples of ns are
unfoldable pub filled : List ℕ → List Node → ℕ → List ℕ
filled t ns zero = t
filled t ns (suc k) = put3 (filled t ns k) k (get_or ns k none)

-- the number of nodes, where the list's length is len
abbrev pub numbered : ℕ → ℕ → ℕ
numbered n len = cond (leb n len) n 4294967295

-- the words t with that number, if the triples have not spoilt them
abbrev pub headed : List ℕ → ℕ → ℕ → List ℕ
headed t n len = cond (eqb (get_or t 0 0) 0) (set t 0 (numbered n len)) t
