-- The kiosk's forms of the soundness check and of count: the nodes are lent as a list of triples, their number n beside it. They promise what the
-- check and count promise of the table whose words are n and then the triples': so a number of nodes above the list's length or 65534 is 4, and so is
-- a triple past that number that is not all 0. Assumes nothing.
use Rattle.std.specs.Prelude.{List, [], ◌∷◌, ℕ}
use Rattle.zdd.specs.Table.{Node}
use Rattle.exact_cover.specs.Problem.{Problem}
use Rattle.statement.specs.Replies.{Reply}
use Rattle.statement.specs.Postconditions.{CheckPost, CountPost}

unfoldable pub words_of : List Node → List ℕ
words_of [] = []
words_of (x ∷ ns) = x.label ∷ x.lo ∷ x.hi ∷ words_of ns

abbrev pub table_of : ℕ → List Node → List ℕ
table_of n ns = n ∷ words_of ns

abbrev pub KioskCheckPost : (Q : Problem) (m n : ℕ) (ns : List Node) → Reply (Unit {0}) → Type 0
KioskCheckPost Q m n ns = CheckPost Q m (table_of n ns)

abbrev pub KioskCountPost : (Q : Problem) (m n : ℕ) (ns : List Node) (a words : ℕ) → Reply ℕ → Type 0
KioskCountPost Q m n ns a words = CountPost Q m (table_of n ns) a words
