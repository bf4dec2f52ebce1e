-- The calls that make an answer: `Call` is the enum of the code (`src/lib.rt`). For each its operands, the family that it makes, its steps, its refusal.
-- Q is the problem, m is M, t has the table's words, and `words` is the number of working words. Assumes nothing.
use Rattle.std.specs.Prelude.{Bool, ◌||◌, List, [], ◌∷◌, ℕ, ◌+◌, max}
use Rattle.itemset.specs.Words.{value}
use Rattle.zdd.specs.Table.{Family}
use Rattle.zdd.specs.Operations.{union, inter, differ, including, excluding, join}
use Rattle.exact_cover.specs.Problem.{Problem}
use Rattle.exact_cover.specs.Cover.{keys_of, covering}
use Rattle.exact_cover.specs.Steps.{steps}
use Rattle.query.specs.Questions.{family_at, unknown_package}
use Rattle.statement.specs.declared.Call.{Call}
use Rattle.statement.specs.declared.Call.TheVariants.{Cover, Either, Both, Only, With, Without, Join}
use Rattle.statement.specs.Refusals.{first_of, table_tests, unknown_answer, unknown_item, overlap, short_work, places, spent, full}

-- the answers that it reads
abbrev pub operands : Call → List ℕ
operands (Cover d limit) = []
operands (Either a b) = a ∷ b ∷ []
operands (Both a b) = a ∷ b ∷ []
operands (Only a b) = a ∷ b ∷ []
operands (With a p) = a ∷ []
operands (Without a p) = a ∷ []
operands (Join a b) = a ∷ b ∷ []

-- the family that it makes
abbrev pub family_of : (Q : Problem) (t : List ℕ) → Call → Family
family_of Q t (Cover d limit) = covering Q (value d)
family_of Q t (Either a b) = union (keys_of Q) (family_at t a) (family_at t b)
family_of Q t (Both a b) = inter (keys_of Q) (family_at t a) (family_at t b)
family_of Q t (Only a b) = differ (keys_of Q) (family_at t a) (family_at t b)
family_of Q t (With a p) = including (keys_of Q) p (family_at t a)
family_of Q t (Without a p) = excluding (keys_of Q) p (family_at t a)
family_of Q t (Join a b) = join (keys_of Q) (family_at t a) (family_at t b)

-- its steps
abbrev pub steps_of : Problem → Call → ℕ → ℕ
steps_of Q (Cover d limit) words = steps Q (places words) (value d)
steps_of Q (Either a b) words = 0
steps_of Q (Both a b) words = 0
steps_of Q (Only a b) words = 0
steps_of Q (With a p) words = 0
steps_of Q (Without a p) words = 0
steps_of Q (Join a b) words = 0

-- the tests of a call on two answers that makes F: 5 is said of either
abbrev pub pair_tests : (t : List ℕ) (a b : ℕ) (F : Family) (words : ℕ) → List (Bool × ℕ)
pair_tests t a b F words =
    (unknown_answer t a || unknown_answer t b, 5) ∷
    (short_work 2 words, 8) ∷
    (full t F, 10) ∷
    []

-- of one on an answer and a package
abbrev pub part_tests : (packages t : List ℕ) (a p : ℕ) (F : Family) (words : ℕ) → List (Bool × ℕ)
part_tests packages t a p F words =
    (unknown_answer t a, 5) ∷
    (unknown_package packages p, 6) ∷
    (short_work 2 words, 8) ∷
    (full t F, 10) ∷
    []

-- the least working words of join: one more than the larger answer, and at least 2 [document 02, No. 5]
abbrev pub join_least : (a b : ℕ) → ℕ
join_least a b = max (max a b) 1 + 1

-- of join: 35 stands behind 5
abbrev pub join_tests : (Q : Problem) (t : List ℕ) (a b : ℕ) (F : Family) (words : ℕ) → List (Bool × ℕ)
join_tests Q t a b F words =
    (unknown_answer t a || unknown_answer t b, 5) ∷
    (overlap Q t a b, 35) ∷
    (short_work (join_least a b) words, 8) ∷
    (full t F, 10) ∷
    []

-- of cover of the item set d
abbrev pub cover_tests : (Q : Problem) (m : ℕ) (t : List ℕ) (d limit words : ℕ) → List (Bool × ℕ)
cover_tests Q m t d limit words =
    (unknown_item m d, 7) ∷
    (short_work 4 words, 8) ∷
    (spent Q d limit words, 9) ∷
    (full t (covering Q d), 10) ∷
    []

-- the call's own tests, behind those of the packages and the table
abbrev pub call_tests : (Q : Problem) (m : ℕ) (t : List ℕ) → Call → ℕ → List (Bool × ℕ)
call_tests Q m t (Cover d limit) words = cover_tests Q m t (value d) limit words
call_tests Q m t (Either a b) words = pair_tests t a b (family_of Q t (Either a b)) words
call_tests Q m t (Both a b) words = pair_tests t a b (family_of Q t (Both a b)) words
call_tests Q m t (Only a b) words = pair_tests t a b (family_of Q t (Only a b)) words
call_tests Q m t (With a p) words = part_tests Q.packages t a p (family_of Q t (With a p)) words
call_tests Q m t (Without a p) words = part_tests Q.packages t a p (family_of Q t (Without a p)) words
call_tests Q m t (Join a b) words = join_tests Q t a b (family_of Q t (Join a b)) words

unfoldable pub call_refusal : (Q : Problem) (m : ℕ) (t : List ℕ) → Call → ℕ → ℕ
call_refusal Q m t c words = first_of (table_tests Q m t (call_tests Q m t c words))

-- cover's, of the item set d as a number: `call_refusal` of `Cover` at the number of its set
abbrev pub cover_refusal : (Q : Problem) (m : ℕ) (t : List ℕ) (d limit words : ℕ) → ℕ
cover_refusal Q m t d limit words = first_of (table_tests Q m t (cover_tests Q m t d limit words))
