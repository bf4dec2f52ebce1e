-- What the program prints (document 01, "Program"): it reads a bids file, with a table of 5401 words, 3604 working words, a page of 64 and B = 1000000,
-- and covers all items. 3604 working words are 901 places of cover's memo, four words each [document 02, No. 7]. Assumes nothing.
use Rattle.std.specs.Prelude.{◌≡◌, true, false, List, [], ◌∷◌, ◌++◌, ℕ, zero, suc, ◌+◌, ◌≤◌, min, eqb, length, replicate, take}
use Rattle.zdd.specs.Table.{Family, nodes_of, elem}
use Rattle.zdd.specs.Branches.{missing}
use Rattle.exact_cover.specs.Cover.{covering}
use Rattle.exact_cover.specs.Steps.{steps}
use Rattle.query.specs.Questions.{family_at, nth, position, cheapest}
use Rattle.statement.specs.Examples.{all_items}
use Rattle.exact_cover.specs.Problem.{Problem}
use Rattle.statement.specs.Calls.{cover_refusal}
use Rattle.statement.specs.Refusals.{Fit, first_of, unsound, unknown_answer, uncountable}
use Rattle.bids.specs.Contents.{costs_of, problem_in}
use Rattle.bids.specs.Format.{version1, schools, slots, contents, refusal}
use Rattle.printout.specs.Text.{head, timetable_line, cheapest_line, none_line, refused_line}

-- the line of the refusal n, or the text where there is none
abbrev pub unless : ℕ → List ℕ → List ℕ
unless zero ts = ts
unless (suc n) ts = refused_line (suc n)

-- the lines of the first n timetables of F, with the costs C
unfoldable pub timetable_lines : List ℕ → Family → ℕ → List ℕ
timetable_lines C F zero = []
timetable_lines C F (suc k) = timetable_lines C F k ++ timetable_line C k (nth F k)

-- the last line: the place of the cheapest timetable, or that there is none
unfoldable pub last_line : List ℕ → Family → List ℕ
last_line C F = elim (eqb (length F) 0) [ true ↦ none_line | false ↦ cheapest_line (position (cheapest C F) F) ]

-- the lines of the answer F, at most ten timetables
unfoldable pub sheet : (s t n : ℕ) (C : List ℕ) (F : Family) (made steps : ℕ) → List ℕ
sheet s t n C F made steps = head s t n made steps (length F) ++ (timetable_lines C F (min (length F) 10) ++ last_line C F)

-- the text of the answer F: count refuses what 64 bits do not hold, and nothing else of cover's answers
unfoldable pub answer_text : (s t n : ℕ) (C : List ℕ) (F : Family) (made steps : ℕ) → List ℕ
answer_text s t n C F made steps = unless (first_of ((uncountable F, 11) ∷ [])) (sheet s t n C F made steps)

-- the table before the call
unfoldable pub blank : List ℕ
blank = replicate 5401 0

-- the text for s schools and t slots, the problem Q and the costs C
unfoldable pub solved : (s t : ℕ) (Q : Problem) (C : List ℕ) → List ℕ
solved s t Q C =
    unless (cover_refusal Q (s + t) blank (all_items (s + t)) 1000000 3604)
    (answer_text s t (length Q.packages) C (covering Q (all_items (s + t))) (missing (nodes_of blank) (covering Q (all_items (s + t)))) (steps Q 901 (all_items (s + t))))

-- the text for the file b, which is to be of version 1
unfoldable pub printed : List ℕ → List ℕ
printed b = unless (refusal version1 b) (solved (schools b) (slots b) (problem_in (contents version1 b)) (costs_of (contents version1 b)))

-- what a program may write that has read n bytes of a file into its buffer, as many as the file has and no more than the buffer holds: what f gives for
-- every file that begins so
abbrev pub WrittenFor : (f : List ℕ → List ℕ) (buffer : List ℕ) (n : ℕ) (text : List ℕ) → Type 0
WrittenFor f buffer n text = (b : List ℕ) → take (length buffer) b ≡ take n buffer → text ≡ f b

abbrev pub PrintedFor : (buffer : List ℕ) (n : ℕ) (text : List ℕ) → Type 0
PrintedFor buffer n text = WrittenFor printed buffer n text

-- ---- what the steps of the program know

-- what cover leaves for the questions to its answer a, with so many working words
pub record Askable (Q : Problem) (m : ℕ) (t : List ℕ) (a words : ℕ) : Type 0 where
  pub fit : Fit Q m
  pub sound : unsound Q t ≡ false
  pub known : unknown_answer t a ≡ false
  pub room : a + 1 ≤ words
  pub short : (s : List ℕ) → elem s (family_at t a) ≡ true → length s ≤ 64

-- and count was not refused
pub record Listable (Q : Problem) (m : ℕ) (t : List ℕ) (a words : ℕ) : Type 0 where
  pub askable : Askable Q m t a words
  pub few : length (family_at t a) ≤ 18446744073709551615
