-- THEOREM: no text is longer than 16384 bytes, so that a buffer of that length always holds it whole. Assumes nothing.
use mathlib.Core.Path.{◌≡◌, refl}
use mathlib.Core.Bool.{Bool, true, false}
use mathlib.Core.List.{List, [], ◌∷◌, ◌++◌}
use Prim.Native.Nat.{ℕ, zero, suc, ◌+◌, ◌*◌, ◌/◌, ◌%◌, ◌≤◌, min}
use native.Mathlib.Omega.{arith}
use lib.Dec.{ltb, eqb}
use lib.ListN.{length, length-append}
use Rattle.zdd.specs.Table.{Family, elem, nodes_of}
use Rattle.zdd.specs.Branches.{missing}
use Rattle.zdd.proofs.Ordered.{nth-elem}
use Rattle.exact_cover.specs.Cover.{covering}
use Rattle.exact_cover.specs.Steps.{steps}
use Rattle.query.specs.Questions.{nth, position, cheapest, cost}
use Rattle.statement.specs.Examples.{all_items}
use Rattle.exact_cover.specs.Problem.{Problem}
use Rattle.statement.specs.Calls.{cover_refusal}
use Rattle.statement.specs.Refusals.{first_of, uncountable}
use Rattle.statement.proofs.Admission.{fit_of}
use Rattle.bids.specs.Contents.{costs_of, problem_in}
use Rattle.bids.specs.Format.{version1, schools, slots, contents, refusal}
use Rattle.bids.proofs.Places.{legible1}
use Rattle.bids.proofs.Accepted.{accepted_sized}
use Rattle.printout.specs.Text.{decimal_in, decimal, field, head, packages_text, timetable_line, cheapest_line, none_line, refused_line, slots_word}
use Rattle.printout.specs.Text.{schools_word, packages_word, nodes_word, steps_word, timetables_word, cost_word, cheapest_word, refused_word, newline}
use Rattle.printout.specs.Written.{Holds, Whole}
use Rattle.printout.specs.Program.{unless, timetable_lines, last_line, sheet, answer_text, blank, solved, printed}
use Rattle.printout.proofs.Asking.{all_short}

digits_short : (d x : ℕ) → length (decimal_in d x) ≤ d
unfolding decimal_in
digits_short zero x = omega arith
digits_short (suc d) x = go (ltb x 10) (digits_short d (x / 10))
  where
    go : (b : Bool) → length (decimal_in d (x / 10)) ≤ d → length {A = ℕ} (elim b [ true ↦ (48 + x) ∷ [] | false ↦ decimal_in d (x / 10) ++ ((48 + x % 10) ∷ []) ]) ≤ suc d
    go true h = omega arith
    go false h = omega (arith, length-append (decimal_in d (x / 10)) ((48 + x % 10) ∷ []))

decimal-short : (x : ℕ) → length (decimal x) ≤ 20
unfolding decimal
decimal-short x = digits_short 20 x

-- two parts
both : {n m : ℕ} (xs ys : List ℕ) → length xs ≤ n → length ys ≤ m → length (xs ++ ys) ≤ n + m
both xs ys h k = omega (arith, length-append xs ys)

line_end : {n : ℕ} (xs : List ℕ) → length xs ≤ n → length (xs ++ newline) ≤ n + 1
line_end xs h = both {m = 1} xs newline h (omega arith)

field-short : {n : ℕ} (word : List ℕ) (x : ℕ) → length word ≤ n → length (field word x) ≤ n + 20
field-short word x h = both word (decimal x) h (decimal-short x)

packages-short : (s : List ℕ) → length (packages_text s) ≤ 21 * length s
unfolding packages_text
packages-short [] = omega arith
packages-short (p ∷ s) = omega (arith, both (field (32 ∷ []) p) (packages_text s) (field-short {n = 1} (32 ∷ []) p (omega arith)) (packages-short s))

line-short : (C : List ℕ) (k : ℕ) (s : List ℕ) → length s ≤ 64 → length (timetable_line C k s) ≤ 1392
unfolding timetable_line
line-short C k s h =
    let a = line_end (packages_text s) (packages-short s) in
    let b = both {n = 1} (58 ∷ []) (packages_text s ++ newline) (omega arith) a in
    let c = both (field cost_word (cost C s)) ((58 ∷ []) ++ (packages_text s ++ newline)) (field-short {n = 6} cost_word (cost C s) (omega arith)) b in
    let d = both (decimal k) (field cost_word (cost C s) ++ ((58 ∷ []) ++ (packages_text s ++ newline))) (decimal-short k) c in
    omega (arith, d)

lines-short : (C : List ℕ) (F : Family) → ((s : List ℕ) → elem s F ≡ true → length s ≤ 64) → (n : ℕ) → n ≤ length F → length (timetable_lines C F n) ≤ 1392 * n
unfolding timetable_lines
lines-short C F f zero h = omega arith
lines-short C F f (suc k) h =
    omega (arith, both (timetable_lines C F k) (timetable_line C k (nth F k)) (lines-short C F f k (omega arith)) (line-short C k (nth F k) (f (nth F k) (nth-elem F k (omega arith)))))

last_short : (C : List ℕ) (F : Family) → length (last_line C F) ≤ 30
unfolding last_line cheapest_line
last_short C F = go (eqb (length F) 0)
  where
    go : (b : Bool) → length {A = ℕ} (elim b [ true ↦ none_line | false ↦ cheapest_line (position (cheapest C F) F) ]) ≤ 30
    go true = omega arith
    go false = line_end (field cheapest_word (position (cheapest C F) F)) (field-short {n = 9} cheapest_word (position (cheapest C F) F) (omega arith))

head-short : (s t n made st count : ℕ) → length (head s t n made st count) ≤ 172
unfolding head
head-short s t n made st count =
    let a = line_end (field timetables_word count) (field-short {n = 12} timetables_word count (omega arith)) in
    let b = both (field steps_word st) _ (field-short {n = 7} steps_word st (omega arith)) a in
    let c = both (field nodes_word made) _ (field-short {n = 7} nodes_word made (omega arith)) b in
    let d = both (field packages_word n) _ (field-short {n = 10} packages_word n (omega arith)) c in
    let e = both (field schools_word s) _ (field-short {n = 9} schools_word s (omega arith)) d in
    both (field slots_word t) _ (field-short {n = 6} slots_word t (omega arith)) e

pub refused-short : (n : ℕ) → length (refused_line n) ≤ 29
unfolding refused_line
refused-short n = line_end (field refused_word n) (field-short {n = 8} refused_word n (omega arith))

unless-short : (k : ℕ) (ts : List ℕ) → (k ≡ 0 → length ts ≤ 16384) → length (unless k ts) ≤ 16384
unless-short zero ts f = f refl
unless-short (suc k) ts f = omega (arith, refused-short (suc k))

sheet-short : (s t n : ℕ) (C : List ℕ) (F : Family) (made st : ℕ) → ((u : List ℕ) → elem u F ≡ true → length u ≤ 64) → length (sheet s t n C F made st) ≤ 16384
unfolding sheet
sheet-short s t n C F made st f =
    let a = both (timetable_lines C F (min (length F) 10)) (last_line C F) (lines-short C F f (min (length F) 10) (omega arith)) (last_short C F) in
    let b = both (head s t n made st (length F)) (timetable_lines C F (min (length F) 10) ++ last_line C F) (head-short s t n made st (length F)) a in
    omega (arith, b)

solved-short : (s t : ℕ) (Q : Problem) (C : List ℕ) → s + t ≤ 64 → length (solved s t Q C) ≤ 16384
unfolding solved answer_text
solved-short s t Q C h = unless-short (cover_refusal Q (s + t) blank (all_items (s + t)) 1000000 3604) _ (λ z.
    unless-short (first_of ((uncountable (covering Q (all_items (s + t))), 11) ∷ [])) _ (λ _.
    sheet-short s t (length Q.packages) C (covering Q (all_items (s + t))) (missing (nodes_of blank) (covering Q (all_items (s + t)))) (steps Q 901 (all_items (s + t)))
    (all_short Q (s + t) (fit_of _ z).0 h)))

-- THEOREM
pub text-fits : (b : List ℕ) → length (printed b) ≤ 16384
unfolding printed
text-fits b =
    let x = contents version1 b in
    unless-short (refusal version1 b) (solved (schools b) (slots b) (problem_in x) (costs_of x)) (λ z.
    solved-short (schools b) (slots b) (problem_in x) (costs_of x) (accepted_sized version1 b z legible1 refl refl refl).items)

-- so such a buffer holds just the text
pub whole : (b : List ℕ) {out : List ℕ} {r : ℕ} → length out ≡ 16384 → Holds out r (printed b) → Whole 16384 out r (printed b)
whole b l h = record { long = l; inside = h.inside; text = (h.text (omega (arith, text-fits b))).1 }
