-- The program's text, part by part. Assumes nothing.
use mathlib.Core.Path.{◌≡◌, refl, sym, ap, ap₂, ◌∙◌, subst}
use mathlib.Core.List.{List, [], ◌∷◌, ◌++◌}
use mathlib.Core.Logic.{⊎_elim}
use Prim.Native.Nat.{ℕ, zero, suc, ◌+◌, ◌-◌, ◌*◌, ◌^◌, ◌≤◌, ◌<◌, min}
use native.Mathlib.Nat.{eq-zero-or-pos, min-eq_left}
use native.Mathlib.Numerals.{add-one}
use native.Mathlib.Omega.{arith}
use borrow.Author.Tests.{eq-eqb, ne_eqb, ltb-false}
use lib.ListN.{length, take, replicate, length-replicate}
use Rattle.itemset.specs.Words.{width}
use Rattle.itemset.proofs.Lists.{width_is}
use Rattle.zdd.specs.Table.{Family}
use Rattle.query.specs.Questions.{family_at, nth, position, cheapest}
use Rattle.exact_cover.proofs.Orders.{take-plain}
use Rattle.exact_cover.specs.Problem.{Problem, problem_of, up_to}
use Rattle.statement.specs.Calls.{cover_refusal}
use Rattle.statement.specs.Refusals.{first_of, uncountable, count_refusal}
use Rattle.statement.specs.Postconditions.{CoverPost, CountPost}
use Rattle.statement.specs.Examples.{all_items}
use Rattle.statement.specs.Replies.{Reply, refused, gives, Report}
use Rattle.statement.proofs.FirstOf.{passed}
use Rattle.statement.proofs.Made.{made-missing}
use Rattle.statement.proofs.TestLaws.{was_given, was_refused}
use Rattle.bids.specs.Contents.{packages_of, costs_of, problem_in}
use Rattle.bids.specs.Format.{version1, contents, refusal}
use Rattle.bids.specs.Contract.{read_refusal, ReadPost}
use Rattle.bids.proofs.Answers.{by_file, roomy}
use Rattle.bids.proofs.Places.{legible1}
use Rattle.bids.proofs.Accepted.{accepted_sized}
use Rattle.bids.proofs.Packed.{count_packed, count-costs, packed_problem}
use Rattle.bids.proofs.Readings.{delivered}
use Rattle.printout.specs.Text.{head, timetable_line, cheapest_line, none_line, refused_line}
use Rattle.printout.specs.Written.{Holds, Puts}
use Rattle.printout.specs.Program.{unless, timetable_lines, last_line, sheet, answer_text, blank, solved, printed, Askable}
use Rattle.printout.proofs.Asking.{count_left, cover-refused, cover_answered, askable}

-- ---- a text from the start of the buffer

pub from_start : {out out' : List ℕ} {r : ℕ} {xs : List ℕ} → Puts out 0 out' r xs → Holds out' r xs
from_start p = p [] (record { inside = omega arith; text = λ l. (refl, refl) })

pub holds_same : {out : List ℕ} {r : ℕ} {xs ys : List ℕ} → xs ≡ ys → Holds out r xs → Holds out r ys
holds_same {out} {r} e h = subst (λ (l : List ℕ). Holds out r l) e h

-- ---- refusals

pub said : {k : ℕ} (n : ℕ) (ts : List ℕ) → k ≡ n → (n ≡ 0 → ⊥) → refused_line n ≡ unless k ts
said zero ts e f = absurd (f refl)
said (suc n) ts e f = sym (ap (λ (i : ℕ). unless i ts) e)

pub unsaid : {k : ℕ} (ts : List ℕ) → k ≡ 0 → ts ≡ unless k ts
unsaid ts e = sym (ap (λ (i : ℕ). unless i ts) e)

pub few_of : (F : Family) → first_of ((uncountable F, 11) ∷ []) ≡ 0 → length F ≤ 18446744073709551615
unfolding uncountable
few_of F e = ltb-false 18446744073709551615 (length F) (passed (uncountable F) 10 [] e).0

-- ---- the timetables

module _ (C : List ℕ) (F : Family) where
  pub lines_none : [] ≡ timetable_lines C F 0
  unfolding timetable_lines
  lines_none = refl

  pub lines_more : (k : ℕ) → timetable_lines C F k ++ timetable_line C k (nth F k) ≡ timetable_lines C F (k + 1)
  unfolding timetable_lines
  lines_more k = sym (ap (timetable_lines C F) (add-one k))

  -- the lines of an answer that holds count timetables
  pub sheet-parts : (s t n made steps : ℕ) {k count : ℕ} → k ≡ n → count ≡ length F
      → head s t k made steps count ++ (timetable_lines C F (min count 10) ++ last_line C F) ≡ sheet s t n C F made steps
  unfolding sheet
  sheet-parts s t n made steps d e = rw (d, e)

  pub last_none : 0 ≡ length F → none_line ≡ last_line C F
  unfolding last_line
  last_none e = sym (rw (eq-eqb (length F) 0 (sym e), last_line))

  pub last_some : 0 < length F → cheapest_line (position (cheapest C F) F) ≡ last_line C F
  unfolding last_line
  last_some h = sym (rw (ne_eqb (length F) 0 (λ e. omega arith), last_line))

-- ---- cover's report

pub is_blank : replicate 5401 0 ≡ blank
unfolding blank
is_blank = refl

-- what it is asked to cover
pub all-items : (m : ℕ) {d : ℕ} → m ≤ 64 → d ≡ 2 ^ min m width - 1 → d ≡ all_items m
all-items m h e = e ∙ ap (λ (k : ℕ). 2 ^ k - 1) (min-eq_left (omega (arith, width_is)))

module _ (s t : ℕ) (Q : Problem) (C : List ℕ) {b : List ℕ} {w m d : ℕ} {r : Report} {t' : List ℕ}
    (eb : b ≡ blank) (ew : w ≡ 3604) (em : m ≡ s + t) (small : s + t ≤ 64) (ed : d ≡ 2 ^ min m width - 1) (M : CoverPost Q m b d 1000000 w r t') where
  all-asked : d ≡ all_items (s + t)
  all-asked = all-items (s + t) small (rw em at ed)

  M0 : CoverPost Q (s + t) blank (all_items (s + t)) 1000000 3604 r t'
  M0 = rw (eb, ew, all-asked, em) at M

  pub cover-said : (x : ℕ) → r.outcome ≡ refused x → refused_line x ≡ solved s t Q C
  unfolding solved
  cover-said x o = let q = cover-refused (cover_refusal Q (s + t) blank (all_items (s + t)) 1000000 3604) x M0 o in said x _ q.0 q.1

  pub cover_gave : (a : ℕ) → r.outcome ≡ gives a
      → ((n : ℕ) → n ≡ 3604 → Askable Q m t' a n) × (answer_text s t (length Q.packages) C (family_at t' a) r.made r.steps ≡ solved s t Q C)
  unfolding solved blank
  cover_gave a o =
      let q = cover_answered (cover_refusal Q (s + t) blank (all_items (s + t)) 1000000 3604) a M0 o in
      let g = askable Q (s + t) 1000000 3604 a (length-replicate {A = ℕ} 5401 0) refl small q.0 q.1 o in
      (λ n e. rw (e, em) g.0, rw (g.1, made-missing q.1, q.1.steps) (unsaid _ q.0))

-- ---- count's reply about cover's answer

module _ {Q : Problem} {m : ℕ} {t : List ℕ} {a words : ℕ} {r : Reply ℕ} (A : Askable Q m t a words) (P : CountPost Q m t a words r) (s u made st : ℕ) (C : List ℕ) where
  abbrev lines : List ℕ
  lines = sheet s u (length Q.packages) C (family_at t a) made st

  pub count-said : (x : ℕ) → r ≡ refused x → refused_line x ≡ answer_text s u (length Q.packages) C (family_at t a) made st
  unfolding answer_text
  count-said x e =
      let q = was_refused x (count_refusal Q m t a words) (length (family_at t a)) (sym e ∙ P.result) in
      said x lines (sym (count_left A) ∙ q.0) q.1

  pub count_gave : (x : ℕ) → r ≡ gives x → lines ≡ answer_text s u (length Q.packages) C (family_at t a) made st
  unfolding answer_text
  count_gave x e =
      let q = was_given x (count_refusal Q m t a words) (length (family_at t a)) (sym e ∙ P.result) in
      unsaid lines (sym (count_left A) ∙ q.0)

-- ---- the file

-- buffers for 512 packages are never short
read-refusal : (b : List ℕ) → read_refusal version1 b 1536 512 ≡ refusal version1 b
read-refusal b =
    ⊎_elim
    (λ (z : refusal version1 b ≡ 0).
    let p = accepted_sized version1 b z legible1 refl refl refl in roomy version1 b 1536 512 z (omega (arith, p.few)) p.few ∙ sym z)
    (λ (l : 0 < refusal version1 b). by_file version1 b 1536 512 refl (λ z. omega arith))
    (eq-zero-or-pos (refusal version1 b))

-- what an accepted file leaves
pub record Read (b : List ℕ) (s t n o : ℕ) (p c : List ℕ) : Type 0 where
  pub few : n ≤ 512
  pub small : s + t ≤ 64
  pub problem : problem_of (take (3 * n) p) o (up_to (s + t)) ≡ problem_in (contents version1 b)
  pub costs : take n c ≡ costs_of (contents version1 b)
  pub same-long : length (costs_of (contents version1 b)) ≡ length (packages_of (contents version1 b))
  pub text : solved s t (problem_in (contents version1 b)) (costs_of (contents version1 b)) ≡ printed b

-- and with the first S + T items of the plain order lent, the problem is the one that the file states
pub read_problem : {b : List ℕ} {s t n o : ℕ} {p c : List ℕ} → Read b s t n o p c → (m : ℕ) (order : List ℕ) → m ≡ s + t → order ≡ up_to 192
    → problem_of (take (3 * n) p) o (take m order) ≡ problem_in (contents version1 b)
read_problem {b} {s} {t} {n} {o} {p} g m order e h =
    ap (problem_of (take (3 * n) p) o) (ap₂ take e h ∙ take-plain (s + t) 192 (omega (arith, g.small))) ∙ g.problem

-- the buffers before
abbrev zeros : ℕ → List ℕ
zeros k = replicate k 0

module _ {b : List ℕ} {r : Reply (ℕ × (ℕ × (ℕ × ℕ)))} {p c : List ℕ} (R : ReadPost version1 b r (zeros 1536) p (zeros 512) c) where
  number : read_refusal version1 b (length (zeros 1536)) (length (zeros 512)) ≡ refusal version1 b
  number = rw (length-replicate {A = ℕ} 1536 0, length-replicate {A = ℕ} 512 0) (read-refusal b)

  pub read-said : {n : ℕ} → r ≡ refused n → refused_line n ≡ printed b
  unfolding printed
  read-said {n} e =
      let q = was_refused n (read_refusal version1 b (length (zeros 1536)) (length (zeros 512))) _ (sym e ∙ R.answer) in
      said n _ (sym number ∙ q.0) q.1

  pub read_gave : {s t n o : ℕ} → r ≡ gives (s, (t, (n, o))) → Read b s t n o p c
  unfolding printed
  read_gave e =
      let g = delivered (rw e at R) in
      let k = accepted_sized version1 b g.accepted legible1 refl refl refl in
      record {
        few = omega (arith, g.packages, k.few);
        small = omega (arith, g.schools, g.slots, k.items);
        problem = rw (g.words, g.optional, g.schools, g.slots) (packed_problem version1 b g.accepted);
        costs = g.costs;
        same-long = count-costs version1 b ∙ sym (count_packed version1 b);
        text = rw (g.schools, g.slots) (unsaid _ g.accepted);
      }
