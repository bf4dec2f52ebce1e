-- What is written for a file that is to be turned: the whole of it, and of a long file what its first 6870 bytes give. Assumes nothing.
use mathlib.Core.Path.{◌≡◌, refl, sym, ap, ◌∙◌}
use mathlib.Core.Bool.{Bool, true, false}
use mathlib.Core.Logic.{⊎_elim}
use mathlib.Core.List.{List, ◌∷◌, ◌++◌}
use Prim.Native.Nat.{ℕ, ◌≤◌, ◌<◌}
use native.Mathlib.Decide.{dec_lt}
use native.Mathlib.Nat.{eq-zero-or-pos}
use native.Mathlib.Omega.{arith}
use borrow.Author.Tests.{le-ltb}
use lib.ListN.{length, take, drop, length-append}
use lib.Seq.{take_all, take_at, length-take-le}
use Rattle.statement.specs.Refusals.{first_of}
use Rattle.statement.specs.Replies.{Reply, refused, gives}
use Rattle.statement.proofs.FirstOf.{avoided}
use Rattle.statement.proofs.TestLaws.{was_given, was_refused}
use Rattle.bids.specs.Format.{version1, version2, contents, cut, header_tests, record_tests, refusal}
use Rattle.bids.specs.Contract.{Legible}
use Rattle.bids.specs.declared.Layout.{Layout}
use Rattle.bids.proofs.Accepted.{accepted}
use Rattle.bids.proofs.Places.{legible1, legible2}
use Rattle.bids.proofs.Prefix.{longest, longest1, longest2, word_same, enough, all_of_it, short_enough}
use Rattle.bids.proofs.Records.{school_count, package_count}
use Rattle.conversion.specs.Writing.{file_of}
use Rattle.conversion.specs.Contract.{choose, says2, own_layout, other_layout, lost_tests, convert_refusal, ConvertPost}
use Rattle.conversion.proofs.Answers.{by_file, by_lost, converted}
use Rattle.conversion.proofs.Written.{length-file}
use Rattle.printout.specs.Text.{refused_line}
use Rattle.printout.specs.Written.{Holds, Whole}
use Rattle.printout.specs.Program.{unless}
use Rattle.printout.proofs.Room.{refused-short}
use Rattle.printout.proofs.Sheets.{said, unsaid}
use Rattle.console.specs.Turned.{turned, TurnedFor}

-- ---- one layout to another

abbrev turned_as : (from to : Layout) → List ℕ → List ℕ
turned_as from to b = unless (convert_refusal from to b 16384) (file_of to (contents from b))

module _ (from to : Layout) (l : Legible from) where
  -- a long file is turned as its first bytes are
  same_as : (b : List ℕ) (m : ℕ) → longest from < m → 13 ≤ longest from → turned_as from to (take m b) ≡ turned_as from to b
  same_as b m p h =
      ⊎_elim
      (λ (z : refusal from b ≡ 0). ap (turned_as from to) (all_of_it from b m l z (omega arith)))
      (λ (q : 0 < refusal from b).
      let f : refusal from b ≡ 0 → ⊥ = λ z. omega arith in
      sym (said (refusal from b) _ (by_file from to (take m b) 16384 (sym (enough from b m p h)) f) f) ∙ said (refusal from b) _ (by_file from to b 16384 refl f) f)
      (eq-zero-or-pos (refusal from b))

  -- 15 is not said where the longest file has room
  roomy : (b : List ℕ) (room : ℕ) → 9 ≤ to.header → longest to ≤ room → convert_refusal from to b room ≡ 15 → ⊥
  unfolding refusal
  roomy b room h q e = ⊎_elim by_contents by_own (eq-zero-or-pos (refusal from b))
    where
      by_own : 0 < refusal from b → ⊥
      by_own p =
          avoided 15 ((cut b, 20) ∷ (header_tests from b ++ record_tests from b)) tt (sym (by_file from to b room refl (λ z. omega arith)) ∙ e)

      by_contents : refusal from b ≡ 0 → ⊥
      by_contents z =
          let a = accepted z in
          let x = contents from b in
          let long = length-file to x h in
          let short = short_enough to {s = length x.schools} {n = length x.packages} (omega (arith, a.items, school_count from b)) (omega (arith, a.few, package_count from b)) in
          ⊎_elim
          (λ (y : first_of (lost_tests to x) ≡ 0). omega (arith, e, converted from to b room z y (omega arith)))
          (λ (y : 0 < first_of (lost_tests to x)). avoided 15 (lost_tests to x) tt (sym (by_lost from to b room z refl (λ w. omega arith)) ∙ e))
          (eq-zero-or-pos (first_of (lost_tests to x)))

-- ---- by the version that the file says it has

legible : (x : Bool) → Legible (choose x version2 version1)
legible true = legible2
legible false = legible1

enough_of : (x : Bool) → (13 ≤ longest (choose x version2 version1)) × (longest (choose x version2 version1) ≤ 6869)
enough_of true = (omega (arith, longest2), omega (arith, longest2))
enough_of false = (omega (arith, longest1), omega (arith, longest1))

room_for : (x : Bool) → (9 ≤ (choose x version1 version2).header) × (longest (choose x version1 version2) ≤ 16384)
room_for true = (omega arith, omega (arith, longest1))
room_for false = (omega arith, omega (arith, longest2))

-- THEOREM: no file outgrows the program's buffer
pub never_short : (b : List ℕ) → convert_refusal (own_layout b) (other_layout b) b 16384 ≡ 15 → ⊥
never_short b = roomy (own_layout b) (other_layout b) (legible (says2 b)) b 16384 (room_for (says2 b)).0 (room_for (says2 b)).1

says_same : (b : List ℕ) (m : ℕ) → 6870 ≤ m → m < length b → says2 (take m b) ≡ says2 b
unfolding says2 cut
says_same b m p q =
    let l : length (take m b) ≡ m = length-take-le m b (omega arith) in
    rw (le-ltb (length (take m b)) 13 (omega arith), le-ltb (length b) 13 (omega arith), word_same version1 b m (omega (arith, longest1)) (omega (arith, longest1)) 3 (omega arith))

-- THEOREM: a long file gives what its first 6870 bytes give, or more of them
pub same-turned : (b : List ℕ) (m : ℕ) → 6870 ≤ m → turned (take m b) ≡ turned b
unfolding turned
same-turned b m p = go (dec_lt m (length b))
  where
    go : Dec (m < length b) → turned (take m b) ≡ turned b
    go (yes q) =
        let n = enough_of (says2 b) in
        rw (says_same b m p q) (same_as (own_layout b) (other_layout b) (legible (says2 b)) b m (omega arith) n.0)
    go (no q) = ap turned (take_all m b (omega arith))

-- THEOREM: so a program whose buffer has that many places writes, for what it has read of a file, what the whole file gives
pub turned_for : (buffer : List ℕ) (n : ℕ) {room : ℕ} {out : List ℕ} {r : ℕ} → 6870 ≤ length buffer → Whole room out r (turned (take n buffer))
    → TurnedFor buffer n (take r out)
turned_for buffer n h w = λ b e. w.text ∙ ap turned (sym e) ∙ same-turned b (length buffer) h

-- ---- in the buffer

module _ {b out out' : List ℕ} {r : Reply ℕ} (room : length out ≡ 16384) (p : ConvertPost (own_layout b) (other_layout b) b r out out') where
  abbrev file : List ℕ
  file = file_of (other_layout b) (contents (own_layout b) b)

  said_as : convert_refusal (own_layout b) (other_layout b) b (length out) ≡ convert_refusal (own_layout b) (other_layout b) b 16384
  said_as = rw room

  pub turned-said : {n : ℕ} {out'' : List ℕ} {k : ℕ} → r ≡ refused n → length out'' ≡ 16384 → Holds out'' k (refused_line n)
      → Whole 16384 out'' k (turned b)
  unfolding turned
  turned-said {n} e l h =
      let q = was_refused n (convert_refusal (own_layout b) (other_layout b) b (length out)) _ (sym e ∙ p.answer) in
      let t : refused_line n ≡ turned b = said n _ (sym said_as ∙ q.0) q.1 in
      record { long = l; inside = h.inside; text = (h.text (omega (arith, refused-short n))).1 ∙ t }

  pub turned_gave : {n : ℕ} → r ≡ gives n → length out' ≡ 16384 → Whole 16384 out' n (turned b)
  unfolding turned
  turned_gave {n} e l =
      let q = was_given n (convert_refusal (own_layout b) (other_layout b) b (length out)) (length file) (sym e ∙ p.answer) in
      let f : out' ≡ file ++ drop (length file) out = rw q.0 at p.file in
      let t : file ≡ turned b = unsaid file (sym said_as ∙ q.0) in
      record {
        long = l;
        inside = omega (arith, ap length f, length-append file (drop (length file) out), q.1);
        text = rw f (take_at file (drop (length file) out) n (sym q.1)) ∙ t;
      }
