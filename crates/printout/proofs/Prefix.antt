-- THEOREM: a long file prints what its first 6286 bytes print, or more of them. So a program whose buffer has that many places prints, for what it has read
-- of a file, just the text for the whole file. Assumes nothing.
use mathlib.Core.Path.{◌≡◌, refl, sym, ap, ◌∙◌}
use mathlib.Core.List.{List}
use mathlib.Core.Logic.{⊎_elim}
use Prim.Native.Nat.{ℕ, ◌≤◌, ◌<◌}
use native.Mathlib.Nat.{eq-zero-or-pos}
use native.Mathlib.Omega.{arith}
use lib.ListN.{length, take}
use Rattle.bids.specs.Format.{version1, refusal}
use Rattle.bids.proofs.Places.{legible1}
use Rattle.bids.proofs.Prefix.{longest1, enough, all_of_it}
use Rattle.printout.specs.Written.{Whole}
use Rattle.printout.specs.Program.{printed, PrintedFor}
use Rattle.printout.proofs.Sheets.{said}

-- THEOREM
pub same_text : (b : List ℕ) (m : ℕ) → 6286 ≤ m → printed (take m b) ≡ printed b
unfolding printed
same_text b m p =
    ⊎_elim
    (λ (z : refusal version1 b ≡ 0). ap printed (all_of_it version1 b m legible1 z (omega (arith, longest1))))
    (λ (l : 0 < refusal version1 b).
    sym (said (refusal version1 b) _ (enough version1 b m (omega (arith, longest1)) (omega (arith, longest1))) (λ z. omega arith))
    ∙ said (refusal version1 b) _ refl (λ z. omega arith))
    (eq-zero-or-pos (refusal version1 b))

pub printed_for : (buffer : List ℕ) (n : ℕ) {room : ℕ} {out : List ℕ} {r : ℕ} → 6286 ≤ length buffer → Whole room out r (printed (take n buffer)) → PrintedFor buffer n (take r out)
printed_for buffer n h w = λ b e. w.text ∙ ap printed (sym e) ∙ same_text b (length buffer) h
