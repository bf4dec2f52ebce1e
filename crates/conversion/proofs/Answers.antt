-- What the converters refuse, what a refusal leaves, and which numbers there are. Assumes nothing.
use mathlib.Core.Path.{◌≡◌, refl, sym, ap, ◌∙◌}
use mathlib.Core.Bool.{true, not}
use mathlib.Core.List.{List, [], ◌∷◌, ◌++◌}
use Prim.Native.Nat.{ℕ, ◌<◌, ◌≤◌}
use borrow.Author.Tests.{lt-ltb, le-ltb, eq-eqb, ne_eqb}
use lib.Dec.{ltb}
use lib.ListN.{length}
use Rattle.base.specs.Lists.{any}
use Rattle.statement.specs.Refusals.{first_of}
use Rattle.statement.specs.Replies.{Reply, says_only, number_of, refusal_of, reply_of}
use Rattle.statement.proofs.FirstOf.{pass, hit, none, front, behind}
use Rattle.statement.proofs.Sayable.{among_said, first_said}
use Rattle.statement.proofs.TestLaws.{reply-refused, page_left}
use Rattle.bids.specs.Format.{contents, cut, header_tests, record_tests, refusal}
use Rattle.bids.specs.declared.Layout.{Layout}
use Rattle.conversion.specs.Writing.{file_of}
use Rattle.conversion.specs.Contract.{lost_tests, convert_refusal, ConvertPost}
use Rattle.std.specs.Prelude.{Result, Ok, Err}
use Rattle.statement.specs.declared.Refusal.{Refusal}

module _ (from to : Layout) (b : List ℕ) (room : ℕ) where
  pub by_file : {r : ℕ} → r ≡ refusal from b → (r ≡ 0 → ⊥) → convert_refusal from to b room ≡ r
  unfolding convert_refusal
  by_file e f = hit (refusal from b) _ (ap not (ne_eqb (refusal from b) 0 (λ z. f (e ∙ z)))) ∙ sym e

  module _ (z : refusal from b ≡ 0) where
    behind-file : convert_refusal from to b room ≡ first_of (lost_tests to (contents from b) ++ ((ltb room (length (file_of to (contents from b))), 15) ∷ []))
    unfolding convert_refusal
    behind-file = pass (refusal from b) _ (ap not (eq-eqb (refusal from b) 0 z))

    pub by_lost : {r : ℕ} → r ≡ first_of (lost_tests to (contents from b)) → (r ≡ 0 → ⊥) → convert_refusal from to b room ≡ r
    by_lost e f = behind-file ∙ front (lost_tests to (contents from b)) _ (λ y. f (e ∙ y)) ∙ sym e

    module _ (y : first_of (lost_tests to (contents from b)) ≡ 0) where
      pub too_long : room < length (file_of to (contents from b)) → convert_refusal from to b room ≡ 15
      too_long h = behind-file ∙ behind (lost_tests to (contents from b)) _ tt y ∙ hit 15 [] (lt-ltb room (length (file_of to (contents from b))) h)

      pub converted : length (file_of to (contents from b)) ≤ room → convert_refusal from to b room ≡ 0
      converted h =
          behind-file ∙ behind (lost_tests to (contents from b)) _ tt y ∙ pass 15 [] (le-ltb room (length (file_of to (contents from b))) h) ∙ none

-- a refusal leaves the buffer alone
pub convert-refused : {from to : Layout} {b out : List ℕ} (r : Result ℕ Refusal) → convert_refusal from to b (length out) ≡ refusal_of r → (refusal_of r ≡ 0 → ⊥)
    → ConvertPost from to b (reply_of r) out out
convert-refused (Ok n) e f = absurd (f refl)
convert-refused {from} {to} {b} {out} (Err r) e f = record {
  answer = reply-refused (number_of r) (length (file_of to (contents from b))) e f;
  file = page_left (number_of r) (file_of to (contents from b)) out e f;
}

-- THEOREM: the numbers that a converter can say. Going up it says neither 32 nor 33 (`up_never`), nor, since it then says what the reader of version 1 says, 31
pub convert-numbers : {from to : Layout} {b : List ℕ} {r : Reply ℕ} {out out' : List ℕ} → ConvertPost from to b r out out'
    → says_only (20 ∷ 21 ∷ 22 ∷ 24 ∷ 23 ∷ 31 ∷ 25 ∷ 26 ∷ 27 ∷ 32 ∷ 33 ∷ 15 ∷ []) r ≡ true
unfolding any refusal convert_refusal
convert-numbers {from} {to} {b} {out = out} R =
    let n = length (file_of to (contents from b)) in
    ap (says_only _) R.answer
    ∙ first_said (refusal from b) _ (lost_tests to (contents from b) ++ ((ltb (length out) n, 15) ∷ [])) n
    (among_said _ ((cut b, 20) ∷ (header_tests from b ++ record_tests from b)) n refl) refl
