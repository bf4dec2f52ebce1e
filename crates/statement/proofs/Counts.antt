-- THEOREM: what count returns where its first four tests fail: too few working words come first, then 11 exactly where the number does not fit 64
-- bits. (No example can show this: a family that large does not compute.) Assumes nothing.
use mathlib.Core.Path.{◌≡◌, ap, ◌∙◌}
use mathlib.Core.Bool.{true, not}
use mathlib.Core.List.{List, [], ◌∷◌}
use Prim.Native.Nat.{ℕ, ◌+◌, ◌≤◌, ◌<◌}
use lib.ListN.{length}
use borrow.Author.Tests.{lt-ltb, le-ltb, lt-leb}
use Rattle.zdd.specs.Table.{count, soundb}
use Rattle.exact_cover.specs.Problem.{Problem}
use Rattle.exact_cover.specs.Cover.{keys_of}
use Rattle.statement.specs.Replies.{refused, gives, reply, Reply}
use Rattle.query.specs.Questions.{family_at}
use Rattle.statement.specs.Refusals.{first_of, Fit, unsound, unknown_answer, short_work, uncountable, count_refusal}
use Rattle.statement.specs.Postconditions.{CountPost}
use Rattle.statement.proofs.FirstOf.{pass, hit, none}
use Rattle.statement.proofs.Admission.{table-passes}

module _ (Q : Problem) (m : ℕ) (t : List ℕ) (a words : ℕ) (r : Reply ℕ) (P : CountPost Q m t a words r) (fit : Fit Q m) (sound : soundb (keys_of Q) t ≡ true) (known : a < count t + 2) where
  tests : count_refusal Q m t a words ≡ first_of ((short_work (a + 1) words, 8) ∷ (uncountable (family_at t a), 11) ∷ [])
  unfolding count_refusal unsound unknown_answer
  tests = table-passes t _ fit (ap not sound) ∙ pass 5 _ (lt-leb (count t + 2) a known)

  pub count-short : words < a + 1 → r ≡ refused 8
  unfolding short_work
  count-short w = P.result ∙ ap (λ (n : ℕ). reply n (length (family_at t a))) (tests ∙ hit 8 _ (lt-ltb words (a + 1) w))

  pub count_fits : a + 1 ≤ words → length (family_at t a) ≤ 18446744073709551615 → r ≡ gives (length (family_at t a))
  unfolding short_work uncountable
  count_fits w l =
      P.result
      ∙ ap (λ (n : ℕ). reply n (length (family_at t a)))
      (tests ∙ pass 8 _ (le-ltb words (a + 1) w) ∙ pass 11 _ (le-ltb 18446744073709551615 (length (family_at t a)) l) ∙ none)

  pub count_large : a + 1 ≤ words → 18446744073709551615 < length (family_at t a) → r ≡ refused 11
  unfolding short_work uncountable
  count_large w l =
      P.result
      ∙ ap (λ (n : ℕ). reply n (length (family_at t a)))
      (tests ∙ pass 8 _ (le-ltb words (a + 1) w) ∙ hit 11 _ (lt-ltb 18446744073709551615 (length (family_at t a)) l))
