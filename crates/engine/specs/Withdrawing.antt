-- The tests of a withdrawal behind those that every call makes first. Assumes nothing.
use Rattle.std.specs.Prelude.{◌≡◌, List, [], ◌∷◌, ℕ, ◌+◌}
use Rattle.base.specs.Lists.{any}
use Rattle.zdd.specs.Table.{count}
use Rattle.exact_cover.specs.Problem.{Problem}
use Rattle.statement.specs.Refusals.{first_of, unknown_answer, not_rising, short_work}

-- r is their refusal, 0 for none
pub record WithdrawTested (Q : Problem) (t gone answers : List ℕ) (words r : ℕ) : Type 0 where
  pub says : r ≡ first_of ((any (unknown_answer t) answers, 5) ∷ (not_rising Q gone, 36) ∷ (short_work (count t + 2) words, 8) ∷ [])
