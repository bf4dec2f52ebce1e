-- What every call establishes first: the packages and the table are good, the keys are computed and the nodes indexed. Assumes nothing.
use Rattle.std.specs.Prelude.{◌≡◌, Bool, true, false, not, List, [], ◌∷◌, ℕ, length}
use Rattle.zdd.specs.Table.{Sound, Keys}
use Rattle.exact_cover.specs.Problem.{Problem, Rows}
use Rattle.exact_cover.specs.Cover.{keys_of, Keyed}
use Rattle.table.specs.State.{Fresh, Indexed}
use Rattle.statement.specs.Refusals.{stray_optional, nothing_compulsory, unsound, check_refusal, Fit}

-- 29 and 30
abbrev pub optional_tests : Problem → ℕ → List (Bool × ℕ)
optional_tests Q m = (stray_optional m Q, 29) ∷ (nothing_compulsory Q, 30) ∷ []

-- the arrays before the check
pub record Blank (keys index : List ℕ) : Type 0 where
  pub keys-long : length keys ≡ 512
  pub fresh : Fresh index

-- 4 does not apply: the table is sound, the keys are computed and the nodes indexed
pub record Usable (Q : Problem) (t keys index : List ℕ) : Type 0 where
  pub unspoilt : unsound Q t ≡ false
  pub rows : Rows Q
  pub apart : Keys (keys_of Q)
  pub keyed : Keyed Q keys
  pub sound : Sound (keys_of Q) t
  pub indexed : Indexed t index

-- ok says whether 4 does not apply
pub record Tested (Q : Problem) (t keys index : List ℕ) (ok : Bool) : Type 0 where
  pub says : ok ≡ not (unsound Q t)
  pub usable : ok ≡ true → Usable Q t keys index

-- r is the refusal of the soundness check: 1, 2, 29, 30, 34, 4, or 0 for none
pub record Admitted (Q : Problem) (m : ℕ) (t keys index : List ℕ) (r : ℕ) : Type 0 where
  pub says : r ≡ check_refusal Q m t
  pub fit : r ≡ 0 → Fit Q m
  pub usable : r ≡ 0 → Usable Q t keys index
