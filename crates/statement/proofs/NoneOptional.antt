-- THEOREM: with no optional item and in the plain order every refusal is what it was before there were optional items [document 02, No. 1 and 4]: 29, 30 and 34
-- are never said, and the tests behind them are document 01's, by its definitions of keys, covers and steps (`exact_cover`, `proofs/NoneOptional`). Assumes
-- nothing.
use mathlib.Core.Path.{◌≡◌, refl, ap, ◌∙◌}
use mathlib.Core.Bool.{Bool, false, not}
use mathlib.Core.List.{List, ◌∷◌}
use Prim.Native.Nat.{ℕ}
use lib.Dec.{eqb}
use Rattle.base.proofs.Bools.{or_neither}
use Rattle.itemset.specs.Items.{belowb}
use Rattle.itemset.proofs.Laws.{holds-below, holds-none}
use Rattle.exact_cover.specs.Problem.{Problem, done}
use Rattle.exact_cover.proofs.NoneOptional.{none_optional, keys01, covering01, steps01, done_none, keys_as_before, covering_as_before, steps_as_before}
use Rattle.statement.specs.Refusals.{first_of, oversize, stray_package, stray, stray_optional, nothing_compulsory, package_tests, Fit}
use Rattle.statement.proofs.FirstOf.{pass, exchanged}
use Rattle.statement.proofs.TestLaws.{none_stricter}
use Rattle.statement.proofs.Admission.{rows}
use Rattle.statement.proofs.PlainOrder.{Definitions, definitions, Agree, RefusedBy, Exchanges, refused_by, plain_exchanges}

-- ---- with nothing optional, whatever the order

module _ (Q : Problem) (m : ℕ) (e : Q.optional ≡ 0) where
  -- 29 is not said
  pub none-stray : stray_optional m Q ≡ false
  unfolding stray_optional
  none-stray = rw e (ap not (holds-below 0 m (λ i l. holds-none i)))

  -- nor 30: a package without a compulsory item is empty, and 2 was said
  pub none_due : stray m Q.packages ≡ false → nothing_compulsory Q ≡ false
  unfolding stray nothing_compulsory
  none_due =
      none_stricter (stray_package m) (done Q) (λ x s. done_none Q x e ∙ (or_neither (eqb x 0) (not (belowb x m)) s).0) Q.packages

-- ---- and in the plain order

-- document 01's definitions
abbrev pub definitions01 : List ℕ → Definitions
definitions01 ps = record { keys = keys01 ps; covered = covering01 ps; entered = steps01 ps }

module _ (ps : List ℕ) (m : ℕ) where
  -- and its tests of the packages
  abbrev pub package_tests01 : List (Bool × ℕ) → List (Bool × ℕ)
  package_tests01 ts = (oversize m ps, 1) ∷ (stray m ps, 2) ∷ ts

  abbrev Q : Problem
  Q = none_optional m ps

  exchanges01 : Exchanges Q m package_tests01
  exchanges01 ts us h =
      plain_exchanges m ps 0 ts us h
      ∙ exchanged (oversize m ps) 1 _ _ (λ a. exchanged (stray m ps) 2 _ _ (λ b. pass 29 _ (none-stray Q m refl) ∙ pass 30 us (none_due Q m refl b)))

  -- THEOREM: of the tests that every call makes first, 1 and 2 decide
  pub packages_as_before : (ts : List (Bool × ℕ)) → first_of (package_tests Q m ts) ≡ first_of (package_tests01 ts)
  packages_as_before ts = exchanges01 ts ts (λ f. refl)

  -- ---- the tests behind them are document 01's

  agree01 : Fit Q m → Agree m (definitions Q) (definitions01 ps)
  agree01 f = record {
    same_keys = keys_as_before m ps (rows f);
    same-covers = covering_as_before m ps (rows f);
    same-steps = steps_as_before m ps;
  }

  -- THEOREM: for each call, and for the families that the calls make
  pub refusals_as_before : RefusedBy Q m package_tests01 (definitions01 ps)
  refusals_as_before = refused_by Q m package_tests01 (definitions01 ps) exchanges01 agree01
