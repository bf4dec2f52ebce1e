-- THEOREM: of an accepted file the words that the reader writes, three a package, are the packages: a call that is lent them, with the optional items that
-- the reader gives, has the problem that the file states. Assumes nothing.
use mathlib.Core.Path.{◌≡◌, sym, ap, ap₂, ◌∙◌}
use mathlib.Core.Bool.{false, not}
use mathlib.Core.List.{List, [], ◌∷◌, ◌++◌}
use Prim.Native.Nat.{ℕ, ◌+◌, ◌*◌, ◌^◌, ◌≤◌}
use native.Mathlib.Nat.{lt_of_lt_of_le, zero-mul}
use native.Mathlib.Omega.{arith}
use lib.ListN.{length, length-map}
use lib.Pow.{pow_pos, pow_mono}
use borrow.Author.Tests.{lt-ltb}
use Rattle.base.proofs.Bools.{never}
use Rattle.exact_cover.specs.Problem.{problem_of, up_to}
use Rattle.itemset.specs.Items.{belowb}
use Rattle.itemset.specs.Words.{width, sets_of, spread}
use Rattle.itemset.proofs.Lists.{width_is}
use Rattle.itemset.proofs.Stored.{sets_of-spread, length-spread}
use Rattle.statement.proofs.FirstOf.{only-there}
use Rattle.bids.specs.Bytes.{number_at}
use Rattle.bids.specs.Contents.{items_of, item_count, packages_of, costs_of, optional_of, problem_in, stray_optional}
use Rattle.bids.specs.Format.{version1, schools, slots, packages, schools_in, packages_in, optional_slots, contents, cut, wrong_check, header_tests, refusal}
use Rattle.bids.specs.declared.Layout.{Layout}
use Rattle.bids.specs.declared.Package.{Package}
use Rattle.bids.proofs.Fit.{package_fits, few_items}
use Rattle.bids.proofs.Records.{school_count, package_count}
use Rattle.bids.proofs.Accepted.{accepted_listed}

module _ (L : Layout) (b : List ℕ) where
  pub count_packed : length (packages_of (contents L b)) ≡ packages b
  unfolding packages_of
  count_packed = length-map (packages_in L b) (items_of (schools_in L b)) ∙ package_count L b

  pub count-costs : length (costs_of (contents L b)) ≡ packages b
  unfolding costs_of
  count-costs = length-map (packages_in L b) (λ (p : Package). p.cost) ∙ package_count L b

  -- how many words: three for each of N packages
  pub packed_long : length (spread 3 (packages_of (contents L b))) ≡ 3 * packages b
  packed_long = rw (length-spread, count_packed)

  module _ (z : refusal L b ≡ 0) where
    pub packed_sets : sets_of (spread 3 (packages_of (contents L b))) ≡ packages_of (contents L b)
    packed_sets =
        let h : item_count (contents L b) ≤ width = omega (arith, width_is, few_items L b z) in
        sets_of-spread (packages_of (contents L b)) (λ k q. lt_of_lt_of_le (package_fits (contents L b) (accepted_listed L b z) k q).1 (pow_mono h))

    pub packed_problem : problem_of (spread 3 (packages_of (contents L b))) (optional_of (contents L b)) (up_to (schools b + slots b)) ≡ problem_in (contents L b)
    packed_problem =
        ap₂ (λ (xs : List ℕ) (s : ℕ). record { packages = xs; optional = optional_of (contents L b); order = up_to (s + slots b) }) packed_sets (sym (school_count L b))

-- a version 1 file has no optional item
pub none-optional : (b : List ℕ) → optional_of (contents version1 b) ≡ 0
unfolding optional_of optional_slots number_at
none-optional b = zero-mul _

-- so its reader never says 31
none-stray-optional : (b : List ℕ) → stray_optional (contents version1 b) ≡ false
unfolding stray_optional belowb optional_slots number_at
none-stray-optional b = ap not (lt-ltb 0 (2 ^ slots b) (pow_pos (slots b)))

pub never_31 : (b : List ℕ) → refusal version1 b ≡ 31 → ⊥
unfolding refusal
never_31 b e = never (only-there ((cut b, 20) ∷ (header_tests version1 b ++ ((wrong_check b, 23) ∷ []))) _ 31 tt tt tt e).1 (none-stray-optional b)

pub plain_problem : (b : List ℕ) → problem_in (contents version1 b) ≡ record { packages = packages_of (contents version1 b); optional = 0; order = up_to (schools b + slots b) }
plain_problem b =
    ap₂ (λ (o s : ℕ). record { packages = packages_of (contents version1 b); optional = o; order = up_to (s + slots b) }) (none-optional b) (school_count version1 b)
