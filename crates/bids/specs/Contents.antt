-- What a bids file says, whatever its version: schools, slots, packages with their costs, and which slots are optional; what the engine is lent of it, and
-- the tests that look at nothing else. Assumes nothing.
use Rattle.std.specs.Prelude.{Bool, not, ◌&&◌, ◌||◌, List, map, ℕ, ◌+◌, ◌*◌, ◌^◌, eqb, ltb, length, get_or}
use Rattle.itemset.specs.Items.{belowb}
use Rattle.exact_cover.specs.Problem.{Problem, up_to}
use Rattle.bids.specs.Ranges.{first, some}
use Rattle.bids.specs.declared.School.{School}
use Rattle.bids.specs.declared.Package.{Package}

-- T, the set of optional slots, and the S schools and N packages in their order
pub record Contents : Type 0 where
  pub slots : ℕ
  pub optional : ℕ
  pub schools : List School
  pub packages : List Package

-- ---- schools and packages

-- the same school: the same site and the same number
unfoldable pub same_school : School → School → Bool
same_school u v = eqb u.site v.site && eqb u.number v.number

-- the same package: the same school and the same slots
unfoldable pub same_package : Package → Package → Bool
same_package p q = same_school p.school q.school && eqb p.slots q.slots

-- school j of the list, and package k (past the end: zeros)
abbrev pub nth_school : List School → ℕ → School
nth_school us j = get_or us j (record { site = 0; number = 0 })

abbrev pub nth_package : List Package → ℕ → Package
nth_package ps k = get_or ps k (record { school = record { site = 0; number = 0 }; slots = 0; cost = 0 })

-- which of the first n schools is u; n where none of them is
unfoldable pub school_in : List School → ℕ → School → ℕ
school_in us n u = first (λ j. same_school (nth_school us j) u) n

-- which of the first n packages is p; n where none of them is
unfoldable pub package_in : List Package → ℕ → Package → ℕ
package_in ps n p = first (λ k. same_package (nth_package ps k) p) n

-- ---- what the engine is lent: school j is item j, slot t is item S + t

-- the items of a package, its school and its slots
unfoldable pub items_of : List School → Package → ℕ
items_of us p = 2 ^ school_in us (length us) p.school + p.slots * 2 ^ length us

unfoldable pub packages_of : Contents → List ℕ
packages_of x = map (items_of x.schools) x.packages

unfoldable pub costs_of : Contents → List ℕ
costs_of x = map (λ (p : Package). p.cost) x.packages

-- M, and the optional items: the set of optional slots, shifted by S
abbrev pub item_count : Contents → ℕ
item_count x = length x.schools + x.slots

unfoldable pub optional_of : Contents → ℕ
optional_of x = x.optional * 2 ^ length x.schools

-- the problem that the file states, in the plain order
abbrev pub problem_in : Contents → Problem
problem_in x = record { packages = packages_of x; optional = optional_of x; order = up_to (item_count x) }

-- ---- the tests

-- 31 stray optional slot: an optional slot of T or above
unfoldable pub stray_optional : Contents → Bool
stray_optional x = not (belowb x.optional x.slots)

-- 25 school twice: some school is among those before it
unfoldable pub school_twice : List School → Bool
school_twice us = some (λ j. ltb (school_in us j (nth_school us j)) j) (length us)

-- 26 stray: a package's school is not listed, or it has a slot of T or above
unfoldable pub strayb : List School → ℕ → Package → Bool
strayb us t p = not (ltb (school_in us (length us) p.school) (length us)) || not (belowb p.slots t)

unfoldable pub stray : Contents → Bool
stray x = some (λ k. strayb x.schools x.slots (nth_package x.packages k)) (length x.packages)

-- 27 package twice: some package is among those before it
unfoldable pub package_twice : List Package → Bool
package_twice ps = some (λ k. ltb (package_in ps k (nth_package ps k)) k) (length ps)
