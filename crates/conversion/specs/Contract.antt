-- What the converters promise. Assumes nothing.
use Rattle.std.specs.Prelude.{◌≡◌, Bool, true, false, not, ◌&&◌, List, [], ◌∷◌, ◌++◌, ℕ, ◌+◌, ◌-◌, ◌*◌, eqb, ltb, length}
use Rattle.std.proofs.lemmas.List.Edits.{sets}
use Rattle.itemset.specs.Items.{belowb}
use Rattle.statement.specs.Refusals.{first_of}
use Rattle.statement.specs.Replies.{Reply, reply}
use Rattle.statement.specs.Postconditions.{written}
use Rattle.bids.specs.Ranges.{some}
use Rattle.bids.specs.Contents.{Contents, nth_school}
use Rattle.bids.specs.Format.{version1, version2, version, contents, cut, refusal}
use Rattle.bids.specs.declared.Layout.{Layout}
use Rattle.bids.specs.declared.School.{School}
use Rattle.conversion.specs.Writing.{file_of}

-- ---- refusals

-- 32 wide site: a listed school's site does not fit a site of the layout, with packages or without
unfoldable pub wide_site : Layout → List School → Bool
wide_site L us = some (λ j. not (belowb (nth_school us j).site (8 * L.site))) (length us)

-- 33 optional slots present: the set of optional slots does not fit the layout's header. In version 1, which has no byte for it, that is any slot
unfoldable pub optional_present : Layout → Contents → Bool
optional_present L x = not (belowb x.optional (8 * (L.header - 9)))

-- what the layout has no room for
abbrev pub lost_tests : Layout → Contents → List (Bool × ℕ)
lost_tests L x =
    (wide_site L x.schools, 32) ∷
    (optional_present L x, 33) ∷
    []

-- the refusal of converting the file b, lent `room` bytes for the other: all of the reader's own, then 32, 33, and last 15, the file does not fit the buffer
unfoldable pub convert_refusal : (from to : Layout) → List ℕ → (room : ℕ) → ℕ
convert_refusal from to b room =
    first_of (
    (not (eqb (refusal from b) 0), refusal from b) ∷
    (lost_tests to (contents from b) ++
    ((ltb room (length (file_of to (contents from b))), 15) ∷ [])))

-- ---- the converters

-- whether the file says that it is of version 2; a file that is cut says nothing
unfoldable pub says2 : List ℕ → Bool
says2 b = not (cut b) && eqb (version b) 2

-- the first layout where the test holds, otherwise the second
abbrev pub choose : Bool → Layout → Layout → Layout
choose true L M = L
choose false L M = M

-- the layout of the version that the file says it has, and the other one. Of a file that says neither version it is version 1's, whose reader refuses it
abbrev pub own_layout : List ℕ → Layout
own_layout b = choose (says2 b) version2 version1

abbrev pub other_layout : List ℕ → Layout
other_layout b = choose (says2 b) version1 version2

-- the answer r to the file b, the length written or the refusal; out is the buffer before, out' after: the file of the other layout that says the same stands at its start, and the rest is
-- unchanged, as all is after a refusal
pub record ConvertPost (from to : Layout) (b : List ℕ) (r : Reply ℕ) (out out' : List ℕ) : Type 0 where
  pub answer : r ≡ reply (convert_refusal from to b (length out)) (length (file_of to (contents from b)))
  pub file : out' ≡ written (convert_refusal from to b (length out)) (file_of to (contents from b)) out

-- ---- its steps

-- the bytes vs were put into the buffer at the place `at`, and n is the place past them
pub record PutPost (out : List ℕ) (at : ℕ) (vs : List ℕ) (out' : List ℕ) (n : ℕ) : Type 0 where
  pub stored : out' ≡ sets out at vs
  pub next : n ≡ at + length vs
