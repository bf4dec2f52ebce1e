-- The file of a layout that says given contents: the layout of bids/specs/Format, written. That it is the one accepted file that says them, byte for byte, is
-- proved (proofs/Restored), so that nothing here has to be believed of the layout. Assumes nothing.
use Rattle.std.specs.Prelude.{List, [], ◌∷◌, ◌++◌, ℕ, ◌-◌, length}
use Rattle.bids.specs.Bytes.{bytes_of, fnv}
use Rattle.bids.specs.Contents.{Contents}
use Rattle.bids.specs.declared.Layout.{Layout}
use Rattle.bids.specs.declared.School.{School}
use Rattle.bids.specs.declared.Package.{Package}

-- PSB, version, S, T, N, and the set of optional slots in the bytes that are left of the header
unfoldable pub header_bytes : Layout → (s t n optional : ℕ) → List ℕ
header_bytes L s t n optional =
    80 ∷ 83 ∷ 66 ∷ (bytes_of 2 L.version ++ (bytes_of 1 s ++ (bytes_of 1 t ++ (bytes_of 2 n ++ bytes_of (L.header - 9) optional))))

-- a school's record: site and number
unfoldable pub school_bytes : Layout → School → List ℕ
school_bytes L u = bytes_of L.site u.site ++ bytes_of 1 u.number

-- a package's record: its school, slot set and cost
unfoldable pub package_bytes : Layout → Package → List ℕ
package_bytes L p = school_bytes L p.school ++ (bytes_of 8 p.slots ++ bytes_of 2 p.cost)

-- the records of a list, one after the other
unfoldable pub joined : {A : Type 0} → (A → List ℕ) → List A → List ℕ
joined f [] = []
joined f (x ∷ xs) = f x ++ joined f xs

-- all that stands before the check
unfoldable pub body_of : Layout → Contents → List ℕ
body_of L x =
    header_bytes L (length x.schools) x.slots (length x.packages) x.optional
    ++ (joined (school_bytes L) x.schools ++ joined (package_bytes L) x.packages)

-- the file, with its check
unfoldable pub file_of : Layout → Contents → List ℕ
file_of L x = body_of L x ++ bytes_of 4 (fnv (body_of L x))
