-- A file is written as it is read: the file of given contents says them, it is accepted where they are sensible, and an accepted file is the one that is
-- written of what it says. Assumes nothing.
use mathlib.Core.Path.{◌≡◌, refl, sym, ap, ◌∙◌}
use mathlib.Core.Bool.{true}
use mathlib.Core.List.{List, [], ◌∷◌}
use Prim.Native.Nat.{ℕ, ◌+◌, ◌-◌, ◌^◌, ◌<◌, ◌≤◌}
use native.Mathlib.Nat.{zero-add}
use native.Mathlib.Omega.{arith}
use borrow.Author.Tests.{eqb-true}
use lib.Dec.{eqb}
use lib.ListN.{length, get_or, take, length-append}
use lib.Seq.{ext_get_or, take_at}
use Rattle.base.proofs.Bools.{and_left, and_right}
use Rattle.statement.specs.Refusals.{first_of}
use Rattle.bids.specs.Bytes.{byte_at, number_at, bytes_of, fnv}
use Rattle.bids.specs.Ranges.{listed}
use Rattle.bids.specs.Contents.{Contents, nth_school, nth_package}
use Rattle.bids.specs.Format.{markb, optional_slots, school_place, package_place, school_at, package_at, schools_in, packages_in, contents, content_tests, refusal}
use Rattle.bids.specs.Format as F
use Rattle.bids.specs.Contract.{Legible}
use Rattle.bids.specs.declared.Layout.{Layout}
use Rattle.bids.specs.declared.School.{School}
use Rattle.bids.specs.declared.Package.{Package}
use Rattle.bids.proofs.Accepted.{Accepted, accepted, unrefused}
use Rattle.bids.proofs.Laws.{length-listed, get_or-listed}
use Rattle.bids.proofs.Places.{header_before, school_before, school_inside, package_inside}
use Rattle.bids.proofs.Records.{school_count, package_count, school_there, package_there}
use Rattle.bids.proofs.Numbers.{Bytes, Stands, stands_moved, stands_left, stands_right, stands_both, stands_whole, whole_stands, byte_stands, stands_byte}
use Rattle.bids.proofs.Numbers.{length_bytes, number_small, number-apart, number_stands, one_stands, stands_number, stands_one, fnv-small}
use Rattle.conversion.specs.Writing.{school_bytes, package_bytes, body_of, file_of}
use Rattle.conversion.proofs.Written.{psb, length_school, length_body, length-file, Parts, apart, together}

-- ---- contents that fit the fields of a layout

pub record SchoolFits (L : Layout) (u : School) : Type 0 where
  pub site : u.site < 256 ^ L.site
  pub number : u.number < 256

pub record PackageFits (L : Layout) (p : Package) : Type 0 where
  pub school : SchoolFits L p.school
  pub slots : p.slots < 256 ^ 8
  pub cost : p.cost < 65536

pub record Fits (L : Layout) (x : Contents) : Type 0 where
  pub version : L.version < 65536
  pub schools : length x.schools < 256
  pub slots : x.slots < 256
  pub packages : length x.packages < 65536
  pub optional : x.optional < 256 ^ (L.header - 9)
  pub each_school : (j : ℕ) → j < length x.schools → SchoolFits L (nth_school x.schools j)
  pub each_package : (k : ℕ) → k < length x.packages → PackageFits L (nth_package x.packages k)

-- ---- a record that is written is read again

module _ {L : Layout} {b : List ℕ} {i : ℕ} where
  school_stands : {u : School} → SchoolFits L u → Stands b i (school_bytes L u) → school_at L b i ≡ u
  unfolding school_bytes
  school_stands {u} f p =
      let q = number-apart L.site u.site _ p in
      let site = number_stands L.site u.site f.site q.0 in
      let number = one_stands f.number q.1 in
      λ t. record { site = site t; number = number t }

  package_stands : {p : Package} → PackageFits L p → Stands b i (package_bytes L p) → package_at L b i ≡ p
  unfolding package_bytes
  package_stands {p} f s =
      let q = number-apart 8 p.slots _ (stands_right (school_bytes L p.school) _ (length_school L p.school) s) in
      let school = school_stands f.school (stands_left (school_bytes L p.school) _ s) in
      let slots : number_at b (i + L.site + 1) 8 ≡ p.slots = number_stands 8 p.slots f.slots (stands_moved (omega arith) q.0) in
      let cost : number_at b (i + L.site + 9) 2 ≡ p.cost = number_stands 2 p.cost f.cost (stands_moved (omega arith) q.1) in
      λ t. record { school = school t; slots = slots t; cost = cost t }

-- and one that is read is written where it stands
module _ (L : Layout) (b : List ℕ) (h : Bytes b) (i : ℕ) where
  stands_school : i + (L.site + 1) ≤ length b → Stands b i (school_bytes L (school_at L b i))
  unfolding school_bytes
  stands_school l = stands_both (length_bytes L.site _) (stands_number b h i L.site (omega arith)) (stands_one b h (i + L.site) (omega arith))

  stands_package : i + (L.site + 11) ≤ length b → Stands b i (package_bytes L (package_at L b i))
  unfolding package_bytes
  stands_package l =
      stands_both (length_school L (school_at L b i)) (stands_school (omega arith))
      (stands_both (length_bytes 8 _) (stands_moved (omega arith) (stands_number b h (i + L.site + 1) 8 (omega arith)))
      (stands_moved (omega arith) (stands_number b h (i + L.site + 9) 2 (omega arith))))

-- ---- the mark

stands_mark : (b : List ℕ) → markb b ≡ true → 3 ≤ length b → Stands b 0 psb
unfolding markb
stands_mark b e l =
    let e1 = and_right (eqb (byte_at b 0) 80) _ e in
    let p = eqb-true (byte_at b 0) 80 (and_left (eqb (byte_at b 0) 80) _ e) in
    let q = eqb-true (byte_at b 1) 83 (and_left (eqb (byte_at b 1) 83) _ e1) in
    let r = eqb-true (byte_at b 2) 66 (and_right (eqb (byte_at b 1) 83) _ e1) in
    rw (← p, ← q, ← r) (stands_byte (omega arith) (stands_byte (omega arith) (stands_byte (omega arith) (record { here = refl }))))

mark_stands : {b : List ℕ} → Stands b 0 psb → markb b ≡ true
unfolding markb
mark_stands {b} p =
    rw (byte_stands p, byte_stands (stands_right (80 ∷ []) (83 ∷ 66 ∷ []) refl p), byte_stands (stands_right (80 ∷ 83 ∷ []) (66 ∷ []) refl p))

-- ---- what is written is said

listed_is : {A : Type 0} (d : A) (f : ℕ → A) (xs : List A) {n : ℕ} → n ≡ length xs → ((j : ℕ) → j < length xs → f j ≡ get_or xs j d) → listed f n ≡ xs
listed_is d f xs {n} e h =
    rw e (ext_get_or d (listed f (length xs)) xs (length-listed f (length xs))
    (λ j l. let q : j < length xs = rw length-listed at l in get_or-listed f (length xs) j d q ∙ h j q))

module _ {L : Layout} {x : Contents} {b : List ℕ} (f : Fits L x) (p : Parts L x b) where
  schools-counted : F.schools b ≡ length x.schools
  schools-counted = one_stands f.schools p.schools

  packages-counted : F.packages b ≡ length x.packages
  packages-counted = number_stands 2 (length x.packages) f.packages p.packages

  schools-said : schools_in L b ≡ x.schools
  unfolding schools_in
  schools-said = listed_is _ _ x.schools schools-counted (λ j h. school_stands (f.each_school j h) (p.each_school j h))

  packages-said : packages_in L b ≡ x.packages
  unfolding packages_in
  packages-said =
      listed_is _ _ x.packages packages-counted
      (λ k h. package_stands (f.each_package k h) (rw (← schools-counted) at (p.each_package k h)))

  said : contents L b ≡ x
  unfolding optional_slots
  said =
      let slots = one_stands f.slots p.slots in
      let optional = number_stands (L.header - 9) x.optional f.optional p.optional in
      λ t. record { slots = slots t; optional = optional t; schools = schools-said t; packages = packages-said t }

-- ---- an accepted file

module _ {L : Layout} {b : List ℕ} (h : Bytes b) (legible : Legible L) (a : Accepted L b) where
  -- school j and package k stand inside the file
  school_fits_in : (j : ℕ) → j < F.schools b → school_place L j + (L.site + 1) ≤ length b
  school_fits_in j l = omega (arith, a.long, school_inside L l, school_before L (F.schools b) (F.packages b))

  package_fits_in : (k : ℕ) → k < F.packages b → package_place L (F.schools b) k + (L.site + 11) ≤ length b
  package_fits_in k l = omega (arith, a.long, package_inside L (F.schools b) l)

  header_inside : L.header + 4 ≤ length b
  header_inside = omega (arith, a.long, header_before L (F.schools b), school_before L (F.schools b) (F.packages b))

  -- its parts are those of what it says
  parts : Parts L (contents L b) b
  unfolding optional_slots
  parts = record {
    mark = stands_mark b a.marked (omega (arith, a.uncut));
    version = rw a.version at (stands_number b h 3 2 (omega (arith, a.uncut)));
    schools = rw (school_count L b) (stands_one b h 5 (omega (arith, a.uncut)));
    slots = stands_one b h 6 (omega (arith, a.uncut));
    packages = rw (package_count L b) (stands_number b h 7 2 (omega (arith, a.uncut)));
    optional = stands_number b h 9 (L.header - 9) (omega (arith, header_inside, legible.header));
    each_school = λ j l. let q : j < F.schools b = rw (school_count L b) at l in
        rw (school_there L b j q) (stands_school L b h (school_place L j) (school_fits_in j q));
    each_package = λ k l. let q : k < F.packages b = rw (package_count L b) at l in
        rw (school_count L b, package_there L b k q) (stands_package L b h (package_place L (F.schools b) k) (package_fits_in k q));
  }

  body_length : length (body_of L (contents L b)) ≡ length b - 4
  body_length = length_body L (contents L b) legible.header.0 ∙ rw (school_count L b, package_count L b) (omega (arith, a.long))

  rewritten : file_of L (contents L b) ≡ b
  unfolding file_of
  rewritten =
      let s = together L (contents L b) legible.header.0 parts in
      let e : take (length b - 4) b ≡ body_of L (contents L b) = rw body_length at s.here in
      let c : fnv (body_of L (contents L b)) ≡ number_at b (length b - 4) 4 = rw e at a.check in
      let z : Stands b (length b - 4) (bytes_of 4 (fnv (body_of L (contents L b)))) = rw c (stands_number b h (length b - 4) 4 (omega (arith, a.uncut))) in
      whole_stands (stands_both body_length s (stands_moved (sym (zero-add _)) z)) (simp (length-append, body_length, length_bytes) (omega (arith, a.uncut)))

  -- everything in it fits
  pub fits : Fits L (contents L b)
  unfolding optional_slots
  fits = record {
    version = omega (arith, a.version, number_small b h 3 2);
    schools = omega (arith, school_count L b, h 5);
    slots = h 6;
    packages = omega (arith, package_count L b, a.few);
    optional = number_small b h 9 (L.header - 9);
    each_school = λ j l. rw (school_there L b j (rw (school_count L b) at l)) (school_fits (school_place L j));
    each_package = λ k l. rw (package_there L b k (rw (package_count L b) at l)) (package_fits (package_place L (F.schools b) k));
  }
    where
      school_fits : (i : ℕ) → SchoolFits L (school_at L b i)
      school_fits i = record { site = number_small b h i L.site; number = h (i + L.site) }

      package_fits : (i : ℕ) → PackageFits L (package_at L b i)
      package_fits i = record { school = school_fits i; slots = number_small b h _ 8; cost = number_small b h _ 2 }

-- ---- a written file

module _ {L : Layout} {x : Contents} (legible : Legible L) (f : Fits L x) where
  written-parts : Parts L x (file_of L x)
  unfolding file_of
  written-parts = apart L x legible.header.0 (stands_left (body_of L x) _ (stands_whole (file_of L x)))

  -- THEOREM: it says what was written
  pub contents-written : contents L (file_of L x) ≡ x
  contents-written = said f written-parts

  check-written : fnv (take (length (file_of L x) - 4) (file_of L x)) ≡ number_at (file_of L x) (length (file_of L x) - 4) 4
  unfolding file_of
  check-written =
      let c = bytes_of 4 (fnv (body_of L x)) in
      let e : length (body_of L x) ≡ length (file_of L x) - 4 = simp (length-append, length_bytes) (omega arith) in
      ap fnv (take_at (body_of L x) c _ e)
      ∙ sym (number_stands 4 (fnv (body_of L x)) (fnv-small (body_of L x))
      (stands_moved (zero-add _) (stands_right (body_of L x) c e (stands_whole (file_of L x)))))

  -- THEOREM: and is accepted where that is sensible
  pub written_accepted : length x.schools + x.slots ≤ 64 → length x.packages ≤ 512 → first_of (content_tests x) ≡ 0 → refusal L (file_of L x) ≡ 0
  unfolding package_place school_place
  written_accepted items few sensible =
      let p = written-parts in
      let long = length-file L x legible.header.0 in
      let a : Accepted L (file_of L x) = record {
        uncut = omega arith;
        marked = mark_stands p.mark;
        version = number_stands 2 L.version f.version p.version;
        items = omega (arith, schools-counted f p, one_stands f.slots p.slots);
        few = omega (arith, packages-counted f p);
        long = rw (schools-counted f p, packages-counted f p) long;
        check = check-written;
        sensible = ap (λ (y : Contents). first_of (content_tests y)) contents-written ∙ sensible;
      } in
      unrefused a

-- ---- each accepted file is a written one

-- THEOREM: it is the one that is written of what it says
pub restored : (L : Layout) (b : List ℕ) → Legible L → Bytes b → refusal L b ≡ 0 → file_of L (contents L b) ≡ b
restored L b legible h z = rewritten h legible (accepted z)

-- THEOREM: so two accepted files of one layout that say the same are the same bytes
pub one_file : (L : Layout) (b c : List ℕ) → Legible L → Bytes b → Bytes c → refusal L b ≡ 0 → refusal L c ≡ 0 → contents L b ≡ contents L c → b ≡ c
one_file L b c legible g h y z e = sym (restored L b legible g y) ∙ ap (file_of L) e ∙ restored L c legible h z
