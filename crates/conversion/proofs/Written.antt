-- A written file: how long it is, that it consists of bytes, and where its parts stand. Assumes nothing.
use mathlib.Core.Path.{◌≡◌, refl, sym}
use mathlib.Core.List.{List, [], ◌∷◌}
use Prim.Native.Nat.{ℕ, zero, suc, ◌+◌, ◌-◌, ◌*◌, ◌<◌, ◌≤◌}
use native.Mathlib.Nat.{zero-add, zero-lt-suc, mul-zero, mul-suc}
use native.Mathlib.Omega.{arith}
use lib.ListN.{length, get_or, length-append}
use Rattle.bids.specs.Bytes.{bytes_of}
use Rattle.bids.specs.Contents.{Contents, nth_school, nth_package}
use Rattle.bids.specs.Format.{school_place, package_place, file_length}
use Rattle.bids.specs.declared.Layout.{Layout}
use Rattle.bids.specs.declared.School.{School}
use Rattle.bids.specs.declared.Package.{Package}
use Rattle.bids.proofs.Numbers.{Bytes, bytes_small, append-small, Stands, stands_moved, stands_left, stands_right, stands_both, length_bytes, number-apart}
use Rattle.conversion.specs.Writing.{header_bytes, school_bytes, package_bytes, joined, body_of, file_of}

-- P, S, B
abbrev pub psb : List ℕ
psb = 80 ∷ 83 ∷ 66 ∷ []

abbrev header_of : Layout → Contents → List ℕ
header_of L x = header_bytes L (length x.schools) x.slots (length x.packages) x.optional

-- ---- records of w bytes each, one after the other

module _ {A : Type 0} (f : A → List ℕ) {w : ℕ} (size : (x : A) → length (f x) ≡ w) where
  pub length-joined : (xs : List A) → length (joined f xs) ≡ w * length xs
  unfolding joined
  length-joined [] = sym (mul-zero w)
  length-joined (x ∷ xs) = simp (length-append, size, length-joined xs, mul-suc) (omega arith)

  -- they stand from i on where record j stands w * j further
  joined-apart : {b : List ℕ} {i : ℕ} (d : A) (xs : List A) → Stands b i (joined f xs) → (j : ℕ) → j < length xs → Stands b (i + w * j) (f (get_or xs j d))
  unfolding joined
  joined-apart {b} {i} d [] p j h = absurd (omega arith)
  joined-apart {b} {i} d (x ∷ xs) p zero h = stands_moved (omega arith) (stands_left (f x) (joined f xs) p)
  joined-apart {b} {i} d (x ∷ xs) p (suc j) h =
      stands_moved (omega (arith, mul-suc w j)) (joined-apart {b = b} {i = i + w} d xs (stands_right (f x) (joined f xs) (size x) p) j (omega arith))

  joined_together : {b : List ℕ} {i : ℕ} (d : A) (xs : List A) → ((j : ℕ) → j < length xs → Stands b (i + w * j) (f (get_or xs j d)))
      → Stands b i (joined f xs)
  unfolding joined
  joined_together {b} {i} d [] p = record { here = refl }
  joined_together {b} {i} d (x ∷ xs) p =
      stands_both (size x) (stands_moved (omega arith) (p 0 (omega arith)))
      (joined_together {b = b} {i = i + w} d xs (λ j h. stands_moved (omega (arith, mul-suc w j)) (p (suc j) (omega arith))))

-- ---- lengths

module _ (L : Layout) where
  pub length_school : (u : School) → length (school_bytes L u) ≡ L.site + 1
  unfolding school_bytes
  length_school u = simp (length-append, length_bytes)

  pub length_package : (p : Package) → length (package_bytes L p) ≡ L.site + 11
  unfolding package_bytes
  length_package p = simp (length-append, length_bytes, length_school) (omega arith)

  pub length_header : (s t n o : ℕ) → 9 ≤ L.header → length (header_bytes L s t n o) ≡ L.header
  unfolding header_bytes
  length_header s t n o h = simp (length-append, length_bytes) (omega arith)

  pub length_body : (x : Contents) → 9 ≤ L.header → length (body_of L x) ≡ package_place L (length x.schools) (length x.packages)
  unfolding body_of package_place school_place
  length_body x h =
      simp (length-append, length-joined (school_bytes L) length_school, length-joined (package_bytes L) length_package, length_header) (omega arith)

  pub length-file : (x : Contents) → 9 ≤ L.header → length (file_of L x) ≡ file_length L (length x.schools) (length x.packages)
  unfolding file_of
  length-file x h = simp (length-append, length_bytes, length_body)

-- ---- each byte of it is below 256

joined_small : {A : Type 0} (f : A → List ℕ) → ((x : A) → Bytes (f x)) → (xs : List A) → Bytes (joined f xs)
unfolding joined
joined_small f h [] i = zero-lt-suc 255
joined_small f h (x ∷ xs) i = append-small (f x) (joined f xs) (h x) (joined_small f h xs) i

module _ (L : Layout) where
  school_small : (u : School) → Bytes (school_bytes L u)
  unfolding school_bytes
  school_small u = append-small (bytes_of L.site u.site) (bytes_of 1 u.number) (bytes_small L.site u.site) (bytes_small 1 u.number)

  package_small : (p : Package) → Bytes (package_bytes L p)
  unfolding package_bytes
  package_small p =
      append-small (school_bytes L p.school) _ (school_small p.school)
      (append-small (bytes_of 8 p.slots) (bytes_of 2 p.cost) (bytes_small 8 p.slots) (bytes_small 2 p.cost))

  header_small : (s t n o : ℕ) → Bytes (header_bytes L s t n o)
  unfolding header_bytes
  header_small s t n o zero = omega arith
  header_small s t n o (suc zero) = omega arith
  header_small s t n o (suc (suc zero)) = omega arith
  header_small s t n o (suc (suc (suc i))) =
      append-small (bytes_of 2 L.version) _ (bytes_small 2 L.version) (append-small (bytes_of 1 s) _ (bytes_small 1 s)
      (append-small (bytes_of 1 t) _ (bytes_small 1 t) (append-small (bytes_of 2 n) _ (bytes_small 2 n) (bytes_small (L.header - 9) o)))) i

  pub file-small : (x : Contents) → Bytes (file_of L x)
  unfolding file_of body_of
  file-small x =
      append-small (body_of L x) _ (append-small (header_of L x) _ (header_small _ _ _ _)
      (append-small (joined (school_bytes L) x.schools) _ (joined_small (school_bytes L) school_small x.schools)
      (joined_small (package_bytes L) package_small x.packages)))
      (bytes_small 4 _)

-- ---- places

-- the parts of what stands before the check, each in its place: it stands at the start of b exactly where they do
pub record Parts (L : Layout) (x : Contents) (b : List ℕ) : Type 0 where
  pub mark : Stands b 0 psb
  pub version : Stands b 3 (bytes_of 2 L.version)
  pub schools : Stands b 5 (bytes_of 1 (length x.schools))
  pub slots : Stands b 6 (bytes_of 1 x.slots)
  pub packages : Stands b 7 (bytes_of 2 (length x.packages))
  pub optional : Stands b 9 (bytes_of (L.header - 9) x.optional)
  pub each_school : (j : ℕ) → j < length x.schools → Stands b (school_place L j) (school_bytes L (nth_school x.schools j))
  pub each_package : (k : ℕ) → k < length x.packages
      → Stands b (package_place L (length x.schools) k) (package_bytes L (nth_package x.packages k))

module _ (L : Layout) (x : Contents) {b : List ℕ} (legible : 9 ≤ L.header) where
  pub apart : Stands b 0 (body_of L x) → Parts L x b
  unfolding body_of header_bytes package_place school_place
  apart p =
      let h = stands_left (header_of L x) _ p in
      let h3 = stands_right psb _ refl h in
      let h5 = number-apart 2 L.version _ h3 in
      let h6 = number-apart 1 (length x.schools) _ h5.1 in
      let h7 = number-apart 1 x.slots _ h6.1 in
      let h9 = number-apart 2 (length x.packages) _ h7.1 in
      let r = stands_moved (zero-add L.header) (stands_right (header_of L x) _ (length_header L _ _ _ _ legible) p) in
      record {
        mark = stands_left psb _ h;
        version = h5.0;
        schools = h6.0;
        slots = h7.0;
        packages = h9.0;
        optional = h9.1;
        each_school = joined-apart (school_bytes L) (length_school L) _ x.schools (stands_left (joined (school_bytes L) x.schools) _ r);
        each_package =
            joined-apart (package_bytes L) (length_package L) _ x.packages
            (stands_right (joined (school_bytes L) x.schools) _ (length-joined (school_bytes L) (length_school L) x.schools) r);
      }

  pub together : Parts L x b → Stands b 0 (body_of L x)
  unfolding body_of header_bytes package_place school_place
  together p =
      let h = stands_both {vs = psb} refl p.mark (stands_both (length_bytes 2 _) p.version (stands_both (length_bytes 1 _) p.schools
      (stands_both (length_bytes 1 _) p.slots (stands_both (length_bytes 2 _) p.packages p.optional)))) in
      stands_both (length_header L _ _ _ _ legible) h
      (stands_moved (sym (zero-add L.header)) (stands_both (length-joined (school_bytes L) (length_school L) x.schools)
      (joined_together (school_bytes L) (length_school L) _ x.schools p.each_school)
      (joined_together (package_bytes L) (length_package L) _ x.packages p.each_package)))
