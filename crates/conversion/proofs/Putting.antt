-- What the writers put into the buffer, one part behind the other, and how long the parts are. Assumes nothing.
use mathlib.Core.Path.{◌≡◌, refl, sym, ap, ◌∙◌}
use mathlib.Core.List.{List, [], ◌∷◌, ◌++◌, append_assoc, append-nil}
use Prim.Native.Nat.{ℕ, suc, ◌+◌, ◌*◌, ◌/◌, ◌%◌, ◌<◌, ◌≤◌}
use native.Mathlib.Nat.{zero-add, mul-le-mul_left, mul-suc}
use native.Mathlib.Numerals.{add-one}
use native.Mathlib.Omega.{arith}
use lib.ListN.{length, take, drop, set, length-append}
use lib.Seq.{sets, sets-eq, length-sets, take_at}
use Rattle.bids.specs.Bytes.{bytes_of, fnv}
use Rattle.bids.specs.Ranges.{listed}
use Rattle.bids.specs.Contents.{Contents}
use Rattle.bids.specs.Format.{school_place, package_place, file_length, schools, optional_slots, schools_in, packages_in, contents}
use Rattle.bids.specs.Contract.{Legible, HeaderPost, Sized}
use Rattle.bids.specs.declared.Layout.{Layout}
use Rattle.bids.specs.declared.Header.{Header}
use Rattle.bids.proofs.Laws.{sets_more, length-listed}
use Rattle.bids.proofs.Places.{school_before}
use Rattle.bids.proofs.Records.{school_count, package_count}
use Rattle.conversion.specs.Writing.{header_bytes, school_bytes, package_bytes, joined, body_of, file_of}
use Rattle.conversion.specs.Contract.{PutPost}
use Rattle.conversion.proofs.Written.{length_header, length-joined, length_school, length_body, length-file}

-- ---- the bytes of a number

-- the lowest byte is stored first, and the others behind it
pub byte_put : (out : List ℕ) {i j w w' : ℕ} (v : ℕ) → w ≡ suc w' → j ≡ suc i
    → sets (set out i (v % 256)) j (bytes_of w' (v / 256)) ≡ sets out i (bytes_of w v)
unfolding bytes_of
byte_put out v e f = rw (e, f)

-- no byte is left
pub bytes_put : (out : List ℕ) (i : ℕ) {w : ℕ} (v : ℕ) → w ≡ 0 → sets out i (bytes_of w v) ≡ out
unfolding bytes_of
bytes_put out i v e = rw e

-- ---- what was put

module _ {out : List ℕ} {at : ℕ} {vs out' : List ℕ} {n : ℕ} (p : PutPost out at vs out' n) where
  pub puts_length : length out' ≡ length out
  puts_length = ap length p.stored ∙ length-sets out at vs

  -- w bytes were put
  pub placed : {w : ℕ} → length vs ≡ w → (n ≡ at + w) × (length out' ≡ length out)
  placed e = (rw e at p.next, puts_length)

  -- and behind it ws
  pub puts_both : {ws out'' : List ℕ} {m : ℕ} → PutPost out' n ws out'' m → PutPost out at (vs ++ ws) out'' m
  puts_both {ws = ws} q =
      record {
        stored = rw (p.stored, p.next) at q.stored ∙ sym (sets_more vs ws out at);
        next = rw length-append (omega (arith, p.next, q.next));
      }

-- PSB
pub mark-put : (out : List ℕ) {vs : List ℕ} → 3 ≤ length out → vs ≡ 80 ∷ 83 ∷ 66 ∷ [] → PutPost out 0 (80 ∷ 83 ∷ 66 ∷ []) (vs ++ drop 3 out) 3
mark-put out h e = record { stored = rw e (sym (sets-eq (80 ∷ 83 ∷ 66 ∷ []) out 0 (omega arith))); next = refl }

-- at the start of the buffer
module _ {out vs out' : List ℕ} {n : ℕ} (p : PutPost out 0 vs out' n) (room : length vs ≤ length out) where
  pub puts_start : out' ≡ vs ++ drop (length vs) out
  puts_start = p.stored ∙ sets-eq vs out 0 (omega arith) ∙ rw zero-add

  puts_read : take n out' ≡ vs
  puts_read = rw puts_start (take_at vs (drop (length vs) out) n (omega (arith, p.next)))

-- ---- records, one behind the other: g writes a record, in w bytes

module _ {A : Type 0} (g : A → List ℕ) where
  joined-more : (xs : List A) (x : A) → joined g (xs ++ (x ∷ [])) ≡ joined g xs ++ g x
  unfolding joined
  joined-more [] x = append-nil (g x)
  joined-more (y ∷ xs) x = rw (joined-more xs x) (sym (append_assoc (g y) (joined g xs) (g x)))

  module _ (f : ℕ → A) where
    pub none-put : (out : List ℕ) (at : ℕ) → PutPost out at (joined g (listed f 0)) out at
    unfolding joined listed
    none-put out at = record { stored = refl; next = omega arith }

    -- one record more
    pub more-put : {out out' out'' : List ℕ} {at n m : ℕ} {x : A} (j : ℕ) → PutPost out at (joined g (listed f j)) out' n
        → x ≡ f j → PutPost out' n (g x) out'' m → PutPost out at (joined g (listed f (j + 1))) out'' m
    unfolding listed
    more-put j p e q = rw (add-one, joined-more (listed f j) (f j), ← e) (puts_both p q)

  module _ {w : ℕ} (each : (x : A) → length (g x) ≡ w) where
    length_records : (f : ℕ → A) (j : ℕ) → length (joined g (listed f j)) ≡ w * j
    length_records f j = length-joined g each (listed f j) ∙ rw (length-listed f j)

    -- where s records have room, there is room for one behind j of them
    pub room-left : {out out' : List ℕ} {at n : ℕ} (f : ℕ → A) (j : ℕ) {s : ℕ} → PutPost out at (joined g (listed f j)) out' n
        → j < s → at + w * s ≤ length out → n + w ≤ length out'
    room-left f j p l r = omega (arith, placed p (length_records f j), mul-le-mul_left w l, mul-suc w j)

-- ---- what a file says, in another layout

pub schools-inside : (L : Layout) {b : List ℕ} {s t n : ℕ} → Sized L b s t n → school_place L (schools b) ≤ length b
schools-inside L {s = s} {n = n} z = rw (← z.counts.0) (omega (arith, z.long, school_before L s n))

module _ (from to : Layout) {b : List ℕ} {h : Header} (p : HeaderPost b h) where
  counted : (f : ℕ → ℕ → ℕ) → f (length (schools_in from b)) (length (packages_in from b)) ≡ f h.schools h.packages
  counted f = rw (school_count from b, package_count from b, p.schools, p.packages)

  -- the place past a header
  pub header_placed : Legible to → (s t m o : ℕ) {n : ℕ} {out out' : List ℕ} → PutPost out 0 (header_bytes to s t m o) out' n
      → (n ≡ 0 + to.header) × (length out' ≡ length out)
  header_placed l s t m o q = placed q (length_header to s t m o l.header.0)

  pub schools-long : length (joined (school_bytes to) (schools_in from b)) ≡ (to.site + 1) * h.schools
  schools-long = length-joined (school_bytes to) (length_school to) (schools_in from b) ∙ rw (school_count from b, p.schools)

  pub body_long : Legible to → length (body_of to (contents from b)) ≡ package_place to h.schools h.packages
  body_long l = length_body to (contents from b) l.header.0 ∙ counted (package_place to)

  pub file-long : Legible to → length (file_of to (contents from b)) ≡ file_length to h.schools h.packages
  file-long l = length-file to (contents from b) l.header.0 ∙ counted (file_length to)

  -- header, schools and packages
  pub body_put : {out out₁ out₂ out₃ : List ℕ} {o n₁ n₂ n₃ : ℕ} → o ≡ optional_slots from b
      → PutPost out 0 (header_bytes to h.schools h.slots h.packages o) out₁ n₁ → PutPost out₁ n₁ (joined (school_bytes to) (schools_in from b)) out₂ n₂
      → PutPost out₂ n₂ (joined (package_bytes to) (packages_in from b)) out₃ n₃ → PutPost out 0 (body_of to (contents from b)) out₃ n₃
  unfolding body_of
  body_put e q r s = rw (school_count from b, package_count from b, ← p.schools, ← p.slots, ← p.packages, ← e) (puts_both q (puts_both r s))

-- and the check of what was put
pub file-put : (L : Layout) (x : Contents) {out out₁ out₂ : List ℕ} {n m v : ℕ} → PutPost out 0 (body_of L x) out₁ n → length (body_of L x) ≤ length out
    → v ≡ fnv (take n out₁) → PutPost out₁ n (bytes_of 4 v) out₂ m → PutPost out 0 (file_of L x) out₂ m
unfolding file_of
file-put L x p r e q = puts_both p (rw (e, puts_read p r) at q)
