-- The laws of the definitions that the loops go by. Assumes nothing.
use mathlib.Core.Path.{◌≡◌, refl, sym, ap, ◌∙◌}
use mathlib.Core.Bool.{Bool, true, false}
use mathlib.Core.List.{List, [], ◌∷◌, ◌++◌, map, map-append}
use Prim.Native.Nat.{ℕ, zero, suc, ◌+◌, ◌*◌, ◌%◌, ◌^◌, ◌<◌, ◌≤◌}
use native.Mathlib.Numerals.{add-one}
use native.Mathlib.Decide.{ℕ_discrete}
use native.Mathlib.Omega.{arith}
use borrow.Author.Tests.{lt-ltb, le-ltb, ltb-true, ltb-false}
use lib.Dec.{ltb}
use lib.Bits.{bit_xor}
use lib.ListN.{length, get_or, take, drop, set, length-append, get_or-append}
use lib.Seq.{take-suc, sets, sets-eq, length-sets, get_or_at}
use native.Mathlib.Nat.{add-zero, zero-add}
use Rattle.base.proofs.Bools.{by_test, is_false, never}
use Rattle.itemset.specs.Words.{spread}
use Rattle.itemset.proofs.Stored.{length-spread, spread-more, words_one}
use Rattle.bids.specs.Bytes.{fnv_from, fnv}
use Rattle.bids.specs.Ranges.{first, some, listed}

-- ---- the check

fnv_from-more : (h : ℕ) (xs : List ℕ) (x : ℕ) → fnv_from h (xs ++ (x ∷ [])) ≡ bit_xor (fnv_from h xs) x * 16777619 % 2 ^ 32
unfolding fnv_from
fnv_from-more h [] x = refl
fnv_from-more h (y ∷ xs) x = fnv_from-more (bit_xor h y * 16777619 % 2 ^ 32) xs x

pub fnv-none : (b : List ℕ) → 2166136261 ≡ fnv (take 0 b)
unfolding fnv fnv_from
fnv-none b = refl

pub fnv-more : (b : List ℕ) (i : ℕ) → i < length b → fnv (take (i + 1) b) ≡ bit_xor (fnv (take i b)) (get_or b i 0) * 16777619 % 2 ^ 32
unfolding fnv
fnv-more b i p = rw (add-one, take-suc b i 0) (fnv_from-more 2166136261 (take i b) (get_or b i 0))

-- ---- the first that a test holds of

-- the three ways of `first` at suc n
way_below : (b c : Bool) (m n : ℕ) → b ≡ true → elim b [ true ↦ m | false ↦ elim c [ true ↦ n | false ↦ suc n ] ] ≡ m
way_below b c m n e = rw e

way_here : (b c : Bool) (m n : ℕ) → b ≡ false → c ≡ true → elim b [ true ↦ m | false ↦ elim c [ true ↦ n | false ↦ suc n ] ] ≡ n
way_here b c m n e g = rw (e, g)

way_none : (b c : Bool) (m n : ℕ) → b ≡ false → c ≡ false → elim b [ true ↦ m | false ↦ elim c [ true ↦ n | false ↦ suc n ] ] ≡ suc n
way_none b c m n e g = rw (e, g)

module _ (f : ℕ → Bool) where
  pub first-zero : first f 0 ≡ 0
  unfolding first
  first-zero = refl

  kept : (n : ℕ) → ltb (first f n) n ≡ true → first f (suc n) ≡ first f n
  unfolding first
  kept n e = way_below (ltb (first f n) n) (f n) (first f n) n e

  here : (n : ℕ) → ltb (first f n) n ≡ false → f n ≡ true → first f (suc n) ≡ n
  unfolding first
  here n e g = way_here (ltb (first f n) n) (f n) (first f n) n e g

  none : (n : ℕ) → ltb (first f n) n ≡ false → f n ≡ false → first f (suc n) ≡ suc n
  unfolding first
  none n e g = way_none (ltb (first f n) n) (f n) (first f n) n e g

  -- none below n, and not n
  pub first_more : (n : ℕ) → first f n ≡ n → f n ≡ false → first f (n + 1) ≡ n + 1
  first_more n e g = rw add-one (none n (le-ltb (first f n) n (omega arith)) g)

  -- none below i, and i
  pub first_hit : (n i : ℕ) → i < n → first f i ≡ i → f i ≡ true → first f n ≡ i
  first_hit zero i p e g = absurd (omega arith)
  first_hit (suc n) i p e g = go (ℕ_discrete i n) (λ q. first_hit n i q e g)
    where
      go : Dec (i ≡ n) → (i < n → first f n ≡ i) → first f (suc n) ≡ i
      go (yes q) ih = rw (← q) (here i (le-ltb (first f i) i (omega arith)) g)
      go (no q) ih = let h = ih (omega arith) in kept n (lt-ltb (first f n) n (omega arith)) ∙ h

  pub first_le : (n : ℕ) → first f n ≤ n
  first_le zero = omega (arith, first-zero)
  first_le (suc n) =
      by_test (ltb (first f n) n) (λ e. omega (arith, kept n e, first_le n))
      (λ e. by_test (f n) (λ g. omega (arith, here n e g)) (λ g. omega (arith, none n e g)))

  last : (n : ℕ) → first f (suc n) ≡ suc n → (f n ≡ false) × (first f n ≡ n)
  last n q =
      by_test (ltb (first f n) n) (λ e. absurd (omega (arith, kept n e, first_le n)))
      (λ e. by_test (f n) (λ g. absurd (omega (arith, here n e g))) (λ g. (g, omega (arith, first_le n, ltb-false (first f n) n e))))

  -- it holds of none where the first is n
  pub first-none : (n i : ℕ) → i < n → first f n ≡ n → f i ≡ false
  first-none zero i p e = absurd (omega arith)
  first-none (suc n) i p e = go (ℕ_discrete i n) (λ q. first-none n i q (last n e).1)
    where
      go : Dec (i ≡ n) → (i < n → f i ≡ false) → f i ≡ false
      go (yes q) ih = rw q (last n e).0
      go (no q) ih = ih (omega arith)

  -- where it is below n, it holds of it
  pub first_holds : (n : ℕ) → first f n < n → f (first f n) ≡ true
  first_holds zero p = absurd (omega arith)
  first_holds (suc n) p =
      by_test (ltb (first f n) n) (λ e. rw (kept n e) (first_holds n (ltb-true (first f n) n e)))
      (λ e. by_test (f n) (λ g. rw (here n e g) g) (λ g. absurd (omega (arith, none n e g))))

  pub some_hit : (n i : ℕ) → i < n → first f i ≡ i → f i ≡ true → some f n ≡ true
  unfolding some
  some_hit n i p e g = lt-ltb (first f n) n (omega (arith, first_hit n i p e g))

  pub some-none : (n i : ℕ) → i ≡ n → first f i ≡ i → some f n ≡ false
  unfolding some
  some-none n i q e = le-ltb (first f n) n (omega (arith, rw q at e))

  pub none-some : (n i : ℕ) → some f n ≡ false → i < n → f i ≡ false
  unfolding some
  none-some n i e p = first-none n i p (omega (arith, ltb-false (first f n) n e, first_le n))

  pub all_none : (n : ℕ) → ((i : ℕ) → i < n → f i ≡ false) → some f n ≡ false
  unfolding some
  all_none n h =
      is_false (ltb (first f n) n) (λ e. let l = ltb-true (first f n) n e in never (first_holds n l) (h (first f n) l))

-- ---- a list stored at the start of another

-- l with vs stored at its start, one after the other
unfoldable pub over : List ℕ → List ℕ → List ℕ
over vs l = sets l 0 vs

pub sets_more : (vs ws l : List ℕ) (i : ℕ) → sets l i (vs ++ ws) ≡ sets (sets l i vs) (i + length vs) ws
sets_more [] ws l i = rw add-zero
sets_more (v ∷ vs) ws l i = sets_more vs ws (set l i v) (suc i) ∙ ap (λ (k : ℕ). sets (sets (set l i v) (suc i) vs) k ws) (omega arith)

pub over-long : (vs l : List ℕ) {m : List ℕ} → m ≡ over vs l → length m ≡ length l
unfolding over
over-long vs l e = ap length e ∙ length-sets l 0 vs

pub over-room : (vs l : List ℕ) → length vs ≤ length l → over vs l ≡ vs ++ drop (length vs) l
unfolding over
over-room vs l p = sets-eq vs l 0 (omega arith) ∙ rw zero-add

-- ws stored behind the n of vs
over-behind : (vs ws l : List ℕ) (n : ℕ) → length vs ≡ n → sets (over vs l) n ws ≡ over (vs ++ ws) l
unfolding over
over-behind vs ws l n e = sym (sets_more vs ws l 0 ∙ ap (λ (k : ℕ). sets (sets l 0 vs) k ws) (omega arith))

-- ---- lists by their places

module _ {A : Type 0} (f : ℕ → A) where
  pub length-listed : (n : ℕ) → length (listed f n) ≡ n
  unfolding listed
  length-listed zero = refl
  length-listed (suc n) = simp (length-append, length-listed n) (omega arith)

  pub get_or-listed : (n k : ℕ) (d : A) → k < n → get_or (listed f n) k d ≡ f k
  unfolding listed
  get_or-listed zero k d p = absurd (omega arith)
  get_or-listed (suc n) k d p = go (ℕ_discrete k n) (λ q. get_or-listed n k d q)
    where
      go : Dec (k ≡ n) → (k < n → get_or (listed f n) k d ≡ f k) → get_or (listed f n ++ (f n ∷ [])) k d ≡ f k
      go (yes e) ih = rw e (get_or_at (listed f n) (f n) [] d n (length-listed n))
      go (no e) ih = get_or-append (listed f n) (f n ∷ []) d k (omega (arith, length-listed n)) ∙ ih (omega arith)

  pub map-listed : {B : Type 0} (g : A → B) (n : ℕ) → map g (listed f n) ≡ listed (λ i. g (f i)) n
  unfolding listed
  map-listed g zero = refl
  map-listed g (suc n) = map-append g (listed f n) (f n ∷ []) ∙ rw (map-listed g n)

-- ---- stored one after the other

module _ (f : ℕ → ℕ) where
  pub over_zero : (l : List ℕ) → l ≡ over (listed f 0) l
  unfolding over listed
  over_zero l = refl

  -- one store more
  pub over-more : (l : List ℕ) (n v : ℕ) → v ≡ f n → set (over (listed f n) l) n v ≡ over (listed f (n + 1)) l
  unfolding listed
  over-more l n v e = rw (add-one, e) (over-behind (listed f n) (f n ∷ []) l n (length-listed f n))

  -- ---- the same of sets, three words each

  pub length_packed : (n : ℕ) → length (spread 3 (listed f n)) ≡ 3 * n
  length_packed n = rw (length-spread, length-listed f n)

  pub packed_zero : (l : List ℕ) → l ≡ over (spread 3 (listed f 0)) l
  unfolding over listed spread
  packed_zero l = refl

  -- one set more, which has one word: m before it is written, m' after
  pub packed_more : (l : List ℕ) (n : ℕ) {v : ℕ} {m m' : List ℕ} → v ≡ f n → f n < 2 ^ 64
      → m ≡ over (spread 3 (listed f n)) l → m' ≡ sets m (3 * n) (v ∷ 0 ∷ 0 ∷ []) → m' ≡ over (spread 3 (listed f (n + 1))) l
  unfolding listed
  packed_more l n e h p q =
      q ∙ rw (p, add-one, e, spread-more, words_one) (over-behind (spread 3 (listed f n)) (f n ∷ 0 ∷ 0 ∷ []) l (3 * n) (length_packed n))
