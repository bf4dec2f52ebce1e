-- Laws of the elements of lists and of tests of lists. Assumes nothing.
use mathlib.Core.Path.{◌≡◌, refl, sym, ap, ap₂, ◌∙◌}
use mathlib.Core.Logic.{◌⊎◌, inl, inr, ⊎_elim}
use mathlib.Core.Bool.{Bool, true, ◌||◌}
use mathlib.Core.List.Memᴰ
use mathlib.Core.List.{List, [], ◌∷◌, Memᴰ}
use Prim.Native.Nat.{ℕ, zero, suc, ◌<◌}
use native.Mathlib.Nat.{not-suc-le-zero}
use native.Mathlib.Omega.{arith}
use lib.ListN.{length, get_or}
use Rattle.base.specs.Lists.{any}
use Rattle.base.proofs.Bools.{never, or_cases, or_left, or_right}

-- the elements of a list are those at its places
pub nth_member : {A : Type 0} (l : List A) (k : ℕ) (d : A) → k < length l → Memᴰ (get_or l k d) l
nth_member [] k d h = absurd (not-suc-le-zero h)
nth_member (x ∷ l) zero d h = Memᴰ.head refl
nth_member (x ∷ l) (suc k) d h = Memᴰ.tail (nth_member l k d (omega arith))

pub member_nth : {A : Type 0} (l : List A) (d a : A) → Memᴰ a l → (k : ℕ) × (k < length l) × (a ≡ get_or l k d)
member_nth [] d a m = absurd (Memᴰ.not-nil m)
member_nth (x ∷ l) d a m =
    ⊎_elim {C = (k : ℕ) × (k < length (x ∷ l)) × (a ≡ get_or (x ∷ l) k d)}
    (λ e. (0, omega arith, e)) (λ n. let r = member_nth l d a n in (suc r.0, omega (arith, r.1), r.2)) (Memᴰ.cases_cons m)

-- tests that agree on the elements of l
pub any_same : {A : Type 0} (P Q : A → Bool) (l : List A) → ((a : A) → Memᴰ a l → P a ≡ Q a) → any P l ≡ any Q l
unfolding any
any_same P Q [] h = refl
any_same P Q (x ∷ l) h = ap₂ ◌||◌ (h x (Memᴰ.head refl)) (any_same P Q l (λ a m. h a (Memᴰ.tail m)))

-- where some element passes, here is one
pub any_found : {A : Type 0} (P : A → Bool) (l : List A) → any P l ≡ true → (x : A) × Memᴰ x l × (P x ≡ true)
unfolding any
any_found P [] e = absurd (never e refl)
any_found {A} P (y ∷ l) e = go (or_cases (P y) (any P l) e) (any_found P l)
  where
    go : (P y ≡ true) ⊎ (any P l ≡ true) → (any P l ≡ true → (x : A) × Memᴰ x l × (P x ≡ true)) → (x : A) × Memᴰ x (y ∷ l) × (P x ≡ true)
    go (inl q) f = (y, Memᴰ.head refl, q)
    go (inr q) f = let r = f q in (r.0, Memᴰ.tail r.1, r.2)

-- and where one passes, some does
pub any-there : {A : Type 0} (P : A → Bool) (l : List A) (x : A) → Memᴰ x l → P x ≡ true → any P l ≡ true
unfolding any
any-there P [] x m p = absurd (Memᴰ.not-nil m)
any-there {A} P (y ∷ l) x m p = go (Memᴰ.cases_cons m) (λ n. any-there P l x n p)
  where
    go : (x ≡ y) ⊎ Memᴰ x l → (Memᴰ x l → any P l ≡ true) → (P y || any P l) ≡ true
    go (inl e) f = or_left (P y) (any P l) (ap P (sym e) ∙ p)
    go (inr n) f = or_right (P y) (any P l) (f n)
