-- A set of packages covers D where its first lies inside D and the others cover what that leaves. Assumes nothing.
use mathlib.Core.Path.{◌≡◌, refl, sym, ap, ap₂, ◌∙◌}
use mathlib.Core.Bool.{Bool, true, false, not, ◌&&◌, ◌||◌}
use mathlib.Core.Logic.{⊎_elim}
use mathlib.Core.List.{List, [], ◌∷◌}
use Prim.Native.Nat.{ℕ, zero, suc, ◌^◌, ◌≤◌, ◌<◌}
use native.Mathlib.Nat.{le_refl, eq-or-lt_of_le, not-suc-le-zero, le_of_suc-le-suc}
use native.Mathlib.Omega.{arith}
use lib.Dec.{eqb, leb}
use borrow.Author.Tests.{eqb-true, eq-eqb, leb-true, le-leb, not-true}
use Rattle.itemset.specs.Items.{holds, insideb, without, lowest}
use Rattle.itemset.specs.Words.{width}
use Rattle.base.proofs.Bools.{by_test, clash, same_test, and_left, and_right}
use Rattle.itemset.proofs.Laws.{holds_lt, holds-without, inside-holds, holds-inside-all, inside_trans, without-inside, without-apart, without-either, lowest-holds}
use Rattle.exact_cover.specs.Problem.{Problem, row, compulsory, done}
use Rattle.exact_cover.specs.Cover.{holders, all_inside, takes, once, covers}
use Rattle.exact_cover.proofs.Lead.{done-optional, open_due}

module _ (Q : Problem) where
  -- ---- a count of holders

  pub holders_yes : (i p : ℕ) (t : List ℕ) → holds i (row Q p) ≡ true → holders Q i (p ∷ t) ≡ suc (holders Q i t)
  unfolding holders
  holders_yes i p t e = rw (e, holders)

  pub holders-not : (i p : ℕ) (t : List ℕ) → holds i (row Q p) ≡ false → holders Q i (p ∷ t) ≡ holders Q i t
  unfolding holders
  holders-not i p t e = rw (e, holders)

  pub holders-nil : (i : ℕ) → holders Q i [] ≡ 0
  unfolding holders
  holders-nil i = refl

  -- packages inside B do not hold what B does not
  holders-none : (i B : ℕ) (t : List ℕ) → all_inside Q B t ≡ true → holds i B ≡ false → holders Q i t ≡ 0
  unfolding all_inside
  holders-none i B [] h e = holders-nil i
  holders-none i B (p ∷ t) h e =
      by_test (holds i (row Q p))
      (λ y. clash (holds i B) (inside-holds (row Q p) B (and_left (insideb (row Q p) B) (all_inside Q B t) h) i y) e)
      (λ n. holders-not i p t n ∙ holders-none i B t (and_right (insideb (row Q p) B) (all_inside Q B t) h) e)

  -- ---- how many packages an item takes

  pub takes-optional : (i n : ℕ) → holds i Q.optional ≡ true → takes Q i n ≡ leb n 1
  unfolding takes
  takes-optional i n y = rw (y, takes)

  pub takes-compulsory : (i n : ℕ) → holds i Q.optional ≡ false → takes Q i n ≡ eqb n 1
  unfolding takes
  takes-compulsory i n y = rw (y, takes)

  takes_one : (i n : ℕ) → n ≡ 1 → takes Q i n ≡ true
  takes_one i n e =
      by_test (holds i Q.optional) (λ y. takes-optional i n y ∙ le-leb n 1 (omega arith)) (λ y. takes-compulsory i n y ∙ eq-eqb n 1 e)

  takes_most : (i n : ℕ) → takes Q i n ≡ true → n ≤ 1
  takes_most i n h =
      by_test (holds i Q.optional)
      (λ y. leb-true n 1 (sym (takes-optional i n y) ∙ h))
      (λ y. omega (arith, eqb-true n 1 (sym (takes-compulsory i n y) ∙ h)))

  -- ---- `once`, item by item

  once-takes : (k D : ℕ) (t : List ℕ) → once Q k D t ≡ true → (i : ℕ) → i < k → holds i D ≡ true → takes Q i (holders Q i t) ≡ true
  unfolding once
  once-takes zero D t h i l e = absurd (not-suc-le-zero l)
  once-takes (suc k) D t h i l e =
      let a : not (holds k D) || takes Q k (holders Q k t) ≡ true = and_left (not (holds k D) || takes Q k (holders Q k t)) (once Q k D t) h in
      ⊎_elim
      (λ (s : i ≡ k).
      let y : holds k D ≡ true = ap (λ (n : ℕ). holds n D) (sym s) ∙ e in
      ap (λ (n : ℕ). takes Q n (holders Q n t)) s ∙ (rw y at a))
      (λ (m : i < k). once-takes k D t (and_right (not (holds k D) || takes Q k (holders Q k t)) (once Q k D t) h) i m e)
      (eq-or-lt_of_le (le_of_suc-le-suc l))

  takes-once : (k D : ℕ) (t : List ℕ) → ((i : ℕ) → i < k → holds i D ≡ true → takes Q i (holders Q i t) ≡ true) → once Q k D t ≡ true
  unfolding once
  takes-once zero D t h = refl
  takes-once (suc k) D t h =
      by_test (holds k D)
      (λ y. rw (y, h k (le_refl (suc k)) y) (takes-once k D t (λ i l. h i (omega arith))))
      (λ n. rw n (takes-once k D t (λ i l. h i (omega arith))))

  -- ---- inside D, and inside D without p

  inside-up : (D p : ℕ) (t : List ℕ) → all_inside Q (without D p) t ≡ true → all_inside Q D t ≡ true
  unfolding all_inside
  inside-up D p [] h = refl
  inside-up D p (q ∷ t) h =
      ap₂ ◌&&◌
      (inside_trans (row Q q) (without D p) D (and_left (insideb (row Q q) (without D p)) (all_inside Q (without D p) t) h) (without-inside D p))
      (inside-up D p t (and_right (insideb (row Q q) (without D p)) (all_inside Q (without D p) t) h))

  -- where no package of t shares an item with p
  inside-down : (D p : ℕ) (t : List ℕ) → ((i : ℕ) → holds i p ≡ true → holders Q i t ≡ 0) → all_inside Q D t ≡ true → all_inside Q (without D p) t ≡ true
  unfolding all_inside
  inside-down D p [] n h = refl
  inside-down D p (q ∷ t) n h =
      ap₂ ◌&&◌
      (holds-inside-all (row Q q) (without D p) (λ i y.
      by_test (holds i p)
      (λ b. absurd (omega (arith, n i b, holders_yes i q t y)))
      (λ b. holds-without i D p ∙ ap₂ (λ (x z : Bool). x && not z) (inside-holds (row Q q) D (and_left (insideb (row Q q) D) (all_inside Q D t) h) i y) b)))
      (inside-down D p t
      (λ i b. by_test (holds i (row Q q))
      (λ y. absurd (omega (arith, n i b, holders_yes i q t y)))
      (λ y. sym (holders-not i q t y) ∙ n i b))
      (and_right (insideb (row Q q) D) (all_inside Q D t) h))

  -- ---- `covers`

  pub covers-inside : (D : ℕ) (t : List ℕ) → covers Q D t ≡ true → all_inside Q D t ≡ true
  unfolding covers
  covers-inside D t h = and_left (all_inside Q D t) (once Q width D t) h

  pub covers-takes : (D : ℕ) (t : List ℕ) → covers Q D t ≡ true → (i : ℕ) → i < width → holds i D ≡ true → takes Q i (holders Q i t) ≡ true
  unfolding covers
  covers-takes D t h = once-takes width D t (and_right (all_inside Q D t) (once Q width D t) h)

  pub to-covers : (D : ℕ) (t : List ℕ) → all_inside Q D t ≡ true → ((i : ℕ) → i < width → holds i D ≡ true → takes Q i (holders Q i t) ≡ true) → covers Q D t ≡ true
  unfolding covers
  to-covers D t a h = ap₂ ◌&&◌ a (takes-once width D t h)

  first-inside : (D p : ℕ) (t : List ℕ) → all_inside Q D (p ∷ t) ≡ true → (insideb (row Q p) D ≡ true) × (all_inside Q D t ≡ true)
  unfolding all_inside
  first-inside D p t h = (and_left (insideb (row Q p) D) (all_inside Q D t) h, and_right (insideb (row Q p) D) (all_inside Q D t) h)

  inside-first : (D p : ℕ) (t : List ℕ) → insideb (row Q p) D ≡ true → all_inside Q D t ≡ true → all_inside Q D (p ∷ t) ≡ true
  unfolding all_inside
  inside-first D p t a b = ap₂ ◌&&◌ a b

  covers_split : (D p : ℕ) (t : List ℕ) → D < 2 ^ width → covers Q D (p ∷ t) ≡ true → insideb (row Q p) D && covers Q (without D (row Q p)) t ≡ true
  covers_split D p t w h =
      let a = first-inside D p t (covers-inside D (p ∷ t) h) in
      ap₂ ◌&&◌ a.0
      (to-covers (without D (row Q p)) t
      (inside-down D (row Q p) t
      (λ i y.
      let d : holds i D ≡ true = inside-holds (row Q p) D a.0 i y in
      omega (arith, takes_most i (holders Q i (p ∷ t)) (covers-takes D (p ∷ t) h i (holds_lt width i w d) d), holders_yes i p t y))
      a.1)
      (λ i l d.
      let e : holds i D && not (holds i (row Q p)) ≡ true = sym (holds-without i D (row Q p)) ∙ d in
      by_test (holds i (row Q p))
      (λ y. clash (holds i (without D (row Q p))) d (without-apart i D (row Q p) y))
      (λ n. ap (takes Q i) (sym (holders-not i p t n)) ∙ covers-takes D (p ∷ t) h i l (and_left (holds i D) (not (holds i (row Q p))) e))))

  covers-fork : (D p : ℕ) (t : List ℕ) → insideb (row Q p) D ≡ true → covers Q (without D (row Q p)) t ≡ true → covers Q D (p ∷ t) ≡ true
  covers-fork D p t a h =
      let b = covers-inside (without D (row Q p)) t h in
      to-covers D (p ∷ t)
      (inside-first D p t a (inside-up D (row Q p) t b))
      (λ i l d. ⊎_elim
      (λ (y : holds i (row Q p) ≡ true).
      takes_one i (holders Q i (p ∷ t)) (holders_yes i p t y ∙ ap suc (holders-none i (without D (row Q p)) t b (without-apart i D (row Q p) y))))
      (λ (y : holds i (without D (row Q p)) ≡ true). by_test (holds i (row Q p))
      (λ z. clash (holds i (without D (row Q p))) y (without-apart i D (row Q p) z))
      (λ z. ap (takes Q i) (holders-not i p t z) ∙ covers-takes (without D (row Q p)) t h i l y))
      (without-either i D (row Q p) d))

  -- the first package lies inside D, and the others cover what it leaves
  pub covers-cons : (D p : ℕ) (t : List ℕ) → D < 2 ^ width → covers Q D (p ∷ t) ≡ insideb (row Q p) D && covers Q (without D (row Q p)) t
  covers-cons D p t w =
      same_test (covers Q D (p ∷ t)) (insideb (row Q p) D && covers Q (without D (row Q p)) t)
      (covers_split D p t w)
      (λ h. covers-fork D p t
      (and_left (insideb (row Q p) D) (covers Q (without D (row Q p)) t) h)
      (and_right (insideb (row Q p) D) (covers Q (without D (row Q p)) t) h))

  nil-inside : (D : ℕ) → all_inside Q D [] ≡ true
  unfolding all_inside
  nil-inside D = refl

  -- no package covers what is done
  pub covers-nil : (D : ℕ) → done Q D ≡ true → covers Q D [] ≡ true
  covers-nil D e = to-covers D [] (nil-inside D) (λ i l d. takes-optional i (holders Q i []) (done-optional Q D e i d) ∙ le-leb (holders Q i []) 1 (omega (arith, holders-nil i)))

  -- and no more than that
  pub nil_not : (D : ℕ) → done Q D ≡ false → D < 2 ^ width → covers Q D [] ≡ false
  nil_not D o w =
      by_test (covers Q D [])
      (λ h.
      let i = lowest (compulsory Q D) in
      let b : holds i D && not (holds i Q.optional) ≡ true = sym (holds-without i D Q.optional) ∙ lowest-holds (compulsory Q D) (open_due Q D o) in
      let d : holds i D ≡ true = and_left (holds i D) (not (holds i Q.optional)) b in
      let n : holds i Q.optional ≡ false = not-true (holds i Q.optional) (and_right (holds i D) (not (holds i Q.optional)) b) in
      let y = sym (takes-compulsory i (holders Q i []) n) ∙ covers-takes D [] h i (holds_lt width i w d) d in
      absurd (omega (arith, holders-nil i, eqb-true (holders Q i []) 1 y)))
      (λ h. h)

-- ---- the order plays no part

module _ (ps : List ℕ) (o : ℕ) (order order' : List ℕ) where
  abbrev in_order : List ℕ → Problem
  in_order list = record { packages = ps; optional = o; order = list }

  pub holders-any-order : (i : ℕ) (t : List ℕ) → holders (in_order order) i t ≡ holders (in_order order') i t
  unfolding holders
  holders-any-order i [] = refl
  holders-any-order i (p ∷ t) =
      by_test (holds i (row (in_order order) p)) (λ y. rw (y, holders) (ap suc (holders-any-order i t))) (λ n. rw (n, holders) (holders-any-order i t))

  pub inside-any-order : (D : ℕ) (t : List ℕ) → all_inside (in_order order) D t ≡ all_inside (in_order order') D t
  unfolding all_inside
  inside-any-order D [] = refl
  inside-any-order D (p ∷ t) = rw (inside-any-order D t)

  once-any-order : (k D : ℕ) (t : List ℕ) → once (in_order order) k D t ≡ once (in_order order') k D t
  unfolding once takes
  once-any-order zero D t = refl
  once-any-order (suc i) D t =
      ap₂ (λ (n : ℕ) (b : Bool). (not (holds i D) || takes (in_order order') i n) && b) (holders-any-order i t) (once-any-order i D t)

  -- THEOREM: what covers D in one order covers it in every other
  pub covers-any-order : (D : ℕ) (t : List ℕ) → covers (in_order order) D t ≡ covers (in_order order') D t
  unfolding covers
  covers-any-order D t = ap₂ ◌&&◌ (inside-any-order D t) (once-any-order width D t)
