-- A problem without its withdrawn packages: which packages remain and in which order. THEOREM `keys_shorter`: their keys stand in the old order. THEOREM
-- `listing-shorten`: what is left of a listing is the listing of the shortened problem; `covering-shorten`: so it is with covers. Assumes nothing.
use mathlib.Core.Path.{◌≡◌, refl, sym, ap, ap₂, ◌∙◌}
use mathlib.Core.Logic.{◌⊎◌, inl, inr}
use mathlib.Core.Bool.{Bool, true, false, not, cond, ◌&&◌, ◌||◌}
use mathlib.Core.List.{List, [], ◌∷◌, map}
use Prim.Native.Nat.{ℕ, zero, suc, ◌+◌, ◌≤◌, ◌<◌, zero-le}
use native.Mathlib.Nat.{not-suc-le-zero, le_of_suc-le-suc, eq-or-lt_of_le}
use native.Mathlib.Omega.{arith}
use lib.ListN.{length, get_or, length-map}
use lib.Seq.{ext_get_or}
use borrow.Author.Tests.{not-true}
use Rattle.base.proofs.Bools.{never, and_left, and_right}
use Rattle.itemset.specs.Items.{holds, insideb}
use Rattle.itemset.specs.Words.{width}
use Rattle.zdd.specs.Table.{Family, has, elem, filter, sets}
use Rattle.zdd.specs.Withdrawal.{free, rank, withdrawn, Shorter}
use Rattle.zdd.proofs.Member.{elem_in}
use Rattle.zdd.proofs.Listing.{filter_same}
use Rattle.zdd.proofs.Ranks.{rank_gone, rank_stays, rank_most, rank_less, rank-none, sets-withdrawn}
use Rattle.exact_cover.specs.Problem.{Problem, row, lead}
use Rattle.exact_cover.specs.Cover.{keys_of, Before, holders, all_inside, takes, once, covers, covering}
use Rattle.exact_cover.specs.Recursion.{rank as key_of, Ascends}
use Rattle.exact_cover.specs.Shortened.{remain_from, remaining, shorten, in_old}
use Rattle.exact_cover.proofs.Lists.{filter_in, filter_map, filter_swap}
use Rattle.exact_cover.proofs.Order.{length-keys, key_before, keys-apart}
use Rattle.exact_cover.proofs.Sets.{sets_member}

-- ---- the numbers that remain

from_count : (gone : List ℕ) (p n : ℕ) → rank gone p + length (remain_from gone p n) ≡ rank gone (p + n)
unfolding remain_from
from_count gone p zero = let z : p + 0 ≡ p = omega arith in omega (arith, ap (rank gone) z)
from_count gone p (suc n) = go (has p gone) refl (from_count gone (suc p) n)
  where
    z : rank gone (suc p + n) ≡ rank gone (p + suc n)
    z = ap (rank gone) (omega arith)

    go : (b : Bool) → has p gone ≡ b → rank gone (suc p) + length (remain_from gone (suc p) n) ≡ rank gone (suc p + n)
        → rank gone p + length (cond b (remain_from gone (suc p) n) (p ∷ remain_from gone (suc p) n)) ≡ rank gone (p + suc n)
    go true e ih = omega (arith, ih, z, rank_gone gone p e)
    go false e ih = omega (arith, ih, z, rank_stays gone p e)

-- x stands at place q of the list l, whose first place is that of the new number of p
record Stands (gone : List ℕ) (p : ℕ) (l : List ℕ) (x : ℕ) : Type 0 where
  pub at : ℕ
  pub new : rank gone p + at ≡ rank gone x
  pub inside : at < length l
  pub there : get_or l at 0 ≡ x

from_old : (gone : List ℕ) (p n x : ℕ) → p ≤ x → x < p + n → has x gone ≡ false → Stands gone p (remain_from gone p n) x
unfolding remain_from
from_old gone p zero x a b s = absurd (omega arith)
from_old gone p (suc n) x a b s = go (has p gone) refl (eq-or-lt_of_le a) (λ l. from_old gone (suc p) n x l (omega arith) s)
  where
    go : (c : Bool) → has p gone ≡ c → (p ≡ x) ⊎ (p < x) → (suc p ≤ x → Stands gone (suc p) (remain_from gone (suc p) n) x)
        → Stands gone p (cond c (remain_from gone (suc p) n) (p ∷ remain_from gone (suc p) n)) x
    go true e (inl q) ih = absurd (never (ap (λ (y : ℕ). has y gone) (sym q) ∙ e) s)
    go true e (inr l) ih = let r = ih l in record { at = r.at; new = omega (arith, r.new, rank_gone gone p e); inside = r.inside; there = r.there }
    go false e (inl q) ih = record { at = 0; new = omega (arith, ap (rank gone) q); inside = omega arith; there = q }
    go false e (inr l) ih = let r = ih l in record { at = suc r.at; new = omega (arith, r.new, rank_stays gone p e); inside = omega (arith, r.inside); there = r.there }

from_known : (gone : List ℕ) (p n q : ℕ) → q < length (remain_from gone p n) → get_or (remain_from gone p n) q 0 < p + n
unfolding remain_from
from_known gone p zero q h = absurd (not-suc-le-zero h)
from_known gone p (suc n) q h = go (has p gone) q h (from_known gone (suc p) n)
  where
    go : (b : Bool) (q : ℕ) → q < length (cond b (remain_from gone (suc p) n) (p ∷ remain_from gone (suc p) n))
        → ((q : ℕ) → q < length (remain_from gone (suc p) n) → get_or (remain_from gone (suc p) n) q 0 < suc p + n)
        → get_or (cond b (remain_from gone (suc p) n) (p ∷ remain_from gone (suc p) n)) q 0 < p + suc n
    go true q h ih = omega (arith, ih q h)
    go false zero h ih = omega arith
    go false (suc q) h ih = omega (arith, ih q (le_of_suc-le-suc h))

-- and it remains, with the new number that its place is
from_new : (gone : List ℕ) (p n q : ℕ) → q < length (remain_from gone p n)
    → (has (get_or (remain_from gone p n) q 0) gone ≡ false) × (rank gone (get_or (remain_from gone p n) q 0) ≡ rank gone p + q)
unfolding remain_from
from_new gone p zero q h = absurd (not-suc-le-zero h)
from_new gone p (suc n) q h = go (has p gone) refl q h (from_new gone (suc p) n)
  where
    go : (b : Bool) → has p gone ≡ b → (q : ℕ) → q < length (cond b (remain_from gone (suc p) n) (p ∷ remain_from gone (suc p) n))
        → ((q : ℕ) → q < length (remain_from gone (suc p) n)
        → (has (get_or (remain_from gone (suc p) n) q 0) gone ≡ false) × (rank gone (get_or (remain_from gone (suc p) n) q 0) ≡ rank gone (suc p) + q))
        → (has (get_or (cond b (remain_from gone (suc p) n) (p ∷ remain_from gone (suc p) n)) q 0) gone ≡ false)
        × (rank gone (get_or (cond b (remain_from gone (suc p) n) (p ∷ remain_from gone (suc p) n)) q 0) ≡ rank gone p + q)
    go true e q h ih = let r = ih q h in (r.0, omega (arith, r.1, rank_gone gone p e))
    go false e zero h ih = (e, omega arith)
    go false e (suc q) h ih = let r = ih q (le_of_suc-le-suc h) in (r.0, omega (arith, r.1, rank_stays gone p e))

get_d_map : (f : ℕ → ℕ) (l : List ℕ) (q : ℕ) → q < length l → get_or (map f l) q 0 ≡ f (get_or l q 0)
get_d_map f [] q b = absurd (not-suc-le-zero b)
get_d_map f (x ∷ l) zero b = refl
get_d_map f (x ∷ l) (suc q) b = get_d_map f l q (le_of_suc-le-suc b)

-- ---- the shortened problem

module _ (Q : Problem) (gone : List ℕ) where
  pub shorten-length : length (shorten Q gone).packages ≡ length (remaining Q gone)
  unfolding shorten
  shorten-length = length-map (remaining Q gone) (row Q)

  -- as many packages remain
  pub shorten-count : length (shorten Q gone).packages ≡ rank gone (length Q.packages)
  unfolding remaining rank
  shorten-count =
      let e : 0 + length (remain_from gone 0 (length Q.packages)) ≡ rank gone (0 + length Q.packages) = from_count gone 0 (length Q.packages) in
      let z : 0 + length Q.packages ≡ length Q.packages = omega arith in
      omega (arith, e, shorten-length, ap (rank gone) z)

  pub shorten_few : length (shorten Q gone).packages ≤ length Q.packages
  shorten_few = omega (arith, shorten-count, rank_most gone (length Q.packages))

  pub shorten-row : (q : ℕ) → q < length (shorten Q gone).packages → row (shorten Q gone) q ≡ row Q (get_or (remaining Q gone) q 0)
  unfolding shorten
  shorten-row q b = get_d_map (row Q) (remaining Q gone) q (omega (arith, shorten-length))

  -- which is a package of Q
  pub old_known : (q : ℕ) → q < length (shorten Q gone).packages → get_or (remaining Q gone) q 0 < length Q.packages
  unfolding remaining
  old_known q b = omega (arith, from_known gone 0 (length Q.packages) q (omega (arith, shorten-length)))

  -- that remains
  pub old_stays : (q : ℕ) → q < length (shorten Q gone).packages → has (get_or (remaining Q gone) q 0) gone ≡ false
  unfolding remaining
  old_stays q b = (from_new gone 0 (length Q.packages) q (omega (arith, shorten-length))).0

  -- the new number of the old number of q is q
  pub new_old : (q : ℕ) → q < length (shorten Q gone).packages → rank gone (get_or (remaining Q gone) q 0) ≡ q
  unfolding remaining rank
  new_old q b = omega (arith, (from_new gone 0 (length Q.packages) q (omega (arith, shorten-length))).1)

  -- the optional set and the order stay, so does where the search of a set goes on
  pub shorten-lead : (A : ℕ) → lead (shorten Q gone) A ≡ lead Q A
  unfolding shorten lead
  shorten-lead A = refl

  place : (p : ℕ) → p < length Q.packages → has p gone ≡ false
      → (rank gone p < length (shorten Q gone).packages) × (get_or (remaining Q gone) (rank gone p) 0 ≡ p)
  unfolding remaining rank
  place p h s =
      let r = from_old gone 0 (length Q.packages) p zero-le (omega arith) s in
      let z : r.at ≡ rank gone p = omega (arith, r.new) in
      (omega (arith, r.inside, shorten-length), ap (λ (q : ℕ). get_or (remain_from gone 0 (length Q.packages)) q 0) (sym z) ∙ r.there)

  pub new_known : (p : ℕ) → p < length Q.packages → has p gone ≡ false → rank gone p < length (shorten Q gone).packages
  new_known p h s = (place p h s).0

  -- the old number of the new number of p is p
  pub old_new : (p : ℕ) → p < length Q.packages → has p gone ≡ false → get_or (remaining Q gone) (rank gone p) 0 ≡ p
  old_new p h s = (place p h s).1

  new_row : (p : ℕ) → p < length Q.packages → has p gone ≡ false → row (shorten Q gone) (rank gone p) ≡ row Q p
  new_row p h s = shorten-row (rank gone p) (new_known p h s) ∙ ap (row Q) (old_new p h s)

-- THEOREM: the keys of the packages that remain stand in the old order
pub keys_shorter : (Q : Problem) (gone : List ℕ) → length Q.packages ≤ 512 → Shorter gone (keys_of Q) (keys_of (shorten Q gone))
keys_shorter Q gone few = record {
  long = length-keys (shorten Q gone) ∙ shorten-count Q gone ∙ ap (rank gone) (sym (length-keys Q));
  order = λ p q hp hq sp sq l. order p q (omega (arith, length-keys Q)) (omega (arith, length-keys Q)) sp sq l;
}
  where
    same : (p : ℕ) → p < length Q.packages → has p gone ≡ false → lead (shorten Q gone) (row (shorten Q gone) (rank gone p)) ≡ lead Q (row Q p)
    same p h s = shorten-lead Q gone (row (shorten Q gone) (rank gone p)) ∙ ap (lead Q) (new_row Q gone p h s)

    order : (p q : ℕ) → p < length Q.packages → q < length Q.packages → has p gone ≡ false → has q gone ≡ false
        → key_of Q p < key_of Q q → key_of (shorten Q gone) (rank gone p) < key_of (shorten Q gone) (rank gone q)
    order p q hp hq sp sq l =
        (key_before (shorten Q gone) (omega (arith, shorten_few Q gone)) (rank gone p) (rank gone q) (new_known Q gone p hp sp) (new_known Q gone q hq sq)).1
        (go ((key_before Q few p q hp hq).0 l))
      where
        go : Before Q p q → Before (shorten Q gone) (rank gone p) (rank gone q)
        go (inl l) = inl (omega (arith, l, same p hp sp, same q hq sq))
        go (inr e) = inr (omega (arith, e.0, same p hp sp, same q hq sq), rank_less gone p q sp e.1)

-- ---- timetables

-- a timetable that remains, in the new numbers and back
there_back : (Q : Problem) (gone : List ℕ) (m : ℕ) (t : List ℕ) → Ascends Q (length Q.packages) m t → free gone t ≡ true → in_old Q gone (map (rank gone) t) ≡ t
unfolding in_old free
there_back Q gone m [] h f = refl
there_back Q gone m (p ∷ t) h f =
    ap₂ (λ (x : ℕ) (l : List ℕ). x ∷ l)
    (old_new Q gone p h.0 (not-true (has p gone) (and_left (not (has p gone)) (free gone t) f)))
    (there_back Q gone (suc (key_of Q p)) t h.2 (and_right (not (has p gone)) (free gone t) f))

-- THEOREM: what is left of a listing by a test is the listing of the shortened problem by the test in the old numbers
pub listing-shorten : (Q : Problem) (gone : List ℕ) → length Q.packages ≤ 512 → (X : List ℕ → Bool)
    → withdrawn gone (filter X (sets (keys_of Q))) ≡ filter (λ s. X (in_old Q gone s)) (sets (keys_of (shorten Q gone)))
unfolding withdrawn
listing-shorten Q gone few X =
    ap (map (map (rank gone))) (filter_swap (free gone) X (sets (keys_of Q)) ∙ filter_same X (λ t. X (in_old Q gone (map (rank gone) t))) free-sets back)
    ∙ sym (filter_map (map (rank gone)) (λ s. X (in_old Q gone s)) free-sets)
    ∙ ap (filter (λ s. X (in_old Q gone s))) (sets-withdrawn (keys_shorter Q gone few) (keys-apart Q few))
  where
    free-sets : Family
    free-sets = filter (free gone) (sets (keys_of Q))

    back : (t : List ℕ) → elem t free-sets ≡ true → X t ≡ X (in_old Q gone (map (rank gone) t))
    back t e =
        let r = filter_in (free gone) (sets (keys_of Q)) (elem_in t free-sets e) in
        ap X (sym (there_back Q gone 0 t ((sets_member Q t few).0 r.0) r.1))

-- ---- covers

module _ (Q : Problem) (gone : List ℕ) where
  abbrev R : Problem
  R = shorten Q gone

  inside_old : (D m : ℕ) (s : List ℕ) → Ascends R (length R.packages) m s → all_inside Q D (in_old Q gone s) ≡ all_inside R D s
  unfolding all_inside in_old
  inside_old D m [] h = refl
  inside_old D m (q ∷ s) h = ap₂ ◌&&◌ (ap (λ (x : ℕ). insideb x D) (sym (shorten-row Q gone q h.0))) (inside_old D (suc (key_of R q)) s h.2)

  holders_old : (i m : ℕ) (s : List ℕ) → Ascends R (length R.packages) m s → holders Q i (in_old Q gone s) ≡ holders R i s
  unfolding holders in_old
  holders_old i m [] h = refl
  holders_old i m (q ∷ s) h =
      ap₂ (λ (b : Bool) (n : ℕ). elim b [ true ↦ suc n | false ↦ n ]) (ap (holds i) (sym (shorten-row Q gone q h.0))) (holders_old i (suc (key_of R q)) s h.2)

  takes_old : (i n : ℕ) → takes Q i n ≡ takes R i n
  unfolding takes shorten
  takes_old i n = refl

  once_old : (k D : ℕ) (s : List ℕ) → Ascends R (length R.packages) 0 s → once Q k D (in_old Q gone s) ≡ once R k D s
  unfolding once
  once_old zero D s h = refl
  once_old (suc i) D s h =
      ap₂ (λ (b c : Bool). (not (holds i D) || b) && c) (ap (takes Q i) (holders_old i 0 s h) ∙ takes_old i (holders R i s)) (once_old i D s h)

  -- THEOREM: what is left of the covers of D is the covers of D by the packages that remain
  pub covering-shorten : length Q.packages ≤ 512 → (D : ℕ) → covering R D ≡ withdrawn gone (covering Q D)
  unfolding covering covers
  covering-shorten few D =
      filter_same (covers R D) (λ s. covers Q D (in_old Q gone s)) (sets (keys_of R)) (λ s e.
      let h = (sets_member R s (omega (arith, shorten_few Q gone))).0 (elem_in s (sets (keys_of R)) e) in
      sym (ap₂ ◌&&◌ (inside_old D 0 s h) (once_old width D s h)))
      ∙ sym (listing-shorten Q gone few (covers Q D))

-- THEOREM: with nothing withdrawn the problem is as it was
pub shorten-none : (Q : Problem) → shorten Q [] ≡ Q
unfolding shorten has
shorten-none Q =
    ap (λ (ps : List ℕ). record { packages = ps; optional = Q.optional; order = Q.order })
    (ext_get_or 0 (shorten Q []).packages Q.packages all (λ p l.
    ap (row (shorten Q [])) (sym (rank-none p)) ∙ new_row Q [] p (omega (arith, all)) refl))
  where
    all : length (shorten Q []).packages ≡ length Q.packages
    all = shorten-count Q [] ∙ rank-none (length Q.packages)
