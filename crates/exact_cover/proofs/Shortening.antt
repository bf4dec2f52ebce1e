-- The loop that moves the packages that remain to the front of the words: before package p, those that gone does not have stand at their new numbers; from p
-- on every package stands where it stood. Assumes nothing.
use mathlib.Core.Path.{◌≡◌, refl, sym, ap, ◌∙◌, subst}
use mathlib.Core.Bool.{Bool, true, false, ◌&&◌, ◌||◌}
use mathlib.Core.List.{List, [], ◌∷◌}
use mathlib.Core.Logic.{◌⊎◌, inl, inr}
use Prim.Native.Nat.{ℕ, suc, ◌+◌, ◌*◌, ◌/◌, ◌≤◌, ◌<◌, zero-le}
use native.Mathlib.Nat.{eq-or-lt_of_le, le_of_suc-le-suc}
use native.Mathlib.Omega.{arith}
use lib.Dec.{eqb, ltb}
use lib.ListN.{length, get_or, take, drop, drop_of_length-le}
use lib.Seq.{drop-cons, length-take-le, get_or-take, sets, length-sets, ext_get_or}
use borrow.Author.Tests.{ltb-true, ltb-false, eqb-true, eqb-false, ne_eqb}
use Rattle.base.proofs.Bools.{never, by_test, and_left, and_right}
use Rattle.itemset.specs.Words.{value_of, sets_of}
use Rattle.itemset.proofs.Stored.{length-sets_of, sets_of-at, sets_other, sets-read, take_same, words_from_lem, from_same}
use Rattle.zdd.specs.Table.{has}
use Rattle.zdd.specs.Withdrawal.{rank}
use Rattle.zdd.proofs.Listing.{has_first}
use Rattle.zdd.proofs.Ranks.{rank_gone, rank_stays, rank_most, rank_less}
use Rattle.exact_cover.specs.Problem.{Problem, row}
use Rattle.exact_cover.specs.Shortened.{rising, remaining, shorten, Shortens}
use Rattle.exact_cover.proofs.Shortened.{shorten-count, shorten-row, old_known, old_stays, new_old}

-- ---- a list that rises, and whether p is next in it

-- it rises from b on
abbrev pub Climbs : ℕ → List ℕ → Type 0
Climbs b [] = Unit {0}
Climbs b (x ∷ l) = (b ≤ x) × Climbs (suc x) l

climbs_first : (b x : ℕ) (l : List ℕ) → b ≤ x → rising (x ∷ l) ≡ true → Climbs b (x ∷ l)
unfolding rising
climbs_first b x [] h e = (h, tt)
climbs_first b x (y ∷ l) h e =
    (h, climbs_first (suc x) y l (ltb-true x y (and_left (ltb x y) (rising (y ∷ l)) e)) (and_right (ltb x y) (rising (y ∷ l)) e))

climbs_all : (l : List ℕ) → rising l ≡ true → Climbs 0 l
climbs_all [] e = tt
climbs_all (x ∷ l) e = climbs_first 0 x l zero-le e

climbs_not : (b q : ℕ) (l : List ℕ) → Climbs b l → q < b → has q l ≡ false
unfolding has
climbs_not b q [] c h = refl
climbs_not b q (x ∷ l) c h = rw (ne_eqb q x (λ e. omega (arith, c.0))) (climbs_not (suc x) q l c.1 (omega (arith, c.0)))

-- what the code asks: whether entry j of gone is p
abbrev pub next : List ℕ → ℕ → ℕ → Bool
next gone j p = ltb j (length gone) && eqb (get_or gone j 0) p

pub next-inside : (gone : List ℕ) (j p : ℕ) → next gone j p ≡ true → j < length gone
next-inside gone j p e = ltb-true j (length gone) (and_left (ltb j (length gone)) (eqb (get_or gone j 0) p) e)

next-first : (gone : List ℕ) (j p : ℕ) → next gone j p ≡ true → drop j gone ≡ p ∷ drop (suc j) gone
next-first gone j p e =
    drop-cons gone j 0 (next-inside gone j p e)
    ∙ ap (λ (x : ℕ). x ∷ drop (suc j) gone) (eqb-true (get_or gone j 0) p (and_right (ltb j (length gone)) (eqb (get_or gone j 0) p) e))

next-not : (gone : List ℕ) (j p : ℕ) → next gone j p ≡ false → Climbs p (drop j gone) → Climbs (suc p) (drop j gone)
next-not gone j p e c =
    by_test (ltb j (length gone))
    (λ t.
    let d = drop-cons gone j 0 (ltb-true j (length gone) t) in
    let f : Climbs p (get_or gone j 0 ∷ drop (suc j) gone) = subst (Climbs p) d c in
    let n : eqb (get_or gone j 0) p ≡ false = ap (λ (b : Bool). b && eqb (get_or gone j 0) p) (sym t) ∙ e in
    subst (Climbs (suc p)) (sym d) (greater (eqb-false (get_or gone j 0) p n) f.0, f.1))
    (λ t. subst (Climbs (suc p)) (sym (drop_of_length-le gone (ltb-false j (length gone) t))) tt)
  where
    greater : {x : ℕ} → (x ≡ p → ⊥) → p ≤ x → suc p ≤ x
    greater n l = omega (arith, n, l)

-- what gone has of p and above is in l, which rises
pub record Ahead (gone : List ℕ) (p : ℕ) (l : List ℕ) : Type 0 where
  pub climbs : Climbs p l
  pub same : (q : ℕ) → p ≤ q → has q gone ≡ has q l

ahead_has : {gone l : List ℕ} {p : ℕ} → Ahead gone p (p ∷ l) → has p gone ≡ true
ahead_has {gone} {l} {p} a = a.same p (omega arith) ∙ has_first p l

ahead_after : {gone l : List ℕ} {p : ℕ} → Ahead gone p (p ∷ l) → Ahead gone (suc p) l
unfolding has
ahead_after {gone} {l} {p} a = record {
  climbs = a.climbs.1;
  same = λ q h. a.same q (omega arith) ∙ ap (λ (b : Bool). b || has q l) (ne_eqb q p (λ e. omega arith));
}

ahead_not : {gone l : List ℕ} {p : ℕ} → Climbs (suc p) l → Ahead gone p l → has p gone ≡ false
ahead_not {gone} {l} {p} c a = a.same p (omega arith) ∙ climbs_not (suc p) p l c (omega arith)

ahead_past : {gone l : List ℕ} {p : ℕ} → Climbs (suc p) l → Ahead gone p l → Ahead gone (suc p) l
ahead_past c a = record { climbs = c; same = λ q h. a.same q (omega arith) }

-- ---- the sets of words, where one is written

abbrev pub set_at : List ℕ → ℕ → ℕ
set_at ws k = get_or (sets_of ws) k 0

module _ (ws vs : List ℕ) (r : ℕ) (three : length vs ≡ 3) where
  written_same : r < length ws / 3 → set_at (sets ws (3 * r) vs) r ≡ value_of vs
  written_same h =
      sets_of-at (sets ws (3 * r) vs) r (omega (arith, length-sets ws (3 * r) vs))
      ∙ ap value_of (ap (λ (n : ℕ). take n (drop (3 * r) (sets ws (3 * r) vs))) (sym three) ∙ sets-read vs ws (3 * r) (omega arith))

  written_other : (k : ℕ) → (k < r) ⊎ (r < k) → k < length ws / 3 → set_at (sets ws (3 * r) vs) k ≡ set_at ws k
  written_other k d h =
      sets_of-at (sets ws (3 * r) vs) k (omega (arith, length-sets ws (3 * r) vs))
      ∙ ap value_of (take_same 3 (3 * k) (sets ws (3 * r) vs) ws (length-sets ws (3 * r) vs) (omega (arith, length-sets ws (3 * r) vs)) (λ i a b.
      sets_other vs ws (3 * r) i (side i a b d)))
      ∙ sym (sets_of-at ws k h)
    where
      side : (i : ℕ) → 3 * k ≤ i → i < 3 * k + 3 → (k < r) ⊎ (r < k) → (i < 3 * r) ⊎ (3 * r + length vs ≤ i)
      side i a b (inl l) = inl (omega arith)
      side i a b (inr l) = inr (omega arith)

-- n words, of the first m
take_part : (n a m : ℕ) (ws : List ℕ) → m ≤ length ws → a + n ≤ m → take n (drop a (take m ws)) ≡ take n (drop a ws)
take_part n a m ws h l =
    sym (words_from_lem n a (take m ws) (omega (arith, length-take-le m ws h)))
    ∙ from_same n a (take m ws) ws (λ i b c. get_or-take m ws i 0 (omega arith))
    ∙ words_from_lem n a ws (omega arith)

-- the first sets of words
first-set : (ws : List ℕ) (r k : ℕ) → 3 * r ≤ length ws → k < r → set_at (take (3 * r) ws) k ≡ set_at ws k
first-set ws r k h l =
    sets_of-at (take (3 * r) ws) k (omega (arith, length-take-le (3 * r) ws h))
    ∙ ap value_of (take_part 3 (3 * k) (3 * r) ws h (omega arith))
    ∙ sym (sets_of-at ws k (omega arith))

-- ---- the loop

one : (n : ℕ) (P : ℕ → Type 0) → P (suc n) → P (n + 1)
one n P x = subst P (omega arith) x

pub record Moved (ws gone ws' : List ℕ) (j r p : ℕ) : Type 0 where
  pub long : length ws' ≡ length ws
  pub fewer : r ≤ p
  pub past : p ≤ length ws / 3
  pub later : (k : ℕ) → p ≤ k → k < length ws / 3 → set_at ws' k ≡ set_at ws k
  -- where gone rises: its entries from j on are those of p and above, r packages below p remain, and they stand at their new numbers
  pub ahead : rising gone ≡ true → Ahead gone p (drop j gone)
  pub count : rising gone ≡ true → r ≡ rank gone p
  pub front : rising gone ≡ true → (k : ℕ) → k < p → has k gone ≡ false → set_at ws' (rank gone k) ≡ set_at ws k

pub moved_start : (ws gone : List ℕ) → Moved ws gone ws 0 0 0
unfolding rank
moved_start ws gone = record {
  long = refl;
  fewer = omega arith;
  past = omega arith;
  later = λ k a b. refl;
  ahead = λ e. record { climbs = climbs_all gone e; same = λ q h. refl };
  count = λ e. refl;
  front = λ e k h. absurd (omega arith);
}

module _ {ws gone ws' : List ℕ} {j r p : ℕ} (here : p < length (sets_of ws)) (m : Moved ws gone ws' j r p) where
  h : p < length ws / 3
  h = omega (arith, length-sets_of ws)

  -- there is room to read package p, and so to write behind those that remain
  pub moved_room : 3 * p + 3 ≤ length ws'
  moved_room = omega (arith, h, m.long)

  -- package p is withdrawn
  moved_gone_suc : next gone j p ≡ true → Moved ws gone ws' (suc j) r (suc p)
  moved_gone_suc e = record {
    long = m.long;
    fewer = omega (arith, m.fewer);
    past = h;
    later = λ k a b. m.later k (omega arith) b;
    ahead = λ s. ahead_after (first s);
    count = λ s. omega (arith, m.count s, rank_gone gone p (ahead_has (first s)));
    front = λ s k l n. go s k n (eq-or-lt_of_le (le_of_suc-le-suc l));
  }
    where
      first : rising gone ≡ true → Ahead gone p (p ∷ drop (suc j) gone)
      first s = subst (Ahead gone p) (next-first gone j p e) (m.ahead s)

      go : rising gone ≡ true → (k : ℕ) → has k gone ≡ false → (k ≡ p) ⊎ (k < p) → set_at ws' (rank gone k) ≡ set_at ws k
      go s k n (inl q) = absurd (never (ap (λ (x : ℕ). has x gone) q ∙ ahead_has (first s)) n)
      go s k n (inr l) = m.front s k l n

  -- package p remains: the set that stands there is written behind those that remain
  moved_kept_suc : (vs : List ℕ) → length vs ≡ 3 → value_of vs ≡ value_of (take 3 (drop (3 * p) ws')) → next gone j p ≡ false
      → Moved ws gone (sets ws' (3 * r) vs) j (suc r) (suc p)
  moved_kept_suc vs three v e = record {
    long = length-sets ws' (3 * r) vs ∙ m.long;
    fewer = omega (arith, m.fewer);
    past = h;
    later = λ k a b. written_other ws' vs r three k (inr (omega (arith, m.fewer))) (omega (arith, m.long)) ∙ m.later k (omega arith) b;
    ahead = λ s. ahead_past (next-not gone j p e (m.ahead s).climbs) (m.ahead s);
    count = λ s. omega (arith, m.count s, rank_stays gone p (stays s));
    front = λ s k l n. go s k n (eq-or-lt_of_le (le_of_suc-le-suc l));
  }
    where
      stays : rising gone ≡ true → has p gone ≡ false
      stays s = ahead_not (next-not gone j p e (m.ahead s).climbs) (m.ahead s)

      moved : set_at (sets ws' (3 * r) vs) r ≡ set_at ws p
      moved =
          written_same ws' vs r three (omega (arith, h, m.long, m.fewer)) ∙ v ∙ sym (sets_of-at ws' p (omega (arith, h, m.long)))
          ∙ m.later p (omega arith) h

      go : rising gone ≡ true → (k : ℕ) → has k gone ≡ false → (k ≡ p) ⊎ (k < p) → set_at (sets ws' (3 * r) vs) (rank gone k) ≡ set_at ws k
      go s k n (inl q) =
          let z : rank gone k ≡ r = ap (rank gone) q ∙ sym (m.count s) in
          ap (set_at (sets ws' (3 * r) vs)) z ∙ moved ∙ ap (set_at ws) (sym q)
      go s k n (inr l) =
          written_other ws' vs r three (rank gone k) (inl (omega (arith, m.count s, rank_less gone k p n l)))
          (omega (arith, h, m.long, rank_most gone k))
          ∙ m.front s k l n

  pub moved_gone : next gone j p ≡ true → Moved ws gone ws' (j + 1) r (p + 1)
  moved_gone e = one j (λ (i : ℕ). Moved ws gone ws' i r (p + 1)) (one p (λ (q : ℕ). Moved ws gone ws' (suc j) r q) (moved_gone_suc e))

  pub moved_kept : (vs : List ℕ) → length vs ≡ 3 → value_of vs ≡ value_of (take 3 (drop (3 * p) ws')) → next gone j p ≡ false
      → Moved ws gone (sets ws' (3 * r) vs) j (r + 1) (p + 1)
  moved_kept vs three v e =
      one r (λ (i : ℕ). Moved ws gone (sets ws' (3 * r) vs) j i (p + 1))
      (one p (λ (q : ℕ). Moved ws gone (sets ws' (3 * r) vs) j (suc r) q) (moved_kept_suc vs three v e))

pub moved_all : {ws gone ws' : List ℕ} {j r p : ℕ} → length (sets_of ws) ≤ p → Moved ws gone ws' j r p → Shortens ws gone ws' r
moved_all {ws} {gone} {ws'} {j} {r} {p} h m = record { long = m.long; fewer = room; sets = all }
  where
    room : 3 * r ≤ length ws
    room = omega (arith, m.fewer, m.past)

    all : rising gone ≡ true → (Q : Problem) → Q.packages ≡ sets_of ws → sets_of (take (3 * r) ws') ≡ (shorten Q gone).packages
    all s Q e = ext_get_or 0 (sets_of (take (3 * r) ws')) (shorten Q gone).packages (count ∙ sym many) (λ k l. at k (omega (arith, count)))
      where
        size : length Q.packages ≡ p
        size = ap length e ∙ omega (arith, m.past, length-sets_of ws)

        many : length (shorten Q gone).packages ≡ r
        many = shorten-count Q gone ∙ ap (rank gone) size ∙ sym (m.count s)

        count : length (sets_of (take (3 * r) ws')) ≡ r
        count = length-sets_of (take (3 * r) ws') ∙ omega (arith, length-take-le (3 * r) ws' (omega (arith, m.long)))

        at : (k : ℕ) → k < r → set_at (take (3 * r) ws') k ≡ row (shorten Q gone) k
        at k l =
            let b : k < length (shorten Q gone).packages = omega (arith, many) in
            let o = get_or (remaining Q gone) k 0 in
            first-set ws' r k (omega (arith, m.long)) l
            ∙ ap (set_at ws') (sym (new_old Q gone k b))
            ∙ m.front s o (omega (arith, old_known Q gone k b, size)) (old_stays Q gone k b)
            ∙ ap (λ (ps : List ℕ). get_or ps o 0) (sym e)
            ∙ sym (shorten-row Q gone k b)
