-- The walk of place: a set s stands in the family of number a, where what is left of s stands in that of the node. Assumes nothing.
use mathlib.Core.Path.{◌≡◌, refl, sym, ap, ap₂, ◌∙◌}
use mathlib.Core.Bool.{Bool, true, false, ◌&&◌, ◌||◌, or-false}
use mathlib.Core.Logic.{◌⊎◌, inl, inr}
use mathlib.Core.List.{List, [], ◌∷◌, map}
use Prim.Native.Nat.{ℕ, suc, ◌+◌, ◌≤◌, ◌<◌, min}
use native.Mathlib.Numerals.{add-one}
use native.Mathlib.Decide.{dec_lt}
use native.Mathlib.Omega.{arith}
use lib.ListN.{length, get_or, drop, drop_of_length-le}
use lib.Seq.{drop-cons, drop-length}
use borrow.Author.Tests.{ne_eqb}
use Rattle.base.proofs.Bools.{never, cases, or_neither, eqb_same}
use Rattle.zdd.specs.Table.{Family, fork, count, eq_set, elem}
use Rattle.zdd.proofs.Member.{avoids_at, elem-append, elem-nil-map, elem-cons-map, elem-fork-cons}
use Rattle.query.specs.Questions.{family_at, position}
use Rattle.query.specs.Reading.{label_of, lo_of, hi_of, Readable, Filled, stored, count_word}
use Rattle.query.proofs.Parts.{Parts, parts, some, at_zero, at_one}
use Rattle.query.proofs.CountWords.{stored_low}

pub position_here : (s t : List ℕ) (F : Family) → eq_set s t ≡ true → position s (t ∷ F) ≡ 0
unfolding position
position_here s t F e = rw (e, position)

pub position_later : (s t : List ℕ) (F : Family) → eq_set s t ≡ false → position s (t ∷ F) ≡ suc (position s F)
unfolding position
position_later s t F e = rw (e, position)

-- a set that is not among hi's stands among lo's, behind all of hi's
position-behind : (s : List ℕ) (p : ℕ) (F1 F0 : Family) → elem s (map (λ (t : List ℕ). p ∷ t) F1) ≡ false
    → position s (fork p F1 F0) ≡ length F1 + position s F0
unfolding elem
position-behind s p [] F0 e = omega arith
position-behind s p (t ∷ F1) F0 e =
    let d = or_neither (eq_set s (p ∷ t)) (elem s (map (λ (t : List ℕ). p ∷ t) F1)) e in
    position_later s (p ∷ t) (fork p F1 F0) d.0 ∙ omega (arith, position-behind s p F1 F0 d.1)

-- a set that is among hi's stands where it stands there
position_front : (s : List ℕ) (p : ℕ) (F1 F0 : Family) → elem s F1 ≡ true → position (p ∷ s) (fork p F1 F0) ≡ position s F1
unfolding elem eq_set
position_front s p [] F0 e = absurd (never e refl)
position_front s p (t ∷ F1) F0 e = go (cases (eq_set s t)) (position_front s p F1 F0)
  where
    same : eq_set (p ∷ s) (p ∷ t) ≡ eq_set s t
    same = ap (λ (b : Bool). b && eq_set s t) (eqb_same p)

    go : (eq_set s t ≡ true) ⊎ (eq_set s t ≡ false) → (elem s F1 ≡ true → position (p ∷ s) (fork p F1 F0) ≡ position s F1)
        → position (p ∷ s) (fork p (t ∷ F1) F0) ≡ position s (t ∷ F1)
    go (inl q) ih = position_here (p ∷ s) (p ∷ t) (fork p F1 F0) (same ∙ q) ∙ sym (position_here s t F1 q)
    go (inr q) ih =
        position_later (p ∷ s) (p ∷ t) (fork p F1 F0) (same ∙ q) ∙ ap suc (ih (rw q at e)) ∙ sym (position_later s t F1 q)

-- i packages of s are passed, and k sets
pub record Seek (t : List ℕ) (a : ℕ) (s : List ℕ) (node i k : ℕ) : Type 0 where
  pub within : node ≤ a
  pub known : a < count t + 2
  pub along : i ≤ length s
  pub same : elem s (family_at t a) ≡ elem (drop i s) (family_at t node)
  pub passed : length (family_at t a) ≤ 18446744073709551615 → k + length (family_at t node) ≤ length (family_at t a)
  pub stands : length (family_at t a) ≤ 18446744073709551615 → elem s (family_at t a) ≡ true
      → position s (family_at t a) ≡ k + position (drop i s) (family_at t node)

pub seek_start : (t : List ℕ) (a : ℕ) (s : List ℕ) → a < count t + 2 → Seek t a s a 0 0
seek_start t a s h = record {
  within = omega arith;
  known = h;
  along = omega arith;
  same = refl;
  passed = λ z. omega arith;
  stands = λ z e. omega arith;
}

module _ {t : List ℕ} {a : ℕ} {s : List ℕ} {node i k : ℕ} (S : Seek t a s node i k) where
  -- the ends of the walk
  pub seek-none : node ≡ 0 → elem s (family_at t a) ≡ false
  unfolding elem
  seek-none e = S.same ∙ ap (elem (drop i s)) (ap (family_at t) e ∙ at_zero t)

  pub seek-more : node ≡ 1 → (i ≡ length s → ⊥) → elem s (family_at t a) ≡ false
  unfolding elem eq_set
  seek-more e n =
      S.same ∙ ap₂ elem (drop-cons s i 0 (omega (arith, S.along))) (ap (family_at t) e ∙ at_one t)

  pub seek_end : node ≡ 1 → i ≡ length s
      → (elem s (family_at t a) ≡ true) × (length (family_at t a) ≤ 18446744073709551615 → k ≡ position s (family_at t a))
  unfolding elem eq_set position
  seek_end e n =
      let f : family_at t node ≡ [] ∷ [] = ap (family_at t) e ∙ at_one t in
      let d : drop i s ≡ [] = ap (λ (j : ℕ). drop j s) n ∙ drop-length s in
      let m : elem s (family_at t a) ≡ true = S.same ∙ ap₂ elem d f in
      let z : position (drop i s) (family_at t node) ≡ 0 = ap₂ position d f in
      (m, λ b. omega (arith, S.stands b m))

module _ {t : List ℕ} (R : Readable t) {a : ℕ} {s : List ℕ} {node i k : ℕ} (S : Seek t a s node i k) (inside : 1 < node) where
  pub spot : Parts t node
  spot = parts R node inside (omega (arith, S.within, S.known))

  -- s goes on with the node's label
  pub seek-hi : (h : ℕ) → h ≡ hi_of t node → i < length s → get_or s i 0 ≡ label_of t node → Seek t a s h (i + 1) k
  seek-hi h e l q =
      let P = spot in
      let p : ℕ = label_of t node in
      let F1 : Family = family_at t (hi_of t node) in
      let F0 : Family = family_at t (lo_of t node) in
      let u : List ℕ = drop (i + 1) s in
      let g : family_at t h ≡ F1 = ap (family_at t) e in
      let d : drop i s ≡ p ∷ u = drop-cons s i 0 l ∙ ap₂ (λ (x j : ℕ). x ∷ drop j s) q (sym (add-one i)) in
      let m : elem (p ∷ u) (fork p F1 F0) ≡ elem u F1 =
      elem-fork-cons p p u F1 F0 ∙ ap₂ (λ (a b : Bool). (a && elem u F1) || b) (eqb_same p) (avoids_at p F0 P.apart u) ∙ or-false (elem u F1) in
      let same : elem s (family_at t a) ≡ elem u F1 = S.same ∙ ap₂ elem d P.split ∙ m in
      record {
        within = omega (arith, P.hi-below, S.within);
        known = S.known;
        along = omega arith;
        same = same ∙ ap (elem u) (sym g);
        passed = λ z. omega (arith, S.passed z, P.size, ap length g);
        stands = λ z w.
            S.stands z w
            ∙ ap (λ (j : ℕ). k + j) (ap₂ position d P.split ∙ position_front u p F1 F0 (sym same ∙ w) ∙ ap (position u) (sym g));
      }

  -- what is left of s is not among hi's sets
  aside : (i < length s → get_or s i 0 ≡ label_of t node → ⊥) → elem (drop i s) (map (λ (u : List ℕ). label_of t node ∷ u) (family_at t (hi_of t node))) ≡ false
  aside f = go (dec_lt i (length s))
    where
      go : Dec (i < length s) → elem (drop i s) (map (λ (u : List ℕ). label_of t node ∷ u) (family_at t (hi_of t node))) ≡ false
      go (yes l) =
          ap (λ (u : List ℕ). elem u (map (λ (u : List ℕ). label_of t node ∷ u) (family_at t (hi_of t node)))) (drop-cons s i 0 l)
          ∙ elem-cons-map (label_of t node) (get_or s i 0) (drop (suc i) s) (family_at t (hi_of t node))
          ∙ ap (λ (b : Bool). b && elem (drop (suc i) s) (family_at t (hi_of t node))) (ne_eqb (get_or s i 0) (label_of t node) (f l))
      go (no l) =
          let q : length s ≤ i = omega arith in
          ap (λ (u : List ℕ). elem u (map (λ (u : List ℕ). label_of t node ∷ u) (family_at t (hi_of t node)))) (drop_of_length-le s q)
          ∙ elem-nil-map (label_of t node) (family_at t (hi_of t node))

  pub seek-lo : (w : List ℕ) → Filled (count_word t) (a + 1) w → (h l r : ℕ) → h ≡ hi_of t node → l ≡ lo_of t node
      → (i < length s → get_or s i 0 ≡ label_of t node → ⊥) → r ≡ min (k + get_or w h 0 + 1) 18446744073709551615 → Seek t a s l i r
  unfolding count_word
  seek-lo w F h l r eh el f er =
      let P = spot in
      let p : ℕ = label_of t node in
      let F1 : Family = family_at t (hi_of t node) in
      let F0 : Family = family_at t (lo_of t node) in
      let u : List ℕ = drop i s in
      let g : family_at t l ≡ F0 = ap (family_at t) el in
      let x : get_or w h 0 ≡ stored (length F1) = F.each h (omega (arith, P.hi-below, S.within)) ∙ ap (λ (j : ℕ). stored (length (family_at t j))) eh in
      let v = some R (hi_of t node) P.hi-some (omega (arith, P.hi-below, S.within, S.known)) in
      let n = aside f in
      let many : length (family_at t a) ≤ 18446744073709551615 → r ≡ k + length F1 =
      λ z. let b = S.passed z in let y = stored_low (length F1) (omega (arith, P.size)) in omega (arith, P.size) in
      let same : elem s (family_at t a) ≡ elem u F0 =
      S.same ∙ ap (elem u) P.split ∙ elem-append u (map (λ (u : List ℕ). p ∷ u) F1) F0 ∙ ap (λ (b : Bool). b || elem u F0) n in
      record {
        within = omega (arith, P.lo-below, S.within);
        known = S.known;
        along = S.along;
        same = same ∙ ap (elem u) (sym g);
        passed = λ z. omega (arith, S.passed z, P.size, ap length g, many z);
        stands = λ z e. omega (arith, S.stands z e, ap (position u) P.split, position-behind u p F1 F0 n, ap (position u) g, many z);
      }
