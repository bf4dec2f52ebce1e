-- What a caller holds when a reader has accepted a file, and which numbers it can hear otherwise: from the reader's contract alone. Assumes nothing.
use mathlib.Core.Path.{◌≡◌, refl, sym, ap, ◌∙◌}
use mathlib.Core.Logic.{⊎_elim}
use mathlib.Core.Bool.{true, ◌||◌}
use mathlib.Core.List.{List, [], ◌∷◌, ◌++◌}
use Prim.Native.Nat.{ℕ, ◌*◌, ◌<◌}
use native.Mathlib.Nat.{eq-zero-or-pos}
use native.Mathlib.Omega.{arith}
use lib.Dec.{ltb}
use lib.ListN.{length, take}
use Rattle.base.specs.Lists.{any}
use Rattle.itemset.specs.Words.{spread}
use Rattle.statement.specs.Replies.{Reply, gives, reply, says_only}
use Rattle.statement.proofs.Sayable.{among_said, first_said, behind-said, one_fewer}
use Rattle.statement.proofs.TestLaws.{was_given, page_holds}
use Rattle.bids.specs.Contents.{packages_of, costs_of, optional_of}
use Rattle.bids.specs.Format.{version1, schools, slots, packages, contents, cut, header_tests, record_tests, refusal}
use Rattle.bids.specs.Contract.{ReadPost, read_refusal, read_gives}
use Rattle.bids.specs.declared.Layout.{Layout}
use Rattle.bids.proofs.Answers.{by_file}
use Rattle.bids.proofs.Packed.{packed_long, count-costs, never_31}

-- the file b is accepted; s, t, n and o are its S, T, N and optional items, and the buffers p and c begin with the words of its packages and with its costs
pub record Delivered (L : Layout) (b : List ℕ) (s t n o : ℕ) (p c : List ℕ) : Type 0 where
  pub accepted : refusal L b ≡ 0
  pub schools : s ≡ schools b
  pub slots : t ≡ slots b
  pub packages : n ≡ packages b
  pub optional : o ≡ optional_of (contents L b)
  pub words : take (3 * n) p ≡ spread 3 (packages_of (contents L b))
  pub costs : take n c ≡ costs_of (contents L b)

-- where the reader does not refuse, the file's own tests do not
file_accepted : (L : Layout) (b : List ℕ) (p c : ℕ) → read_refusal L b p c ≡ 0 → refusal L b ≡ 0
file_accepted L b p c z =
    ⊎_elim (λ (y : refusal L b ≡ 0). y) (λ (l : 0 < refusal L b). absurd (omega (arith, l, z, by_file L b p c refl (λ y. omega (arith, l, y)))))
    (eq-zero-or-pos (refusal L b))

pub delivered : {L : Layout} {b : List ℕ} {s t n o : ℕ} {p p' c c' : List ℕ} → ReadPost L b (gives (s, (t, (n, o)))) p p' c c' → Delivered L b s t n o p' c'
delivered {L} {b} {s} {t} {n} {o} {p} {p'} {c} R =
    let q = was_given (s, (t, (n, o))) (read_refusal L b (length p) (length c)) (read_gives L b) R.answer in
    let en : n ≡ packages b = ap (λ (v : ℕ × (ℕ × (ℕ × ℕ))). v.1.1.0) q.1 in
    record {
      accepted = file_accepted L b (length p) (length c) q.0;
      schools = ap (λ (v : ℕ × (ℕ × (ℕ × ℕ))). v.0) q.1;
      slots = ap (λ (v : ℕ × (ℕ × (ℕ × ℕ))). v.1.0) q.1;
      packages = en;
      optional = ap (λ (v : ℕ × (ℕ × (ℕ × ℕ))). v.1.1.1) q.1;
      words = (page_holds (spread 3 (packages_of (contents L b))) p q.0 (ap (λ (k : ℕ). 3 * k) en ∙ sym (packed_long L b)) R.items).0;
      costs = (page_holds (costs_of (contents L b)) c q.0 (en ∙ sym (count-costs L b)) R.costs).0;
    }

-- ---- THEOREM: the numbers that a reader can say

-- 15 is said where the file's own tests say nothing
read-says : (L : Layout) (b : List ℕ) (p c : ℕ) (ns : List ℕ) → says_only ns (reply (refusal L b) (read_gives L b)) ≡ true
    → says_only (15 ∷ ns) (reply (read_refusal L b p c) (read_gives L b)) ≡ true
unfolding any read_refusal
read-says L b p c ns e =
    first_said (refusal L b) (15 ∷ ns) ((ltb p (3 * packages b) || ltb c (packages b), 15) ∷ []) (read_gives L b) (behind-said (15 ∷ []) ns _ e) refl

pub read-numbers : {L : Layout} {b : List ℕ} {r : Reply (ℕ × (ℕ × (ℕ × ℕ)))} {p p' c c' : List ℕ} → ReadPost L b r p p' c c'
    → says_only (15 ∷ 20 ∷ 21 ∷ 22 ∷ 24 ∷ 23 ∷ 31 ∷ 25 ∷ 26 ∷ 27 ∷ []) r ≡ true
unfolding any refusal
read-numbers {L} {b} {p = p} {c = c} R =
    ap (says_only _) R.answer
    ∙ read-says L b (length p) (length c) _ (among_said _ ((cut b, 20) ∷ (header_tests L b ++ record_tests L b)) (read_gives L b) refl)

-- version 1 has no 31
pub version1-says : {A : Type 0} (b : List ℕ) (v : A) → says_only (20 ∷ 21 ∷ 22 ∷ 24 ∷ 23 ∷ 25 ∷ 26 ∷ 27 ∷ []) (reply (refusal version1 b) v) ≡ true
unfolding any refusal
version1-says b v =
    one_fewer 31 _ (refusal version1 b) v (never_31 b)
    (among_said (31 ∷ 20 ∷ 21 ∷ 22 ∷ 24 ∷ 23 ∷ 25 ∷ 26 ∷ 27 ∷ []) ((cut b, 20) ∷ (header_tests version1 b ++ record_tests version1 b)) v refl)

pub read1_numbers : {b : List ℕ} {r : Reply (ℕ × (ℕ × (ℕ × ℕ)))} {p p' c c' : List ℕ} → ReadPost version1 b r p p' c c'
    → says_only (15 ∷ 20 ∷ 21 ∷ 22 ∷ 24 ∷ 23 ∷ 25 ∷ 26 ∷ 27 ∷ []) r ≡ true
read1_numbers {b} {p = p} {c = c} R = ap (says_only _) R.answer ∙ read-says version1 b (length p) (length c) _ (version1-says b (read_gives version1 b))
