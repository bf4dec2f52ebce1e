-- A node of a readable table: its children, its label and its family. Assumes nothing.
use mathlib.Core.Path.{◌≡◌, refl, ap, ◌∙◌}
use mathlib.Core.List.{List, [], ◌∷◌, map}
use Prim.Native.Nat.{ℕ, suc, ◌+◌, ◌-◌, ◌*◌, ◌<◌}
use native.Mathlib.Omega.{arith}
use lib.ListN.{length, length-append, length-map}
use Rattle.zdd.specs.Table.{Family, fork, count, nodes_of, key, Fine}
use Rattle.zdd.specs.Work.{From}
use Rattle.zdd.proofs.Words.{at-word, length-nodes}
use Rattle.zdd.proofs.Grow.{family-zero, family_one}
use Rattle.zdd.proofs.Canon.{family-some}
use Rattle.zdd.proofs.Member.{Avoids, from_avoids, family_from}
use Rattle.zdd.proofs.TableLaws.{fine_at, family-at}
use Rattle.query.specs.Questions.{family_at}
use Rattle.query.specs.Reading.{label_of, lo_of, hi_of, Readable, Branch}

pub length-fork : (p : ℕ) (F1 F0 : Family) → length (fork p F1 F0) ≡ length F1 + length F0
length-fork p F1 F0 =
    length-append (map (λ (t : List ℕ). p ∷ t) F1) F0 ∙ ap (λ (n : ℕ). n + length F0) (length-map F1 (λ (t : List ℕ). p ∷ t))

some-length : (F : Family) → (F ≡ [] → ⊥) → 0 < length F
some-length [] f = absurd (f refl)
some-length (t ∷ F) f = omega arith

-- what is known of the node k
pub record Parts (t : List ℕ) (k : ℕ) : Type 0 where
  pub hi-below : hi_of t k < k
  pub hi-some : 0 < hi_of t k
  pub lo-below : lo_of t k < k
  pub label_small : label_of t k < 65536
  pub split : family_at t k ≡ fork (label_of t k) (family_at t (hi_of t k)) (family_at t (lo_of t k))
  pub size : length (family_at t k) ≡ length (family_at t (hi_of t k)) + length (family_at t (lo_of t k))
  pub apart : Avoids (label_of t k) (family_at t (lo_of t k))

pub at_zero : (t : List ℕ) → family_at t 0 ≡ []
at_zero t = family-zero (nodes_of t)

pub at_one : (t : List ℕ) → family_at t 1 ≡ [] ∷ []
at_one t = family_one (nodes_of t)

module _ {t : List ℕ} (R : Readable t) where
  pub branch : (k : ℕ) → 1 < k → k < count t + 2 → Branch t k
  branch k l h = record { low = omega arith; known = h; room = R.sound.room }

  -- only number 0 holds none
  pub some : (k : ℕ) → 0 < k → k < count t + 2 → 0 < length (family_at t k)
  some k l h = some-length (family_at t k) (family-some R.sound.nodes k (omega (arith, length-nodes t)) l)

  pub label-known : (k : ℕ) → 1 < k → k < count t + 2 → label_of t k < length R.keys
  label-known k l h = (fine_at R.sound k (1 + 3 * (k - 2)) (omega arith) h refl).label-known

  pub parts : (k : ℕ) → 1 < k → k < count t + 2 → Parts t k
  parts k l h =
      let a : ℕ = 1 + 3 * (k - 2) in
      let f : Fine R.keys (nodes_of t) (k - 2) (at-word t a) = fine_at R.sound k a (omega arith) h refl in
      let e : family_at t k ≡ fork (label_of t k) (family_at t (hi_of t k)) (family_at t (lo_of t k)) = family-at R.sound k a (omega arith) h refl in
      record {
        hi-below = omega (arith, f.hi-below);
        hi-some = f.hi-some;
        lo-below = omega (arith, f.lo-below);
        label_small = omega (arith, f.label-known, R.few);
        split = e;
        size = ap length e ∙ length-fork (label_of t k) (family_at t (hi_of t k)) (family_at t (lo_of t k));
        apart =
            from_avoids R.keys (suc (key R.keys (label_of t k))) (label_of t k) (family_at t (lo_of t k))
            (family_from R.sound.nodes (lo_of t k) (omega (arith, f.lo-below, length-nodes t)) (suc (key R.keys (label_of t k))) f.lo_after) (omega arith);
      }

  -- the labels of hi's sets come behind the node's
  pub hi_from : (k : ℕ) → 1 < k → k < count t + 2 → From R.keys (suc (key R.keys (label_of t k))) (family_at t (hi_of t k))
  hi_from k l h =
      let f = fine_at R.sound k (1 + 3 * (k - 2)) (omega arith) h refl in
      family_from R.sound.nodes (hi_of t k) (omega (arith, f.hi-below, length-nodes t)) (suc (key R.keys (label_of t k))) f.hi_after
