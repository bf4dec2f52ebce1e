-- A family under another: each branch family of the one is a branch family of the other. A family without branch families is under every family,
-- so that one relation serves 'is a branch of' and 'takes no node'. Assumes nothing.
use mathlib.Core.Path.{◌≡◌, refl, subst, subst⁻¹}
use mathlib.Core.List.Memᴰ
use mathlib.Core.List.{List, [], ◌∷◌, cons≢nil}
use Prim.Native.Nat.{ℕ, suc}
use native.Mathlib.Omega.{arith}
use Rattle.zdd.specs.Table.{Family, fork, key, ◌∈◌}
use Rattle.zdd.proofs.Member.{Avoids, from_avoids}
use Rattle.zdd.specs.Work.{From, Under}
use Rattle.zdd.specs.Branches.{branches}
use Rattle.zdd.proofs.Counting.{branches-fork, branches-nil}

pub under_self : (F : Family) → Under F F
under_self F = record { each = λ H m. m }

pub under_trans : {F G H : Family} → Under F G → Under G H → Under F H
under_trans u v = record { each = λ H m. v.each H (u.each H m) }

pub under_eq : {F G : Family} → F ≡ G → Under F G
under_eq {F} {G} e = subst (λ (H : Family). Under F H) e (under_self F)

-- a family that has no branch family
pub under_none : {F : Family} → branches F ≡ [] → (G : Family) → Under F G
under_none e G = record { each = λ H m. absurd (Memᴰ.not-nil (subst (λ (l : List Family). H ∈ l) e m)) }

pub under_nil : (G : Family) → Under [] G
under_nil G = under_none branches-nil G

-- ---- the parts of a fork are under it, whatever they are: where F1 has no set, the fork is F0

pub fork_branch : (p : ℕ) (F1 F0 : Family) → (F1 ≡ [] → ⊥) → Avoids p F0 → fork p F1 F0 ∈ branches (fork p F1 F0)
fork_branch p F1 F0 n a = subst⁻¹ (λ (l : List Family). fork p F1 F0 ∈ l) (branches-fork p F1 F0 n a) (Memᴰ.head refl)

pub under_hi : (p : ℕ) (F1 F0 : Family) → Avoids p F0 → Under F1 (fork p F1 F0)
under_hi p [] F0 a = under_nil F0
under_hi p (s ∷ F1) F0 a =
    record { each = λ H m. subst⁻¹ (λ (l : List Family). H ∈ l) (branches-fork p (s ∷ F1) F0 (λ e. cons≢nil e) a) (Memᴰ.tail (Memᴰ.append_left _ m)) }

pub under_lo : (p : ℕ) (F1 F0 : Family) → Avoids p F0 → Under F0 (fork p F1 F0)
under_lo p [] F0 a = under_self F0
under_lo p (s ∷ F1) F0 a =
    record { each = λ H m. subst⁻¹ (λ (l : List Family). H ∈ l) (branches-fork p (s ∷ F1) F0 (λ e. cons≢nil e) a) (Memᴰ.tail (Memᴰ.append_right (branches (s ∷ F1)) m)) }

-- the same where the sets of F0 begin after p
pub after_hi : (K : List ℕ) (p : ℕ) (F1 F0 : Family) → From K (suc (key K p)) F0 → Under F1 (fork p F1 F0)
after_hi K p F1 F0 f = under_hi p F1 F0 (from_avoids K (suc (key K p)) p F0 f (omega arith))

pub after_lo : (K : List ℕ) (p : ℕ) (F1 F0 : Family) → From K (suc (key K p)) F0 → Under F0 (fork p F1 F0)
after_lo K p F1 F0 f = under_lo p F1 F0 (from_avoids K (suc (key K p)) p F0 f (omega arith))
