-- The loops that name the labels. Assumes nothing.
use mathlib.Core.Path.{◌≡◌, refl, sym, ap, ◌∙◌, subst⁻¹}
use mathlib.Core.Bool.{true, false}
use mathlib.Core.List.{List}
use Prim.Native.Nat.{ℕ, suc, ◌+◌, ◌≤◌, ◌<◌}
use native.Mathlib.Nat.{not-suc-le-zero}
use native.Mathlib.Decide.{ℕ_discrete}
use native.Mathlib.Omega.{arith}
use lib.ListN.{length, get_or, set, length-set, replicate, take}
use Rattle.std.proofs.lemmas.List.{take-replicate}
use lib.Seq.{get_or-set_same, get_or-set_other}
use Rattle.base.proofs.Bools.{never, clash, by_test, is_false}
use Rattle.base.proofs.Lists.{nth_member, member_nth}
use Rattle.base.proofs.Wiping.{zeros}
use Rattle.zdd.specs.Table.{has}
use Rattle.zdd.specs.Withdrawal.{rank}
use Rattle.zdd.proofs.Member.{has_in, in_has}
use Rattle.zdd.proofs.Ranks.{rank_gone, rank_stays}
use Rattle.withdraw.specs.State.{Names, Struck, NumberedTo}

-- ---- strike

-- the first n words of a new array of zeros
pub struck_start : (gone : List ℕ) (n m : ℕ) → n ≤ m → Struck gone 0 (length {A = ℕ} (take n (replicate m 0))) (take n (replicate m 0))
struck_start gone n m h =
    subst⁻¹ (λ (names : List ℕ). Struck gone 0 (length names) names) (take-replicate n m 0 h)
    (record { many = omega arith; ones = λ i l. absurd (not-suc-le-zero l); zeros = λ p l _. zeros n p })

pub struck_more : {gone : List ℕ} {n : ℕ} {names : List ℕ} (j p : ℕ) → p ≡ get_or gone j 0 → p < length names → Struck gone j n names → Struck gone (j + 1) n (set names p 1)
struck_more {gone} {n} {names} j p e h s = record {
  many = rw (length-set names p 1) s.many;
  ones = λ i l. one_at i l (ℕ_discrete i j) (ℕ_discrete (get_or gone i 0) p);
  zeros = λ q l f.
      get_or-set_other names p q 1 0 (λ z. f j (omega arith) (sym e ∙ sym z)) ∙ s.zeros q l (λ i m. f i (omega arith));
}
  where
    one_at : (i : ℕ) → i < j + 1 → Dec (i ≡ j) → Dec (get_or gone i 0 ≡ p) → get_or (set names p 1) (get_or gone i 0) 0 ≡ 1
    one_at i l d (yes z) = ap (λ (k : ℕ). get_or (set names p 1) k 0) z ∙ get_or-set_same names p 1 0 h
    one_at i l (yes y) (no f) = absurd (f (ap (λ (k : ℕ). get_or gone k 0) y ∙ sym e))
    one_at i l (no y) (no f) = get_or-set_other names p (get_or gone i 0) 1 0 f ∙ s.ones i (omega arith)

-- ---- number

rank-none : (gone : List ℕ) → 0 ≡ rank gone 0
unfolding rank
rank-none gone = refl

pub number_start : {gone : List ℕ} {n : ℕ} {names : List ℕ} → Struck gone (length gone) n names → NumberedTo gone n 0 0 names
number_start {gone} {n} {names} s = record {
  many = s.many;
  counted = rank-none gone;
  gone_zero = λ q l. absurd (not-suc-le-zero l);
  stays_rank = λ q l. absurd (not-suc-le-zero l);
  gone_one = λ q _ l e. let r = member_nth gone 0 q (has_in q gone e) in ap (λ (k : ℕ). get_or names k 0) r.2 ∙ s.ones r.0 r.1;
  stays_zero = λ q _ l e. s.zeros q l (λ i h z. never (ap (λ (k : ℕ). has k gone) (sym z) ∙ in_has (get_or gone i 0) gone (nth_member gone i 0 h)) e);
}

-- the label p gets its name v, and d labels up to it remain
module _ {gone : List ℕ} {n p c : ℕ} {names : List ℕ} (s : NumberedTo gone n p c names) (lt : p < n) (v d : ℕ) (counted : d ≡ rank gone (suc p))
    (gone_zero : has p gone ≡ true → v ≡ 0) (stays_rank : has p gone ≡ false → v ≡ suc (rank gone p)) where
  own : get_or (set names p v) p 0 ≡ v
  own = get_or-set_same names p v 0 (omega (arith, s.many))

  numbered : NumberedTo gone n (p + 1) d (set names p v)
  numbered = record {
    many = rw (length-set names p v) s.many;
    counted = (let y : suc p ≡ p + 1 = omega arith in counted ∙ ap (rank gone) y);
    gone_zero = λ q a b e. gone_at q a b e (ℕ_discrete q p);
    stays_rank = λ q a b e. stays_at q a b e (ℕ_discrete q p);
    gone_one = λ q a b e. get_or-set_other names p q v 0 (λ z. omega arith) ∙ s.gone_one q (omega arith) b e;
    stays_zero = λ q a b e. get_or-set_other names p q v 0 (λ z. omega arith) ∙ s.stays_zero q (omega arith) b e;
  }
    where
      gone_at : (q : ℕ) → q < p + 1 → q < n → has q gone ≡ true → Dec (q ≡ p) → get_or (set names p v) q 0 ≡ 0
      gone_at q a b e (yes z) = ap (λ (k : ℕ). get_or (set names p v) k 0) z ∙ own ∙ gone_zero (ap (λ (k : ℕ). has k gone) (sym z) ∙ e)
      gone_at q a b e (no z) = get_or-set_other names p q v 0 z ∙ s.gone_zero q (omega arith) b e

      stays_at : (q : ℕ) → q < p + 1 → q < n → has q gone ≡ false → Dec (q ≡ p) → get_or (set names p v) q 0 ≡ suc (rank gone q)
      stays_at q a b e (yes z) =
          ap (λ (k : ℕ). get_or (set names p v) k 0) z ∙ own ∙ stays_rank (ap (λ (k : ℕ). has k gone) (sym z) ∙ e)
          ∙ ap (λ (k : ℕ). suc (rank gone k)) (sym z)
      stays_at q a b e (no z) = get_or-set_other names p q v 0 z ∙ s.stays_rank q (omega arith) b e

module _ {gone : List ℕ} {n p c : ℕ} {names : List ℕ} (s : NumberedTo gone n p c names) (lt : p < n) where
  -- a label that is struck is withdrawn
  pub number_gone : (get_or names p 0 ≡ 0 → ⊥) → NumberedTo gone n (p + 1) c (set names p 0)
  number_gone z =
      let here : has p gone ≡ true = by_test (has p gone) (λ e. e) (λ e. absurd (z (s.stays_zero p (omega arith) lt e))) in
      numbered s lt 0 c (s.counted ∙ sym (rank_gone gone p here)) (λ _. refl) (clash (has p gone) here)

  pub number_stays : (v : ℕ) → v ≡ c + 1 → get_or names p 0 ≡ 0 → NumberedTo gone n (p + 1) v (set names p v)
  number_stays v vc z =
      let here : has p gone ≡ false = is_false (has p gone) (λ e. omega (arith, s.gone_one p (omega arith) lt e)) in
      numbered s lt v v (omega (arith, s.counted, rank_stays gone p here)) (λ e. clash (has p gone) e here) (λ _. omega (arith, s.counted))

pub number-all : {gone : List ℕ} {n p c : ℕ} {names : List ℕ} → NumberedTo gone n p c names → n ≤ p → Names gone n names
number-all s h = record { many = s.many; gone_zero = λ q l e. s.gone_zero q (omega arith) l e; stays_rank = λ q l e. s.stays_rank q (omega arith) l e }
