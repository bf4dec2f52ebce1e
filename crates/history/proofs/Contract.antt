-- What the contract of a call says, whichever call it is. Assumes nothing.
use mathlib.Core.Path.{◌≡◌, refl, ap, subst⁻¹}
use mathlib.Core.Logic.{⊎_elim}
use mathlib.Core.Bool.{Bool, false, ◌||◌}
use mathlib.Core.List.Memᴰ
use mathlib.Core.List.{List, [], ◌∷◌}
use Prim.Native.Nat.{ℕ, zero, suc, ◌+◌, ◌<◌}
use native.Mathlib.Nat.{eq-zero-or-pos}
use native.Mathlib.Omega.{arith}
use lib.ListN.{length}
use borrow.Author.Tests.{leb-false}
use Rattle.base.proofs.Bools.{never, is_false, or_left, or_right}
use Rattle.zdd.specs.Table.{Family, count, elem, ◌∈◌}
use Rattle.zdd.specs.Operations.{combine, including, excluding, join}
use Rattle.zdd.proofs.Tested.{sound_of}
use Rattle.exact_cover.specs.Problem.{Problem}
use Rattle.exact_cover.specs.Cover.{keys_of, covering}
use Rattle.statement.specs.Replies.{Report, Reply, refused, gives}
use Rattle.query.specs.Questions.{family_at}
use Rattle.statement.specs.Refusals.{first_of, unknown_answer, Fit}
use Rattle.statement.specs.declared.Call.{Call}
use Rattle.statement.specs.declared.Call.TheVariants.{Cover, Either, Both, Only, With, Without, Join}
use Rattle.statement.specs.Calls.{operands, family_of, call_tests, call_refusal}
use Rattle.statement.proofs.Admission.{fit_of}
use Rattle.statement.specs.Postconditions.{Makes}
use Rattle.history.specs.Histories.{Entry, Step, Calls, History, start, next, Chosen, listing, makes}
use Rattle.statement.proofs.FirstOf.{passed}

abbrev pub refusal_of : (Q : Problem) (t : List ℕ) → Entry → ℕ
refusal_of Q t c = call_refusal Q c.m t c.call c.words

-- the set that the call makes, from the families that the table holds
abbrev pub made : (Q : Problem) (t : List ℕ) → Call → Chosen
made Q t c = makes Q (λ x s. elem s (family_at t x)) c

pub made-family : (Q : Problem) (t : List ℕ) (c : Call) → family_of Q t c ≡ listing Q (made Q t c)
unfolding covering combine including excluding join
made-family Q t (Cover d limit) = refl
made-family Q t (Either a b) = refl
made-family Q t (Both a b) = refl
made-family Q t (Only a b) = refl
made-family Q t (With a p) = refl
made-family Q t (Without a p) = refl
made-family Q t (Join a b) = refl

pub fit_call : (Q : Problem) (t : List ℕ) (c : Entry) → refusal_of Q t c ≡ 0 → Fit Q c.m
unfolding call_refusal
fit_call Q t c e = (fit_of _ e).0

pub not-both : (o : Reply ℕ) (n a : ℕ) → o ≡ refused n → o ≡ gives a → ⊥
not-both o n a p q = let z : ◌≡◌ {A = ℕ} 0 1 = cc in omega arith

pub gives_one : (o : Reply ℕ) (a b : ℕ) → o ≡ gives a → o ≡ gives b → a ≡ b
gives_one o a b p q = cc

-- a call that answers is not refused
pub no_refusal : {K : List ℕ} {n s a : ℕ} {F : Family} {t t' : List ℕ} {r : Report} → Makes K n F s t r t' → r.outcome ≡ gives a → n ≡ 0
no_refusal {K} {n} {s} {a} {F} {t} {t'} {r} p e =
    ⊎_elim (λ (z : n ≡ 0). z) (λ (l : 0 < n). absurd (not-both r.outcome n a (p.declined l).outcome e)) (eq-zero-or-pos n)

-- a refused call is
pub refusal : {K : List ℕ} {n s e : ℕ} {F : Family} {t t' : List ℕ} {r : Report} → Makes K n F s t r t' → r.outcome ≡ refused e → t' ≡ t
refusal {K} {n} {s} {e} {F} {t} {t'} {r} p q =
    ⊎_elim
    (λ (z : n ≡ 0). absurd (not-both r.outcome e (p.answered z).number q (p.answered z).outcome))
    (λ (l : 0 < n). (p.declined l).table)
    (eq-zero-or-pos n)

-- ---- what the contract says of any call

-- a call that answers knows its operands
known_one : (t : List ℕ) (a x : ℕ) → unknown_answer t a ≡ false → x ≡ a → x < count t + 2
unfolding unknown_answer
known_one t a x f q = subst⁻¹ (λ (n : ℕ). n < count t + 2) q (leb-false (count t + 2) a f)

known-pair : (t : List ℕ) (a b x : ℕ) (ts : List (Bool × ℕ)) → first_of ((unknown_answer t a || unknown_answer t b, 5) ∷ ts) ≡ 0 → x ∈ a ∷ b ∷ [] → x < count t + 2
known-pair t a b x ts e i =
    let f = (passed (unknown_answer t a || unknown_answer t b) 4 ts e).0 in
    ⊎_elim
    (known_one t a x (is_false (unknown_answer t a) (λ y. never (or_left (unknown_answer t a) (unknown_answer t b) y) f)))
    (λ k. known_one t b x (is_false (unknown_answer t b) (λ y. never (or_right (unknown_answer t a) (unknown_answer t b) y) f)) (Memᴰ.eq_of_singleton k))
    (Memᴰ.cases_cons i)

known-part : (t : List ℕ) (a x : ℕ) (ts : List (Bool × ℕ)) → first_of ((unknown_answer t a, 5) ∷ ts) ≡ 0 → x ∈ a ∷ [] → x < count t + 2
known-part t a x ts e i = known_one t a x (passed (unknown_answer t a) 4 ts e).0 (Memᴰ.eq_of_singleton i)

known-call : (Q : Problem) (m : ℕ) (t : List ℕ) (c : Call) (words : ℕ) → first_of (call_tests Q m t c words) ≡ 0 → (x : ℕ) → x ∈ operands c → x < count t + 2
known-call Q m t (Cover d limit) words e x i = absurd (Memᴰ.not-nil i)
known-call Q m t (Either a b) words e x i = known-pair t a b x _ e i
known-call Q m t (Both a b) words e x i = known-pair t a b x _ e i
known-call Q m t (Only a b) words e x i = known-pair t a b x _ e i
known-call Q m t (With a p) words e x i = known-part t a x _ e i
known-call Q m t (Without a p) words e x i = known-part t a x _ e i
known-call Q m t (Join a b) words e x i = known-pair t a b x _ e i

own_tests : (Q : Problem) (t : List ℕ) (c : Entry) → refusal_of Q t c ≡ 0 → first_of (call_tests Q c.m t c.call c.words) ≡ 0
unfolding call_refusal
own_tests Q t c e = (passed _ 3 _ (fit_of _ e).1).1

module _ (Q : Problem) (t : List ℕ) (c : Entry) (r : Report) (t' : List ℕ) (contract : Step Q t c r t') where
  pub operand_known : (a : ℕ) → r.outcome ≡ gives a → (x : ℕ) → x ∈ operands c.call → x < count t + 2
  operand_known a e = known-call Q c.m t c.call c.words (own_tests Q t c (no_refusal contract e))

  -- an answer's number is below 65536
  pub answer-below : (a : ℕ) → r.outcome ≡ gives a → a < 65536
  answer-below a e =
      let A = contract.answered (no_refusal contract e) in
      let q : A.number ≡ a = gives_one r.outcome A.number a A.outcome e in
      omega (arith, A.known, (sound_of (keys_of Q) t' A.sound).few)

  -- the table is as long as before
  pub as_long : length t' ≡ length t
  as_long =
      ⊎_elim
      (λ (z : refusal_of Q t c ≡ 0). (contract.answered z).long)
      (λ (l : 0 < refusal_of Q t c). ap length (contract.declined l).table)
      (eq-zero-or-pos (refusal_of Q t c))

  -- it has as many nodes more as were made
  pub grown : count t' ≡ count t + r.made
  grown =
      ⊎_elim
      (λ (z : refusal_of Q t c ≡ 0). (contract.answered z).grown)
      (λ (l : 0 < refusal_of Q t c). let D = contract.declined l in omega (arith, ap count D.table, D.made))
      (eq-zero-or-pos (refusal_of Q t c))

-- ---- what it says of a history

-- how many nodes the calls made
pub nodes_made : Calls → ℕ
nodes_made [] = 0
nodes_made (e ∷ h) = nodes_made h + e.1.made

-- the table that they leave has as many
pub nodes-made : {Q : Problem} {h : Calls} {t : List ℕ} → History Q h t → count t ≡ nodes_made h
unfolding nodes_made
nodes-made (start zero) = refl
nodes-made (start (suc n)) = refl
nodes-made {Q} (next {h} {t} H c r t' a s) = omega (arith, grown Q t c r t' s, nodes-made H)
