-- THEOREM: which numbers each call can say, whatever its table, operands, costs, step limit, working words and page; it is over the contracts of the calls alone.
-- Where packages, optional set and order pass the tests that every call makes of them first, their numbers, 1, 2, 29, 30 and 34, are not among them
-- [document 02, No. 12]. Assumes nothing.
use mathlib.Core.Path.{◌≡◌, refl, ap, ◌∙◌}
use mathlib.Core.Bool.{Bool, true, false, not}
use mathlib.Core.List.{List, [], ◌∷◌, ◌++◌}
use Prim.Native.Nat.{ℕ, zero, suc, ◌<◌}
use native.Mathlib.Omega.{arith}
use lib.Dec.{eqb}
use borrow.Author.Tests.{eqb-true, ne_eqb, not-false}
use Rattle.base.specs.Lists.{any}
use Rattle.base.proofs.Bools.{never, by_test, or_right, or_neither}
use Rattle.zdd.specs.Table.{Family}
use Rattle.exact_cover.specs.Problem.{Problem, done}
use Rattle.statement.specs.declared.Call.{Call}
use Rattle.statement.specs.declared.Call.TheVariants.{Cover, Either, Both, Only, With, Without, Join}
use Rattle.statement.specs.Replies.{Report, Reply, refused, gives, reply, says, says_only}
use Rattle.statement.specs.Refusals.{first_of, stray_optional, nothing_compulsory, disordered, package_tests, Fit, check_refusal, count_refusal, pick_refusal}
use Rattle.statement.specs.Refusals.{measure_refusal, place_refusal, cheapest_refusal, closest_refusal, withdraw_refusal}
use Rattle.statement.specs.Calls.{call_refusal}
use Rattle.statement.specs.Postconditions.{Makes, AnswerPost, CoverPost, CheckPost, CountPost, PickPost, MeasurePost, PlacePost, CheapestPost, ClosestPost}
use Rattle.statement.specs.Postconditions.{WithdrawPost}
use Rattle.statement.proofs.FirstOf.{pass, hit}
use Rattle.statement.proofs.Admission.{fit_passes}

-- ---- the statement

-- the numbers of a call that makes an answer, but those of what it is lent besides the table
abbrev pub call_numbers : Call → List ℕ
call_numbers (Cover d limit) = 4 ∷ 7 ∷ 8 ∷ 9 ∷ 10 ∷ []
call_numbers (Either a b) = 4 ∷ 5 ∷ 8 ∷ 10 ∷ []
call_numbers (Both a b) = 4 ∷ 5 ∷ 8 ∷ 10 ∷ []
call_numbers (Only a b) = 4 ∷ 5 ∷ 8 ∷ 10 ∷ []
call_numbers (With a p) = 4 ∷ 5 ∷ 6 ∷ 8 ∷ 10 ∷ []
call_numbers (Without a p) = 4 ∷ 5 ∷ 6 ∷ 8 ∷ 10 ∷ []
call_numbers (Join a b) = 4 ∷ 5 ∷ 35 ∷ 8 ∷ 10 ∷ []

-- what the calls on the problem Q with m items can say: the numbers `front` of what is lent besides the table, and each call its own
pub record Sayable (Q : Problem) (m : ℕ) (front : List ℕ) : Type 0 where
  -- the soundness check, also the kiosk's, whose contract is `CheckPost` of the words of its nodes
  pub check : (t : List ℕ) (r : Reply (Unit {0})) → CheckPost Q m t r → says_only (front ++ (4 ∷ [])) r ≡ true
  -- cover; and all seven calls that make an answer, cover among them
  pub cover : (t : List ℕ) (d limit words : ℕ) (r : Report) (t' : List ℕ) → CoverPost Q m t d limit words r t'
      → says_only (front ++ (4 ∷ 7 ∷ 8 ∷ 9 ∷ 10 ∷ [])) r.outcome ≡ true
  pub answer : (t : List ℕ) (c : Call) (words : ℕ) (r : Report) (t' : List ℕ) → AnswerPost Q m t c words r t'
      → says_only (front ++ call_numbers c) r.outcome ≡ true
  -- count, also the kiosk's
  pub count : (t : List ℕ) (a words : ℕ) (r : Reply ℕ) → CountPost Q m t a words r → says_only (front ++ (4 ∷ 5 ∷ 8 ∷ 11 ∷ [])) r ≡ true
  pub measure : (t : List ℕ) (a k words : ℕ) (r : Reply ℕ) → MeasurePost Q m t a k words r
      → says_only (front ++ (4 ∷ 5 ∷ 8 ∷ 11 ∷ 12 ∷ [])) r ≡ true
  pub pick : (t : List ℕ) (a k words : ℕ) (page : List ℕ) (r : Reply ℕ) (page' : List ℕ) → PickPost Q m t a k words page r page'
      → says_only (front ++ (4 ∷ 5 ∷ 8 ∷ 11 ∷ 12 ∷ 15 ∷ [])) r ≡ true
  pub place : (t : List ℕ) (a : ℕ) (s : List ℕ) (words : ℕ) (r : Reply ℕ) → PlacePost Q m t a s words r
      → says_only (front ++ (4 ∷ 5 ∷ 6 ∷ 8 ∷ 11 ∷ 14 ∷ [])) r ≡ true
  pub cheapest : (C t : List ℕ) (a words : ℕ) (page : List ℕ) (r : Reply (ℕ × ℕ)) (page' : List ℕ) → CheapestPost Q m C t a words page r page'
      → says_only (front ++ (3 ∷ 4 ∷ 5 ∷ 8 ∷ 13 ∷ 15 ∷ [])) r ≡ true
  pub closest : (t : List ℕ) (a : ℕ) (s : List ℕ) (words : ℕ) (page : List ℕ) (r : Reply (ℕ × ℕ)) (page' : List ℕ) → ClosestPost Q m t a s words page r page'
      → says_only (front ++ (4 ∷ 5 ∷ 6 ∷ 8 ∷ 13 ∷ 15 ∷ [])) r ≡ true
  pub withdraw : (t gone answers : List ℕ) (words : ℕ) (r : Reply ℕ) (t' answers' : List ℕ) → WithdrawPost Q m t gone answers words r t' answers'
      → says_only (front ++ (4 ∷ 5 ∷ 36 ∷ 8 ∷ [])) r ≡ true

-- ---- from tests to replies

-- every test has one of the numbers
abbrev pub Among : List ℕ → List (Bool × ℕ) → Type 0
Among ns ts = any (λ (t : Bool × ℕ). not (any (eqb t.1) ns)) ts ≡ false

-- a test whose number is one of them, in front of others of which no other number is said
test_said : {A : Type 0} (b : Bool) (k : ℕ) (ns : List ℕ) (ts : List (Bool × ℕ)) (v : A) → any (eqb k) ns ≡ true → says_only ns (reply (first_of ts) v) ≡ true
    → says_only ns (reply (first_of ((b, k) ∷ ts)) v) ≡ true
unfolding says_only first_of
test_said true zero ns ts v p q = refl
test_said true (suc k) ns ts v p q = p
test_said false k ns ts v p q = q

pub among_said : {A : Type 0} (ns : List ℕ) (ts : List (Bool × ℕ)) (v : A) → Among ns ts → says_only ns (reply (first_of ts) v) ≡ true
unfolding any says_only first_of
among_said ns [] v e = refl
among_said ns (t ∷ ts) v e =
    let p = or_neither (not (any (eqb t.1) ns)) _ e in test_said t.0 t.1 ns ts v (not-false (any (eqb t.1) ns) p.0) (among_said ns ts v p.1)

-- the number n of tests made elsewhere, 0 for none, in front of others
pub first_said : {A : Type 0} (n : ℕ) (ns : List ℕ) (ts : List (Bool × ℕ)) (v : A) → says_only ns (reply n v) ≡ true → Among ns ts
    → says_only ns (reply (first_of ((not (eqb n 0), n) ∷ ts)) v) ≡ true
unfolding first_of
first_said zero ns ts v h e = among_said ns ts v e
first_said (suc n) ns ts v h e = ap (λ (k : ℕ). says_only ns (reply k v)) (hit (suc n) ts (ap not (ne_eqb (suc n) 0 (λ z. omega arith)))) ∙ h

-- with more numbers in front
any-behind : {A : Type 0} (P : A → Bool) (xs ys : List A) → any P ys ≡ true → any P (xs ++ ys) ≡ true
unfolding any
any-behind P [] ys e = e
any-behind P (x ∷ xs) ys e = or_right (P x) (any P (xs ++ ys)) (any-behind P xs ys e)

pub behind-said : {A : Type 0} (ms ns : List ℕ) (x : Reply A) → says_only ns x ≡ true → says_only (ms ++ ns) x ≡ true
unfolding says_only
behind-said ms ns (refused n) e = any-behind (eqb n) ms ns e
behind-said ms ns (gives v) e = refl

-- of a call that tells its refusal n, and gives some value where there is none
refusal-said : (n : ℕ) {x : Reply ℕ} (ns : List ℕ) → says_only {A = ℕ} ns (reply n 0) ≡ true → (0 < n → x ≡ refused n) → (n ≡ 0 → (v : ℕ) × (x ≡ gives v))
    → says_only ns x ≡ true
unfolding says_only
refusal-said zero ns e f g = ap (says_only ns) (g refl).1
refusal-said (suc n) ns e f g = ap (says_only ns) (f (omega arith)) ∙ e

-- of one that makes an answer
made-said : {K : List ℕ} {n : ℕ} {F : Family} {s : ℕ} {t t' : List ℕ} {r : Report} (ns : List ℕ) → says_only {A = ℕ} ns (reply n 0) ≡ true → Makes K n F s t r t'
    → says_only ns r.outcome ≡ true
made-said {n = n} ns e p = refusal-said n ns e (λ l. (p.declined l).outcome) (λ z. (_, (p.answered z).outcome))

-- a number that is not the refusal's need not be among them
pub one_fewer : {A : Type 0} (k : ℕ) (ns : List ℕ) (n : ℕ) (v : A) → (n ≡ k → ⊥) → says_only (k ∷ ns) (reply n v) ≡ true → says_only ns (reply n v) ≡ true
unfolding any says_only
one_fewer k ns zero v f e = refl
one_fewer k ns (suc n) v f e = rw (ne_eqb (suc n) k f) at e

-- numbers that are not among those that can be said are not said
pub never_said : {A : Type 0} (ms ns : List ℕ) (x : Reply A) → any (λ (n : ℕ). any (eqb n) ms) ns ≡ false → says_only ns x ≡ true → says ms x ≡ false
unfolding any says says_only
never_said ms ns (gives v) d e = refl
never_said ms [] (refused n) d e = absurd (never e refl)
never_said {A} ms (k ∷ ns) (refused n) d e =
    let p = or_neither (any (eqb k) ms) (any (λ (i : ℕ). any (eqb i) ms) ns) d in
    by_test (eqb n k)
    (λ (q : eqb n k ≡ true). rw (eqb-true n k q) p.0)
    (λ (q : eqb n k ≡ false). never_said {A = A} ms ns (refused n) p.1 (rw q at e))

-- ---- the calls

-- every call tests what it is lent besides the table in front of its own tests
module _ (Q : Problem) (m : ℕ) (front : List ℕ)
    (behind : (A : Type 0) (ns : List ℕ) (ts : List (Bool × ℕ)) (v : A) → Among ns ts → says_only (front ++ ns) (reply (first_of (package_tests Q m ts)) v) ≡ true) where
  calls : (t : List ℕ) (c : Call) (words : ℕ) → says_only {A = ℕ} (front ++ call_numbers c) (reply (call_refusal Q m t c words) 0) ≡ true
  unfolding call_refusal any
  calls t (Cover d limit) words = behind _ _ _ _ refl
  calls t (Either a b) words = behind _ _ _ _ refl
  calls t (Both a b) words = behind _ _ _ _ refl
  calls t (Only a b) words = behind _ _ _ _ refl
  calls t (With a p) words = behind _ _ _ _ refl
  calls t (Without a p) words = behind _ _ _ _ refl
  calls t (Join a b) words = behind _ _ _ _ refl

  sayable : Sayable Q m front
  unfolding any check_refusal count_refusal pick_refusal measure_refusal place_refusal cheapest_refusal closest_refusal withdraw_refusal
  sayable = record {
    check = λ t r p. ap (says_only _) p.result ∙ behind _ _ _ _ refl;
    cover = λ t d limit words r t'. made-said _ (behind _ _ _ _ refl);
    answer = λ t c words r t'. made-said _ (calls t c words);
    count = λ t a words r p. ap (says_only _) p.result ∙ behind _ _ _ _ refl;
    measure = λ t a k words r p. ap (says_only _) p.result ∙ behind _ _ _ _ refl;
    pick = λ t a k words page r page' p. ap (says_only _) p.result ∙ behind _ _ _ _ refl;
    place = λ t a s words r p. ap (says_only _) p.result ∙ behind _ _ _ _ refl;
    cheapest = λ C t a words page r page' p. ap (says_only _) p.result ∙ behind _ _ _ _ refl;
    closest = λ t a s words page r page' p. ap (says_only _) p.result ∙ behind _ _ _ _ refl;
    withdraw = λ t gone answers words r t' answers' p. refusal-said _ _ (behind _ _ _ _ refl) (λ l. (p.declined l).reply) (λ z. (_, (p.done z).reply));
  }

-- ---- the theorems

-- whatever is lent
pub all_sayable : (Q : Problem) (m : ℕ) → Sayable Q m (1 ∷ 2 ∷ 29 ∷ 30 ∷ 34 ∷ [])
unfolding any
all_sayable Q m = sayable Q m _ (λ A ns ts v e.
    test_said _ 1 _ _ v refl (test_said _ 2 _ _ v refl (test_said _ 29 _ _ v refl (test_said _ 30 _ _ v refl (test_said _ 34 _ _ v refl
    (behind-said (1 ∷ 2 ∷ 29 ∷ 30 ∷ 34 ∷ []) ns _ (among_said ns ts v e)))))))

-- a withdrawal is never refused with 10, 'full' [document 02, No. 8]
pub never_full : (Q : Problem) (m : ℕ) (t gone answers : List ℕ) (words : ℕ) (r : Reply ℕ) (t' answers' : List ℕ) → WithdrawPost Q m t gone answers words r t' answers'
    → says (10 ∷ []) r ≡ false
unfolding any
never_full Q m t gone answers words r t' answers' p = never_said (10 ∷ []) _ r refl ((all_sayable Q m).withdraw t gone answers words r t' answers' p)

module _ {Q : Problem} {m : ℕ} (f : Fit Q m) where
  -- where packages, optional set and order pass
  pub fit_sayable : Sayable Q m []
  fit_sayable = sayable Q m [] (λ A ns ts v e. rw (fit_passes ts f) (among_said ns ts v e))

  -- with the same packages and optional set in any other order, be it each item just once or not
  module _ (order : List ℕ) where
    abbrev R : Problem
    R = record { packages = Q.packages; optional = Q.optional; order = order }

    reordered : (ts : List (Bool × ℕ)) → first_of (package_tests R m ts) ≡ first_of ((disordered m order, 34) ∷ ts)
    unfolding stray_optional nothing_compulsory done
    reordered ts = pass 1 _ f.sized ∙ pass 2 _ f.clean ∙ pass 29 _ f.known ∙ pass 30 _ f.due

    pub reordered_sayable : Sayable R m (34 ∷ [])
    unfolding any
    reordered_sayable = sayable R m (34 ∷ []) (λ A ns ts v e.
        rw (reordered ts) (test_said (disordered m order) 34 _ ts v refl (behind-said (34 ∷ []) ns _ (among_said ns ts v e))))
