-- The calls that make an answer: what `family`'s functions ask, and what their results make of the calls' contracts. Assumes nothing.
use mathlib.Core.Path.{◌≡◌, refl, sym, ap, ◌∙◌, subst⁻¹}
use mathlib.Core.Bool.{Bool, true, false, ◌||◌}
use mathlib.Core.List.{List, [], ◌∷◌, ◌++◌}
use Prim.Native.Nat.{ℕ, ◌+◌, ◌≤◌, ◌<◌}
use native.Mathlib.Omega.{arith}
use lib.ListN.{length, take}
use Rattle.zdd.specs.Table.{Family, count, nodes_of}
use Rattle.zdd.specs.Branches.{missing}
use Rattle.table.specs.State.{Obtained}
use Rattle.statement.specs.Replies.{gives, Report}
use Rattle.zdd.proofs.Tested.{sound_test}
use Rattle.std.proofs.Common.{Option, Some, None}
use Rattle.family.specs.declared.Operation.{Operation}
use Rattle.family.specs.declared.Operation.TheVariants.{Union, Intersection, Difference, Join as JoinOf}
use Rattle.exact_cover.specs.Problem.{Problem}
use Rattle.exact_cover.specs.Cover.{keys_of}
use Rattle.exact_cover.proofs.Order.{length-keys}
use Rattle.family.specs.Gives.{Returned, Operable}
use Rattle.statement.specs.Refusals.{first_of, unknown_answer, overlap, short_work, full, Fit}
use Rattle.statement.specs.declared.Call.{Call}
use Rattle.statement.specs.declared.Call.TheVariants.{Either, Both, Only, With, Without, Join}
use Rattle.family.specs.Memo.{combined, Combinable, restricted}
use Rattle.query.specs.Questions.{family_at}
use Rattle.statement.specs.Calls.{family_of, steps_of, part_tests, call_tests, call_refusal}
use Rattle.statement.proofs.Admission.{table-passes}
use Rattle.statement.specs.Postconditions.{Declined, Makes, AnswerPost}
use Rattle.statement.proofs.Kept.{refused-makes}
use Rattle.statement.proofs.Made.{below-missing}
use Rattle.statement.proofs.Joins.{apart}
use Rattle.support.specs.Support.{Labelled}
use Rattle.statement.proofs.FirstOf.{pass, hit, none, passed, front, Numbered, behind}
use Rattle.statement.proofs.TestLaws.{answer-known, answer-unknown}
use Rattle.engine.specs.Reports.{Reported, pair_call, join_front, own_front, pair_front, PairTested, part_call}
use Rattle.guard.specs.Admitted.{Usable, Admitted}
use Rattle.guard.proofs.GuardLaws.{admit-refused}

-- ---- 5

-- 5 is said of either operand
pub both-known : (t : List ℕ) (a b : ℕ) → a < count t + 2 → b < count t + 2 → (unknown_answer t a || unknown_answer t b) ≡ false
both-known t a b h l = rw (answer-known t a h) (answer-known t b l)

pub first-unknown : (t : List ℕ) (a b : ℕ) → count t + 2 ≤ a → (unknown_answer t a || unknown_answer t b) ≡ true
first-unknown t a b h = rw (answer-unknown t a h)

pub second_unknown : (t : List ℕ) (a b : ℕ) → count t + 2 ≤ b → (unknown_answer t a || unknown_answer t b) ≡ true
second_unknown t a b h = go (unknown_answer t a) (answer-unknown t b h)
  where
    go : (c : Bool) {d : Bool} → d ≡ true → (c || d) ≡ true
    go true e = refl
    go false e = e

-- ---- the tests of a call on two answers

own_other : (Q : Problem) (t : List ℕ) (op : Operation) (a b words : ℕ) → (op ≡ JoinOf → ⊥) → own_front Q t op a b words ≡ (short_work 2 words, 8) ∷ []
own_other Q t Union a b words n = refl
own_other Q t Intersection a b words n = refl
own_other Q t Difference a b words n = refl
own_other Q t JoinOf a b words n = absurd (n refl)

-- every test has a number
own_numbered : (Q : Problem) (t : List ℕ) (op : Operation) (a b words : ℕ) → Numbered (pair_front Q t op a b words)
own_numbered Q t Union a b words = tt
own_numbered Q t Intersection a b words = tt
own_numbered Q t Difference a b words = tt
own_numbered Q t JoinOf a b words = tt

module _ (Q : Problem) (t : List ℕ) (op : Operation) (a b words : ℕ) where
  -- 5
  pub pair-unknown : (unknown_answer t a || unknown_answer t b) ≡ true → PairTested Q t op a b words 5
  pair-unknown e = record { says = sym (hit 5 _ e); known = λ z. absurd (omega arith); apart = λ z. absurd (omega arith) }

  module _ (ha : a < count t + 2) (hb : b < count t + 2) where
    front_own : (ts : List (Bool × ℕ)) → own_front Q t op a b words ≡ ts → first_of ts ≡ first_of (pair_front Q t op a b words)
    front_own ts e = ap first_of (sym e) ∙ sym (pass 5 _ (both-known t a b ha hb))

    -- those of a join
    pub pair-join : op ≡ JoinOf → (r : ℕ) → r ≡ first_of (join_front Q t a b words) → PairTested Q t op a b words r
    pair-join l r e = record {
      says = e ∙ front_own _ (ap (λ (o : Operation). own_front Q t o a b words) l);
      known = λ z. (ha, hb);
      apart = λ z _. (passed (overlap Q t a b) 34 _ (sym e ∙ z)).0;
    }

    -- those of the others
    pub pair_other : (op ≡ JoinOf → ⊥) → (r : ℕ) → r ≡ first_of ((short_work 2 words, 8) ∷ []) → PairTested Q t op a b words r
    pair_other n r e = record { says = e ∙ front_own _ (own_other Q t op a b words n); known = λ z. (ha, hb); apart = λ z l. absurd (n l) }

  -- a refusal by them is the call's, and where there is none 10 is left
  module _ {r : ℕ} (p : PairTested Q t op a b words r) (ts : List (Bool × ℕ)) where
    pub pair-refused : (r ≡ 0 → ⊥) → first_of (pair_front Q t op a b words ++ ts) ≡ r
    pair-refused f = front (pair_front Q t op a b words) ts (λ z. f (p.says ∙ z)) ∙ sym p.says

    pub pair_passed : r ≡ 0 → first_of (pair_front Q t op a b words ++ ts) ≡ first_of ts
    pair_passed z = behind (pair_front Q t op a b words) ts (own_numbered Q t op a b words) (sym p.says ∙ z)

-- ---- admitted

module _ {Q : Problem} {t keys index : List ℕ} (g : Usable Q t keys index) where
  pub ready : Operable (take (length Q.packages) keys) t index
  ready = rw g.keyed.are (record { keys = g.apart; sound = g.sound; indexed = g.indexed })

  pub keys_fit : length Q.packages ≤ length keys
  keys_fit = omega (arith, g.keyed.long, g.rows.few)

  pub keys_taken : length (take (length Q.packages) keys) ≡ length Q.packages
  keys_taken = ap length g.keyed.are ∙ length-keys Q

  pub labelled : Labelled Q.packages t
  labelled = record { keys = keys_of Q; sound = g.sound; each = length-keys Q }

  -- two answers that passed the tests of their call can be combined
  pub combinable : {op : Operation} {a b words r : ℕ} → PairTested Q t op a b words r → r ≡ 0 → Combinable op (nodes_of t) a b
  combinable {a = a} {b} p z l = let k = p.known z in apart Q t g.rows g.sound a b k.0 k.1 (p.apart z l)

-- ---- the whole call

-- refused by 1, 2 or 4
pub call-refused : {Q : Problem} {m : ℕ} {t keys index : List ℕ} {k : ℕ} {r : Report} (c : Call) (words : ℕ)
    → Admitted Q m t keys index k → (k ≡ 0 → ⊥) → Declined k t r t → AnswerPost Q m t c words r t
unfolding call_refusal
call-refused {k = k} c words o f d = refused-makes k (admit-refused _ o f) f d

-- otherwise its own tests and its work make the call's contract
pub call-makes : {Q : Problem} {m : ℕ} {t keys index : List ℕ} {r : Report} {t' : List ℕ} {c : Call} (d : Call) (words : ℕ) → Fit Q m → Usable Q t keys index → c ≡ d
    → Makes (keys_of Q) (first_of (call_tests Q m t d words)) (family_of Q t d) (steps_of Q d words) t r t' → AnswerPost Q m t c words r t'
unfolding call_refusal
call-makes {Q} {m} {t} {r = r} {t'} d words f g e w =
    subst⁻¹ (λ (x : Call). AnswerPost Q m t x words r t') e
    (subst⁻¹ (λ (n : ℕ). Makes (keys_of Q) n (family_of Q t d) (steps_of Q d words) t r t') (table-passes t _ f g.unspoilt) w)

pub same-call : (Q : Problem) (m : ℕ) (t : List ℕ) (words : ℕ) {r : Report} {t' : List ℕ} {c d : Call} → c ≡ d → AnswerPost Q m t d words r t' → AnswerPost Q m t c words r t'
same-call Q m t words {r} {t'} e w = subst⁻¹ (λ (x : Call). AnswerPost Q m t x words r t') e w

-- ---- the calls of one shape

module _ {Q : Problem} {m : ℕ} {t keys index : List ℕ} (f : Fit Q m) (g : Usable Q t keys index) (a b words : ℕ) {r : Report} {t' : List ℕ} where
  pub pair-makes : (op : Operation) → let F : Family = combined op (keys_of Q) (family_at t a) (family_at t b) in
      Makes (keys_of Q) (first_of (pair_front Q t op a b words ++ ((full t F, 10) ∷ []))) F 0 t r t' → AnswerPost Q m t (pair_call op a b) words r t'
  pair-makes Union w = call-makes (Either a b) words f g refl w
  pair-makes Intersection w = call-makes (Both a b) words f g refl w
  pair-makes Difference w = call-makes (Only a b) words f g refl w
  pair-makes JoinOf w = call-makes (Join a b) words f g refl w

  pub part-makes : (holding : Bool) → let F : Family = restricted holding (keys_of Q) b (family_at t a) in
      Makes (keys_of Q) (first_of (part_tests Q.packages t a b F words)) F 0 t r t' → AnswerPost Q m t (part_call holding a b) words r t'
  part-makes true w = call-makes (With a b) words f g refl w
  part-makes false w = call-makes (Without a b) words f g refl w

-- ---- what the inner function gave, and what is reported of it

-- no test holds, and the number of the answer was got
pub answers : {K t t' index' : List ℕ} {n k s : ℕ} {F : Family} {r : Report} → n ≡ 0 → Obtained K t t' index' k F
    → r.outcome ≡ gives k → r.steps ≡ s → r.made ≡ missing (nodes_of t) F → Makes K n F s t r t'
answers {K} {t} {t'} {k = k} z d out steps made = record {
  declined = λ l. absurd (omega (arith, z));
  answered = λ _. record {
    number = k;
    outcome = out;
    known = d.known;
    holds = d.holds;
    steps = steps;
    long = d.grown.long;
    sound = sound_test K t' d.grown.sound;
    old = d.grown.old;
    grown = omega (arith, made, d.made);
    made = made ∙ sym (below-missing K t t' (sound_test K t' d.grown.sound) d.grown.old k d.known ∙ ap (missing (nodes_of t)) d.holds);
  };
}

-- the table still has its word 0, and has lost no node
pub makes_words : (K t t' index' : List ℕ) (F : Family) (k : Option ℕ) → Returned K t t' index' k F → 0 < length t → 0 < length t'
makes_words K t t' index' F (Some k) f h = omega (arith, (f.1.done f.0).grown.long)
makes_words K t t' index' F None f h = omega (arith, ap length (f.same refl))

pub makes-more : (K t t' index' : List ℕ) (F : Family) (k : Option ℕ) → Returned K t t' index' k F → count t ≤ count t'
makes-more K t t' index' F (Some k) f = omega (arith, (f.1.done f.0).made)
makes-more K t t' index' F None f = omega (arith, ap count (f.same refl))

-- none of the other refusals applies: what the operation answers, reported, makes the call's contract
pub reported_makes : (K t t' index' : List ℕ) (F : Family) (r : Report) (k : Option ℕ) → Returned K t t' index' k F → Reported t' (count t) k r
    → {n : ℕ} → n ≡ first_of ((full t F, 10) ∷ []) → Makes K n F 0 t r t'
unfolding full
reported_makes K t t' index' F r (Some k) f w e =
    let d = f.1.done f.0 in
    answers (e ∙ pass 10 [] (f.1.room f.0) ∙ none) d w.0 w.1 (omega (arith, w.2, d.made))
reported_makes K t t' index' F r None f w e =
    let n : first_of ((full t F, 10) ∷ []) ≡ 10 = hit 10 [] (f.full refl) in
    let d : Declined 10 t r t = rw (f.same refl) at w in
    rw (f.same refl) (refused-makes 10 (e ∙ n) (λ z. omega arith) d)
