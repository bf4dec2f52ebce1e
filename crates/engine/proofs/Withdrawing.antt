-- The withdrawal: the loop over the withdrawn packages, and what the work of `withdraw` makes of the call's contract. Assumes nothing.
use mathlib.Core.Path.{◌≡◌, refl, sym, ap, ap₂, ◌∙◌}
use mathlib.Core.Bool.{Bool, true, false, not, ◌&&◌, ◌||◌}
use mathlib.Core.List.{List, [], ◌∷◌}
use Prim.Native.Nat.{ℕ, suc, ◌+◌, ◌≤◌, ◌<◌}
use native.Mathlib.Numerals.{add-one}
use native.Mathlib.Omega.{arith}
use lib.Dec.{leb}
use lib.ListN.{length, get_or, take, drop, drop_of_length-le}
use lib.Seq.{drop-cons}
use borrow.Author.Tests.{le-leb, lt-leb}
use Rattle.base.proofs.Bools.{or_right}
use Rattle.base.proofs.Lists.{member_nth}
use Rattle.zdd.specs.Table.{count, nodes_of, ◌∈◌}
use Rattle.zdd.specs.Below.{Below}
use Rattle.zdd.proofs.Below.{below-known}
use Rattle.zdd.proofs.Tested.{sound_test}
use Rattle.zdd.proofs.Words.{length-nodes}
use Rattle.exact_cover.specs.Problem.{Problem}
use Rattle.exact_cover.specs.Cover.{keys_of}
use Rattle.exact_cover.specs.Shortened.{shorten, rising}
use Rattle.exact_cover.proofs.Order.{length-keys}
use Rattle.exact_cover.proofs.Shortened.{keys_shorter}
use Rattle.query.specs.Questions.{unknown_package, any_unknown}
use Rattle.statement.specs.Replies.{refused, gives}
use Rattle.statement.specs.Refusals.{withdraw_refusal}
use Rattle.statement.specs.Postconditions.{WithdrawPost}
use Rattle.statement.proofs.Admission.{packages_fit, table-passes}
use Rattle.statement.proofs.Withdrawals.{admits}
use Rattle.statement.proofs.TestLaws.{package_known, package_unknown}
use Rattle.withdraw.specs.Withdrawal.{Within, Withdrawn, Withdraws}
use Rattle.guard.specs.Admitted.{Admitted}
use Rattle.guard.proofs.GuardLaws.{admit-refused}
use Rattle.engine.specs.Withdrawing.{WithdrawTested}

-- ---- 36

-- the first package of the list is at least b, each is known, and each less than the next
unfoldable pub rises_from : List ℕ → ℕ → List ℕ → Bool
unfolding unknown_package
rises_from S b [] = true
rises_from S b (p ∷ s) = leb b p && (not (unknown_package S p) && rises_from S (suc p) s)

abbrev pub refused_list : List ℕ → List ℕ → Bool
refused_list S s = any_unknown S s || not (rising s)

rises_means : (S : List ℕ) (b p : ℕ) (s : List ℕ) → leb b p ≡ true → refused_list S (p ∷ s) ≡ not (rises_from S b (p ∷ s))
unfolding rises_from any_unknown rising
rises_means S b p [] h = one (unknown_package S p) ∙ ap (λ (c : Bool). not (c && (not (unknown_package S p) && true))) (sym h)
  where
    one : (u : Bool) → ((u || false) || false) ≡ not (not u && true)
    one true = refl
    one false = refl
rises_means S b p (q ∷ s) h =
    two (unknown_package S p) (leb (suc p) q) (rises_from S (suc p) (q ∷ s)) (any_unknown S (q ∷ s)) (rising (q ∷ s))
    (λ l. rises_means S (suc p) q s l)
    (λ l. ap (λ (c : Bool). c && (not (unknown_package S q) && rises_from S (suc q) s)) l)
    ∙ ap (λ (c : Bool). not (c && (not (unknown_package S p) && rises_from S (suc p) (q ∷ s)))) (sym h)
  where
    two : (u l r x y : Bool) → (l ≡ true → (x || not y) ≡ not r) → (l ≡ false → r ≡ false) → ((u || x) || not (l && y)) ≡ not (not u && r)
    two true l r x y f g = refl
    two false true r x y f g = f refl
    two false false r x y f g = or_right x true refl ∙ ap not (sym (g refl))

-- of the packages passed each is known and less than the next, and `least` is one more than the last: the rest decides
pub record Rising (S s : List ℕ) (j least : ℕ) : Type 0 where
  pub within : j ≤ length s
  pub same : refused_list S s ≡ not (rises_from S least (drop j s))

pub rising_start : (S s : List ℕ) → Rising S s 0 0
unfolding rises_from any_unknown rising
rising_start S [] = record { within = omega arith; same = refl }
rising_start S (p ∷ s) = record { within = omega arith; same = rises_means S 0 p s (le-leb 0 p (omega arith)) }

module _ {S s : List ℕ} {j least : ℕ} (R : Rising S s j least) where
  pub rising_end : length s ≤ j → refused_list S s ≡ false
  unfolding rises_from
  rising_end h = R.same ∙ ap (λ (l : List ℕ). not (rises_from S least l)) (drop_of_length-le s h)

  module _ (p : ℕ) (l : j < length s) (e : p ≡ get_or s j 0) where
    here : refused_list S s ≡ not (leb least p && (not (unknown_package S p) && rises_from S (suc p) (drop (suc j) s)))
    unfolding rises_from
    here = R.same ∙ ap (λ (u : List ℕ). not (rises_from S least u)) (drop-cons s j 0 l ∙ ap (λ (x : ℕ). x ∷ drop (suc j) s) (sym e))

    pub rising_falls : p < least → refused_list S s ≡ true
    rising_falls h = here ∙ ap (λ (c : Bool). not (c && (not (unknown_package S p) && rises_from S (suc p) (drop (suc j) s)))) (lt-leb least p h)

    module _ (h : least ≤ p) where
      next : refused_list S s ≡ not (not (unknown_package S p) && rises_from S (suc p) (drop (suc j) s))
      next = here ∙ ap (λ (c : Bool). not (c && (not (unknown_package S p) && rises_from S (suc p) (drop (suc j) s)))) (le-leb least p h)

      pub rising-unknown : length S ≤ p → refused_list S s ≡ true
      rising-unknown k = next ∙ ap (λ (c : Bool). not (not c && rises_from S (suc p) (drop (suc j) s))) (package_unknown S p k)

      pub rising-more : p < length S → Rising S s (j + 1) (p + 1)
      rising-more k = record {
        within = omega arith;
        same =
            next ∙ ap (λ (c : Bool). not (not c && rises_from S (suc p) (drop (suc j) s))) (package_known S p k)
            ∙ ap₂ (λ (b i : ℕ). not (rises_from S b (drop i s))) (sym (add-one p)) (sym (add-one j));
      }

-- what the work asks of the lists and of the working words, of n labels
pub record Asks (n : ℕ) (gone answers t : List ℕ) (words : ℕ) : Type 0 where
  pub gone_known : Within gone n
  pub answers_known : Within answers (count t + 2)
  pub enough : count t + 2 ≤ words

-- ---- the call

module _ {Q : Problem} {m : ℕ} {t gone answers : List ℕ} {words : ℕ} where
  -- a refusal leaves table and list alone
  declines : {n : ℕ} → withdraw_refusal Q m t gone answers words ≡ n → (n ≡ 0 → ⊥) → WithdrawPost Q m t gone answers words (refused n) t answers
  declines {n} e f = record {
    declined = λ l. record { reply = ap refused (sym e); table = refl; list = refl };
    done = λ z. absurd (f (sym e ∙ z));
  }

  module _ {keys index : List ℕ} {r : ℕ} (o : Admitted Q m t keys index r) where
    pub withdraw_not_admitted : (r ≡ 0 → ⊥) → WithdrawPost Q m t gone answers words (refused r) t answers
    unfolding withdraw_refusal
    withdraw_not_admitted f = declines (admit-refused _ o f) f

    -- otherwise its own tests decide
    module _ (z : r ≡ 0) {n : ℕ} (p : WithdrawTested Q t gone answers words n) where
      own_tests : withdraw_refusal Q m t gone answers words ≡ n
      unfolding withdraw_refusal
      own_tests = table-passes t _ (o.fit z) (o.usable z).unspoilt ∙ sym p.says

      pub withdraw-declined : (n ≡ 0 → ⊥) → WithdrawPost Q m t gone answers words (refused n) t answers
      withdraw-declined f = declines own_tests f

    module _ (z : r ≡ 0) {n : ℕ} (p : WithdrawTested Q t gone answers words n) (y : n ≡ 0) where
      clear : withdraw_refusal Q m t gone answers words ≡ 0
      clear = own_tests z p ∙ y

      -- what the work asks of the lists and of the working words
      pub withdraw_asks : Asks (length (take (length Q.packages) keys)) gone answers t words
      withdraw_asks =
          let a = admits Q m t gone answers words clear in
          rw ((o.usable z).keyed.are, length-keys Q) (record { gone_known = a.gone_known; answers_known = a.answers_known; enough = a.enough })

      -- and what it makes
      pub withdraw-done : {k : ℕ} {t' answers' : List ℕ} → Withdraws gone (keys_of Q) t answers t' answers' k
          → WithdrawPost Q m t gone answers words (gives k) t' answers'
      withdraw-done {k} {t'} {answers'} W = record {
        declined = λ l. absurd (omega (arith, clear));
        done = λ _. record {
          reply = ap gives w.left;
          long = w.long;
          sound = sound_test (keys_of (shorten Q gone)) t' w.sound;
          listed = w.listed;
          known = λ j h. w.known j (omega (arith, w.listed));
          holds = w.families;
          needed = λ k l. (λ h. let a = w.needed k l h in (a.0, a.1.0, a.1.1), λ a. needs_known k a);
        };
      }
        where
          w : Withdrawn gone (keys_of (shorten Q gone)) t answers t' answers' k
          w = W (keys_of (shorten Q gone)) (keys_shorter Q gone (packages_fit (o.fit z)))

          needs_known : (k : ℕ) → (a : ℕ) × (a ∈ answers') × Below (nodes_of t') a k → k < count t' + 2
          needs_known k a =
              let j = member_nth answers' 0 a.0 a.1 in
              omega (arith, length-nodes t', below-known w.sound.nodes a.2 (omega (arith, length-nodes t', w.known j.0 j.1, j.2)))
