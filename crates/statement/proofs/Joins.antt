-- THEOREMS about join, from its contract [document 02, No. 5]. A join that answers has as many timetables as the product of its operands' numbers
-- (`join-count`), and each is the union of one of a and one of b in just one way (`join_splits`). The join of (b, a) is refused as that of (a, b) is
-- (`join_refused_alike`), and behind it it is found: the same number, and no node made (`join-turned`). With 1 a join is the other answer, with 0 it is 0, and
-- no node is made (`join_one`, `one_join`, `join-zero`, `zero-join`). An answer from 2 on overlaps itself (`join_self`). Assumes nothing.
use mathlib.Core.Path.{◌≡◌, refl, sym, ap, ap₂, ◌∙◌}
use mathlib.Core.Bool.{Bool, true, false, not, ◌||◌, or_comm}
use mathlib.Core.List.{List, [], ◌∷◌}
use Prim.Native.Nat.{ℕ, ◌+◌, ◌-◌, ◌*◌, ◌≤◌, ◌<◌}
use native.Mathlib.Nat.{max_comm, pos_of_ne-zero}
use native.Mathlib.Omega.{arith}
use lib.ListN.{length, get_or}
use borrow.Author.Tests.{eqb-false, leb-false, lt-leb, not-false}
use Rattle.base.proofs.Bools.{never, or_neither}
use Rattle.itemset.specs.Items.{holds, lowest}
use Rattle.itemset.proofs.Laws.{lowest-holds, without_le}
use Rattle.zdd.specs.Table.{Family, blank, count, nodes_of, elem, soundb, Keys, Sound}
use Rattle.zdd.specs.Operations.{join, Apart}
use Rattle.zdd.specs.Below.{itself, Labels}
use Rattle.zdd.proofs.Grow.{family-zero, family_one}
use Rattle.zdd.proofs.Tested.{sound_of}
use Rattle.zdd.proofs.Words.{length-nodes}
use Rattle.zdd.proofs.Listing.{Listed}
use Rattle.zdd.proofs.TableLaws.{sound_listed}
use Rattle.zdd.proofs.Below.{below-known}
use Rattle.zdd.proofs.Support.{family_labels}
use Rattle.zdd.proofs.Join.{Joined}
use Rattle.zdd.proofs.Join as J
use Rattle.exact_cover.specs.Problem.{Problem, row, compulsory, done, Rows}
use Rattle.exact_cover.specs.Cover.{keys_of}
use Rattle.exact_cover.proofs.Order.{keys-apart, length-keys}
use Rattle.query.specs.Questions.{family_at}
use Rattle.statement.specs.declared.Call.TheVariants.{Join}
use Rattle.statement.specs.Replies.{Report}
use Rattle.statement.specs.Refusals.{first_of, unsound, unknown_answer, overlap, short_work, full, Fit}
use Rattle.statement.specs.Calls.{join_least, call_refusal}
use Rattle.statement.specs.Postconditions.{Answered, JoinPost}
use Rattle.statement.proofs.FirstOf.{pass, hit, passed, exchanged}
use Rattle.statement.proofs.Admission.{fit_of, fit_exchanged, rows, table-passes}
use Rattle.statement.proofs.Kept.{keeps}
use Rattle.statement.proofs.Made.{found_number, found-made}
use Rattle.statement.proofs.Overlaps.{overlap_means, overlap_comm}

-- ---- answers that have a package in common overlap

module _ (Q : Problem) (t : List ℕ) (R : Rows Q) (S : Sound (keys_of Q) t) where
  -- a package on a node has an item
  label-item : {a p : ℕ} → a < count t + 2 → Labels (nodes_of t) a p → (i : ℕ) × (holds i (row Q p) ≡ true)
  unfolding done
  label-item {a} {p} h L =
      let q : 0 < compulsory Q (row Q p) = pos_of_ne-zero (eqb-false (compulsory Q (row Q p)) 0 (R.some p (known L))) in
      (lowest (row Q p), lowest-holds (row Q p) (omega (arith, without_le (row Q p) Q.optional)))
    where
      known : Labels (nodes_of t) a p → p < length Q.packages
      known L =
          let i : L.number - 2 < length (nodes_of t) = omega (arith, below-known S.nodes L.below (omega (arith, length-nodes t)), L.branch) in
          omega (arith, (S.nodes.each (L.number - 2) i).label-known, L.label, length-keys Q)

  -- THEOREM
  pub common_overlaps : (a b p : ℕ) → a < count t + 2 → b < count t + 2 → Labels (nodes_of t) a p → Labels (nodes_of t) b p → overlap Q t a b ≡ true
  common_overlaps a b p ha hb x y =
      let i = label-item ha x in
      (overlap_means Q t S.nodes a b ha hb).1
      (record { one = p; other = p; one_below = x; other_below = y; item = i.0; one_holds = i.1; other_holds = i.1 })

  -- THEOREM
  pub self_overlaps : (a : ℕ) → 2 ≤ a → a < count t + 2 → overlap Q t a a ≡ true
  self_overlaps a l h =
      let L : Labels (nodes_of t) a (get_or (nodes_of t) (a - 2) blank).label = record { number = a; branch = l; below = itself; label = refl } in
      common_overlaps a a _ h h L L

  -- THEOREM: so the timetables of answers that do not overlap have no package in common
  pub apart : (a b : ℕ) → a < count t + 2 → b < count t + 2 → overlap Q t a b ≡ false → Apart (family_at t a) (family_at t b)
  apart a b ha hb e = record {
    clash = λ u v x y p d c.
        never (common_overlaps a b p ha hb
        (family_labels S.nodes a (omega (arith, length-nodes t)) u p x d)
        (family_labels S.nodes b (omega (arith, length-nodes t)) v p y c)) e;
  }

-- ---- refusals

-- THEOREM: an answer from 2 on overlaps itself, whatever the working words
pub join_self : (Q : Problem) (m : ℕ) (t : List ℕ) (a words : ℕ) → Fit Q m → soundb (keys_of Q) t ≡ true → 2 ≤ a → a < count t + 2
    → call_refusal Q m t (Join a a) words ≡ 35
unfolding call_refusal unsound unknown_answer
join_self Q m t a words f s l h =
    let k = lt-leb (count t + 2) a h in
    table-passes t _ f (ap not s) ∙ pass 5 _ (ap₂ ◌||◌ k k) ∙ hit 35 _ (self_overlaps Q t (rows f) (sound_of (keys_of Q) t s) a l h)

-- what a join that answers has passed
pub record Passed (Q : Problem) (m : ℕ) (t : List ℕ) (a b : ℕ) : Type 0 where
  pub fit : Fit Q m
  pub sound : Sound (keys_of Q) t
  pub first : a < count t + 2
  pub second : b < count t + 2
  pub clear : overlap Q t a b ≡ false

module _ (Q : Problem) (m : ℕ) (t : List ℕ) (a b words : ℕ) where
  pub join_passed : call_refusal Q m t (Join a b) words ≡ 0 → Passed Q m t a b
  unfolding call_refusal unsound unknown_answer
  join_passed z =
      let f = fit_of _ z in
      let p = passed _ 3 _ f.1 in
      let q = passed (unknown_answer t a || unknown_answer t b) 4 _ p.1 in
      let o = passed (overlap Q t a b) 34 _ q.1 in
      let n = or_neither (unknown_answer t a) (unknown_answer t b) q.0 in
      record {
        fit = f.0;
        sound = sound_of (keys_of Q) t (not-false (soundb (keys_of Q) t) p.0);
        first = leb-false (count t + 2) a n.0;
        second = leb-false (count t + 2) b n.1;
        clear = o.0;
      }

module _ (Q : Problem) (m : ℕ) (t : List ℕ) (a b : ℕ) where
  -- THEOREM: (b, a) is refused exactly as (a, b) is
  pub join_refused_alike : (words : ℕ) → call_refusal Q m t (Join a b) words ≡ call_refusal Q m t (Join b a) words
  unfolding call_refusal unsound unknown_answer
  join_refused_alike words =
      fit_exchanged _ _ (λ f. exchanged (unsound Q t) 4 _ _ (λ s.
      ap (λ (x : Bool). first_of ((x, 5) ∷ own a b)) (or_comm (unknown_answer t a) (unknown_answer t b))
      ∙ exchanged (unknown_answer t b || unknown_answer t a) 5 (own a b) (own b a) (λ n.
      let k = or_neither (unknown_answer t b) (unknown_answer t a) n in
      rest f (sound_of (keys_of Q) t (not-false (soundb (keys_of Q) t) s)) (leb-false (count t + 2) a k.1) (leb-false (count t + 2) b k.0))))
    where
      -- behind 5
      own : (x y : ℕ) → List (Bool × ℕ)
      own x y = (overlap Q t x y, 35) ∷ (short_work (join_least x y) words, 8) ∷ (full t (join (keys_of Q) (family_at t x) (family_at t y)), 10) ∷ []

      same-least : join_least a b ≡ join_least b a
      same-least = rw (max_comm a b)

      rest : Fit Q m → Sound (keys_of Q) t → a < count t + 2 → b < count t + 2 → first_of (own a b) ≡ first_of (own b a)
      rest f S ha hb =
          ap first_of (ap₂ (λ (x : Bool) (F : Family). (x, 35) ∷ (short_work (join_least a b) words, 8) ∷ (full t F, 10) ∷ [])
          (overlap_comm Q t S.nodes a b ha hb) (J.join_comm (keys_of Q) (keys-apart Q (rows f).few) (family_at t a) (family_at t b))
          ∙ ap (λ (n : ℕ). (overlap Q t b a, 35) ∷ (short_work n words, 8) ∷ (full t (join (keys_of Q) (family_at t b) (family_at t a)), 10) ∷ []) same-least)

-- ---- a join that answers

module _ (Q : Problem) (m : ℕ) (t : List ℕ) (a b words : ℕ) {r : Report} {t' : List ℕ} (P : JoinPost Q m t a b words r t')
    (z : call_refusal Q m t (Join a b) words ≡ 0) where
  abbrev A : Answered (keys_of Q) (join (keys_of Q) (family_at t a) (family_at t b)) 0 t r t'
  A = P.answered z

  T : Passed Q m t a b
  T = join_passed Q m t a b words z

  keys : Keys (keys_of Q)
  keys = keys-apart Q (rows T.fit).few

  listed : (x : ℕ) → x < count t + 2 → Listed (keys_of Q) (family_at t x)
  listed = sound_listed keys T.sound

  families-apart : Apart (family_at t a) (family_at t b)
  families-apart = apart Q t (rows T.fit) T.sound a b T.first T.second T.clear

  -- THEOREM: it has as many timetables as the product
  pub join-count : length (family_at t' A.number) ≡ length (family_at t a) * length (family_at t b)
  join-count = ap length A.holds ∙ J.join-count (keys_of Q) keys (family_at t a) (family_at t b) (listed a T.first) (listed b T.second) families-apart

  -- THEOREM: each is the union of a timetable of a and one of b
  pub join-has : (s : List ℕ) → elem s (family_at t' A.number) ≡ true → Joined (keys_of Q) (family_at t a) (family_at t b) s
  join-has s e = J.join-of (keys_of Q) (family_at t a) (family_at t b) s (ap (elem s) (sym A.holds) ∙ e)

  -- THEOREM: in just one way
  pub join_splits : (s : List ℕ) (x y : Joined (keys_of Q) (family_at t a) (family_at t b) s) → (x.first ≡ y.first) × (x.second ≡ y.second)
  join_splits = J.join_splits (keys_of Q) keys (family_at t a) (family_at t b) families-apart

  -- the table has it, as x
  found : (x : ℕ) → x < count t + 2 → join (keys_of Q) (family_at t a) (family_at t b) ≡ family_at t x → (A.number ≡ x) × (r.made ≡ 0)
  found x h q = (found_number A x h (sym q), found-made A x h (sym q))

  -- THEOREM: with 1 it is the other answer
  pub join_one : b ≡ 1 → (A.number ≡ a) × (r.made ≡ 0)
  join_one e = found a T.first
      (ap (join (keys_of Q) (family_at t a)) (ap (family_at t) e ∙ family_one (nodes_of t)) ∙ J.join_one (keys_of Q) keys (family_at t a) (listed a T.first))

  pub one_join : a ≡ 1 → (A.number ≡ b) × (r.made ≡ 0)
  one_join e = found b T.second
      (ap (λ (F : Family). join (keys_of Q) F (family_at t b)) (ap (family_at t) e ∙ family_one (nodes_of t)) ∙ J.one_join (keys_of Q) keys (family_at t b) (listed b T.second))

  -- THEOREM: with 0 it is 0
  pub join-zero : b ≡ 0 → (A.number ≡ 0) × (r.made ≡ 0)
  join-zero e = found 0 (omega arith)
      (ap (join (keys_of Q) (family_at t a)) (ap (family_at t) e ∙ family-zero (nodes_of t)) ∙ J.join-nil (keys_of Q) keys (family_at t a) ∙ sym (family-zero (nodes_of t)))

  pub zero-join : a ≡ 0 → (A.number ≡ 0) × (r.made ≡ 0)
  zero-join e = found 0 (omega arith)
      (ap (λ (F : Family). join (keys_of Q) F (family_at t b)) (ap (family_at t) e ∙ family-zero (nodes_of t)) ∙ J.nil-join (keys_of Q) keys (family_at t b)
      ∙ sym (family-zero (nodes_of t)))

  -- THEOREM: the join of (b, a) behind it has its number, and no node is made
  pub join-turned : (words₂ : ℕ) {r₂ : Report} {t₂ : List ℕ} (P₂ : JoinPost Q m t' b a words₂ r₂ t₂) (z₂ : call_refusal Q m t' (Join b a) words₂ ≡ 0)
      → ((P₂.answered z₂).number ≡ A.number) × (r₂.made ≡ 0)
  join-turned words₂ P₂ z₂ =
      let q : family_at t' A.number ≡ join (keys_of Q) (family_at t' b) (family_at t' a) =
      A.holds ∙ J.join_comm (keys_of Q) keys (family_at t a) (family_at t b)
      ∙ sym (ap₂ (join (keys_of Q)) (keeps A b T.second) (keeps A a T.first)) in
      (found_number (P₂.answered z₂) A.number A.known q, found-made (P₂.answered z₂) A.number A.known q)
