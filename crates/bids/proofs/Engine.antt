-- THEOREM: what the engine can say to an accepted file, of either version [document 02, No. 12]: never 1, 2, 29 or 30, and in the plain order not 34 either. It is
-- over the contracts of the engine's calls alone, as read off the engine; table, operands, costs, step limit, working words and page are any. Assumes nothing.
use mathlib.Core.Path.{◌≡◌, refl, ap, ◌∙◌}
use mathlib.Core.Bool.{true, false}
use mathlib.Core.List.{List, [], ◌∷◌, ◌++◌}
use Prim.Native.Nat.{ℕ, ◌+◌, ◌*◌}
use contract.Lifetimes.{Lfts}
use denote.Triple.Clauses.{AtExit}
use borrow.Fn.Kinds.{Dens, res_t, ended_of}
use lib.Dec.{eqb}
use lib.ListN.{take}
use Rattle.base.specs.Lists.{any}
use Rattle.itemset.specs.Words.{value, sets_of}
use Rattle.exact_cover.specs.Problem.{problem_of, up_to}
use Rattle.statement.specs.declared.Call.{Call}
use Rattle.statement.specs.declared.Call.TheVariants.{Cover, Either, Both, Only, With, Without, Join}
use Rattle.statement.specs.Replies.{Reply, says, says_only, reply_of, cheapest_reply, closest_reply}
use Rattle.statement.proofs.Sayable.{Sayable, call_numbers, never_said, fit_sayable, reordered_sayable}
use Rattle.engine.proofs.check.Kinds as check
use Rattle.engine.proofs.check.Reads as check-reads
use Rattle.engine.proofs.count.Kinds as count
use Rattle.engine.proofs.count.Reads as count-reads
use Rattle.engine.proofs.measure.Kinds as measure
use Rattle.engine.proofs.measure.Reads as measure-reads
use Rattle.engine.proofs.pick.Kinds as pick
use Rattle.engine.proofs.pick.Reads as pick-reads
use Rattle.engine.proofs.place.Kinds as place
use Rattle.engine.proofs.place.Reads as place-reads
use Rattle.engine.proofs.cheapest.Kinds as cheapest
use Rattle.engine.proofs.cheapest.Reads as cheapest-reads
use Rattle.engine.proofs.closest.Kinds as closest
use Rattle.engine.proofs.closest.Reads as closest-reads
use Rattle.engine.proofs.cover.Kinds as cover
use Rattle.engine.proofs.cover.Reads as cover-reads
use Rattle.engine.proofs.either.Kinds as either
use Rattle.engine.proofs.either.Reads as either-reads
use Rattle.engine.proofs.both.Kinds as both
use Rattle.engine.proofs.both.Reads as both-reads
use Rattle.engine.proofs.only.Kinds as only
use Rattle.engine.proofs.only.Reads as only-reads
use Rattle.engine.proofs.with.Kinds as with
use Rattle.engine.proofs.with.Reads as with-reads
use Rattle.engine.proofs.without.Kinds as without
use Rattle.engine.proofs.without.Reads as without-reads
use Rattle.engine.proofs.join.Kinds as join
use Rattle.engine.proofs.join.Reads as join-reads
use Rattle.engine.proofs.answer.Kinds as answer
use Rattle.engine.proofs.answer.Reads as answer-reads
use Rattle.engine.proofs.withdraw.Kinds as withdraw
use Rattle.engine.proofs.withdraw.Reads as withdraw-reads
use Rattle.bids.specs.Contents.{item_count, packages_of, optional_of}
use Rattle.bids.specs.Format.{contents, refusal}
use Rattle.bids.specs.declared.Layout.{Layout}
use Rattle.bids.proofs.Records.{school_count}
use Rattle.bids.proofs.Fit.{accepted_fit}
use Rattle.bids.proofs.Packed.{packed_sets}
use Rattle.bids.proofs.Readings.{Delivered}

-- ---- what is lent

-- of the accepted file b: its items, the words of its packages, and its optional items
pub record LentOf (L : Layout) (b : List ℕ) (m : ℕ) (words : List ℕ) (o : ℕ) : Type 0 where
  pub accepted : refusal L b ≡ 0
  pub items : m ≡ item_count (contents L b)
  pub packages : sets_of words ≡ packages_of (contents L b)
  pub optional : o ≡ optional_of (contents L b)

-- such is what a reader gives: S + T items, and the first three words a package
pub read_lends : {L : Layout} {b : List ℕ} {s t n o : ℕ} {p c : List ℕ} → Delivered L b s t n o p c → LentOf L b (s + t) (take (3 * n) p) o
read_lends {L} {b} g = record {
  accepted = g.accepted;
  items = rw (g.schools, g.slots, school_count L b);
  packages = ap sets_of g.words ∙ packed_sets L b g.accepted;
  optional = g.optional;
}

-- ---- what is said

-- the reply x of a call on M items in a lent order, which can say the numbers ns for itself
pub record Spares {A : Type 0} (ns : List ℕ) (m : ℕ) (order : List ℕ) (x : Reply A) : Type 0 where
  pub never : says (1 ∷ 2 ∷ 29 ∷ 30 ∷ []) x ≡ false
  pub only : says_only (34 ∷ ns) x ≡ true
  -- in the plain order
  pub never_plain : order ≡ up_to m → says (1 ∷ 2 ∷ 29 ∷ 30 ∷ 34 ∷ []) x ≡ false
  pub only-plain : order ≡ up_to m → says_only ns x ≡ true

module _ {L : Layout} {b : List ℕ} {m : ℕ} {words : List ℕ} {o : ℕ} (l : LentOf L b m words o) where
  -- by the contracts of the calls, whoever makes them
  pub in_any_order : (order : List ℕ) → Sayable (problem_of words o order) m (34 ∷ [])
  in_any_order order = rw (l.items, l.packages, l.optional) (reordered_sayable (accepted_fit L b l.accepted) order)

  pub in_plain_order_lem : Sayable (problem_of words o (up_to m)) m []
  in_plain_order_lem = rw (l.items, l.packages, l.optional) (fit_sayable (accepted_fit L b l.accepted))

  -- a call says only the numbers `front` and ns, which are none of those
  spares : {A : Type 0} {order : List ℕ} (ns : List ℕ) (x : Reply A) → ((front : List ℕ) → Sayable (problem_of words o order) m front → says_only (front ++ ns) x ≡ true)
      → any (λ (n : ℕ). any (eqb n) (1 ∷ 2 ∷ 29 ∷ 30 ∷ [])) (34 ∷ ns) ≡ false → any (λ (n : ℕ). any (eqb n) (1 ∷ 2 ∷ 29 ∷ 30 ∷ 34 ∷ [])) ns ≡ false
      → Spares ns m order x
  spares {order = order} ns x f d e = record {
    never = never_said _ (34 ∷ ns) x d (f (34 ∷ []) (in_any_order order));
    only = f (34 ∷ []) (in_any_order order);
    never_plain = λ q. never_said _ ns x e (f [] (rw q in_plain_order_lem));
    only-plain = λ q. f [] (rw q in_plain_order_lem);
  }

call-apart : (c : Call) → (any (λ (n : ℕ). any (eqb n) (1 ∷ 2 ∷ 29 ∷ 30 ∷ [])) (34 ∷ call_numbers c) ≡ false)
    × (any (λ (n : ℕ). any (eqb n) (1 ∷ 2 ∷ 29 ∷ 30 ∷ 34 ∷ [])) (call_numbers c) ≡ false)
unfolding any
call-apart (Cover d limit) = (refl, refl)
call-apart (Either a b) = (refl, refl)
call-apart (Both a b) = (refl, refl)
call-apart (Only a b) = (refl, refl)
call-apart (With a p) = (refl, refl)
call-apart (Without a p) = (refl, refl)
call-apart (Join a b) = (refl, refl)

-- ---- the engine's calls. a has what a call is lent, in its order: M, packages, optional set, order, and then its own; r is what it returns, and `Learnt` what its
-- contract tells

module _ {L : Layout} {b : List ℕ} where
  pub check_spares : (κs : Lfts 3) (a : Dens κs check.ps) (r : (res_t check.r κs).Denot) (e : AtExit (ended_of 3 check.ps check.r) κs) → check-reads.Learnt κs a r e
      → LentOf L b a.0 a.1.0.now (value a.1.1.0) → Spares (4 ∷ []) a.0 a.1.1.1.0.now (reply_of r)
  unfolding any
  check_spares κs a r e p l = spares l _ _ (λ front s. s.check _ _ p) refl refl

  pub count_spares : (κs : Lfts 4) (a : Dens κs count.ps) (r : (res_t count.r κs).Denot) (e : AtExit (ended_of 4 count.ps count.r) κs) → count-reads.Learnt κs a r e
      → LentOf L b a.0 a.1.0.now (value a.1.1.0) → Spares (4 ∷ 5 ∷ 8 ∷ 11 ∷ []) a.0 a.1.1.1.0.now (reply_of r)
  unfolding any
  count_spares κs a r e p l = spares l _ _ (λ front s. s.count _ _ _ _ p) refl refl

  pub measure_spares : (κs : Lfts 4) (a : Dens κs measure.ps) (r : (res_t measure.r κs).Denot) (e : AtExit (ended_of 4 measure.ps measure.r) κs) → measure-reads.Learnt κs a r e
      → LentOf L b a.0 a.1.0.now (value a.1.1.0) → Spares (4 ∷ 5 ∷ 8 ∷ 11 ∷ 12 ∷ []) a.0 a.1.1.1.0.now (reply_of r)
  unfolding any
  measure_spares κs a r e p l = spares l _ _ (λ front s. s.measure _ _ _ _ _ p) refl refl

  pub pick_spares : (κs : Lfts 5) (a : Dens κs pick.ps) (r : (res_t pick.r κs).Denot) (e : AtExit (ended_of 5 pick.ps pick.r) κs) → pick-reads.Learnt κs a r e
      → LentOf L b a.0 a.1.0.now (value a.1.1.0) → Spares (4 ∷ 5 ∷ 8 ∷ 11 ∷ 12 ∷ 15 ∷ []) a.0 a.1.1.1.0.now (reply_of r)
  unfolding any
  pick_spares κs a r e p l = spares l _ _ (λ front s. s.pick _ _ _ _ _ _ _ p) refl refl

  pub place_spares : (κs : Lfts 5) (a : Dens κs place.ps) (r : (res_t place.r κs).Denot) (e : AtExit (ended_of 5 place.ps place.r) κs) → place-reads.Learnt κs a r e
      → LentOf L b a.0 a.1.0.now (value a.1.1.0) → Spares (4 ∷ 5 ∷ 6 ∷ 8 ∷ 11 ∷ 14 ∷ []) a.0 a.1.1.1.0.now (reply_of r)
  unfolding any
  place_spares κs a r e p l = spares l _ _ (λ front s. s.place _ _ _ _ _ p) refl refl

  pub cheapest_spares : (κs : Lfts 6) (a : Dens κs cheapest.ps) (r : (res_t cheapest.r κs).Denot) (e : AtExit (ended_of 6 cheapest.ps cheapest.r) κs) → cheapest-reads.Learnt κs a r e
      → LentOf L b a.0 a.1.0.now (value a.1.1.0) → Spares (3 ∷ 4 ∷ 5 ∷ 8 ∷ 13 ∷ 15 ∷ []) a.0 a.1.1.1.0.now (cheapest_reply r)
  unfolding any
  cheapest_spares κs a r e p l = spares l _ _ (λ front s. s.cheapest _ _ _ _ _ _ _ p) refl refl

  pub closest_spares : (κs : Lfts 6) (a : Dens κs closest.ps) (r : (res_t closest.r κs).Denot) (e : AtExit (ended_of 6 closest.ps closest.r) κs) → closest-reads.Learnt κs a r e
      → LentOf L b a.0 a.1.0.now (value a.1.1.0) → Spares (4 ∷ 5 ∷ 6 ∷ 8 ∷ 13 ∷ 15 ∷ []) a.0 a.1.1.1.0.now (closest_reply r)
  unfolding any
  closest_spares κs a r e p l = spares l _ _ (λ front s. s.closest _ _ _ _ _ _ _ p) refl refl

  pub cover_spares : (κs : Lfts 4) (a : Dens κs cover.ps) (r : (res_t cover.r κs).Denot) (e : AtExit (ended_of 4 cover.ps cover.r) κs) → cover-reads.Learnt κs a r e
      → LentOf L b a.0 a.1.0.now (value a.1.1.0) → Spares (4 ∷ 7 ∷ 8 ∷ 9 ∷ 10 ∷ []) a.0 a.1.1.1.0.now (reply_of r.outcome)
  unfolding any
  cover_spares κs a r e p l = spares l _ _ (λ front s. s.cover _ _ _ _ _ _ p) refl refl

  pub either_spares : (κs : Lfts 4) (a : Dens κs either.ps) (r : (res_t either.r κs).Denot) (e : AtExit (ended_of 4 either.ps either.r) κs) → either-reads.Learnt κs a r e
      → LentOf L b a.0 a.1.0.now (value a.1.1.0) → Spares (4 ∷ 5 ∷ 8 ∷ 10 ∷ []) a.0 a.1.1.1.0.now (reply_of r.outcome)
  unfolding any
  either_spares κs a r e p l = spares l _ _ (λ front s. s.answer _ _ _ _ _ p) refl refl

  pub both_spares : (κs : Lfts 4) (a : Dens κs both.ps) (r : (res_t both.r κs).Denot) (e : AtExit (ended_of 4 both.ps both.r) κs) → both-reads.Learnt κs a r e
      → LentOf L b a.0 a.1.0.now (value a.1.1.0) → Spares (4 ∷ 5 ∷ 8 ∷ 10 ∷ []) a.0 a.1.1.1.0.now (reply_of r.outcome)
  unfolding any
  both_spares κs a r e p l = spares l _ _ (λ front s. s.answer _ _ _ _ _ p) refl refl

  pub only_spares : (κs : Lfts 4) (a : Dens κs only.ps) (r : (res_t only.r κs).Denot) (e : AtExit (ended_of 4 only.ps only.r) κs) → only-reads.Learnt κs a r e
      → LentOf L b a.0 a.1.0.now (value a.1.1.0) → Spares (4 ∷ 5 ∷ 8 ∷ 10 ∷ []) a.0 a.1.1.1.0.now (reply_of r.outcome)
  unfolding any
  only_spares κs a r e p l = spares l _ _ (λ front s. s.answer _ _ _ _ _ p) refl refl

  pub with_spares : (κs : Lfts 4) (a : Dens κs with.ps) (r : (res_t with.r κs).Denot) (e : AtExit (ended_of 4 with.ps with.r) κs) → with-reads.Learnt κs a r e
      → LentOf L b a.0 a.1.0.now (value a.1.1.0) → Spares (4 ∷ 5 ∷ 6 ∷ 8 ∷ 10 ∷ []) a.0 a.1.1.1.0.now (reply_of r.outcome)
  unfolding any
  with_spares κs a r e p l = spares l _ _ (λ front s. s.answer _ _ _ _ _ p) refl refl

  pub without_spares : (κs : Lfts 4) (a : Dens κs without.ps) (r : (res_t without.r κs).Denot) (e : AtExit (ended_of 4 without.ps without.r) κs) → without-reads.Learnt κs a r e
      → LentOf L b a.0 a.1.0.now (value a.1.1.0) → Spares (4 ∷ 5 ∷ 6 ∷ 8 ∷ 10 ∷ []) a.0 a.1.1.1.0.now (reply_of r.outcome)
  unfolding any
  without_spares κs a r e p l = spares l _ _ (λ front s. s.answer _ _ _ _ _ p) refl refl

  pub join_spares : (κs : Lfts 4) (a : Dens κs join.ps) (r : (res_t join.r κs).Denot) (e : AtExit (ended_of 4 join.ps join.r) κs) → join-reads.Learnt κs a r e
      → LentOf L b a.0 a.1.0.now (value a.1.1.0) → Spares (4 ∷ 5 ∷ 35 ∷ 8 ∷ 10 ∷ []) a.0 a.1.1.1.0.now (reply_of r.outcome)
  unfolding any
  join_spares κs a r e p l = spares l _ _ (λ front s. s.answer _ _ _ _ _ p) refl refl

  -- the calls that make an answer as one, where the call is lent as data
  pub answer_spares : (κs : Lfts 4) (a : Dens κs answer.ps) (r : (res_t answer.r κs).Denot) (e : AtExit (ended_of 4 answer.ps answer.r) κs) → answer-reads.Learnt κs a r e
      → LentOf L b a.0 a.1.0.now (value a.1.1.0) → Spares (call_numbers a.1.1.1.1.1.0) a.0 a.1.1.1.0.now (reply_of r.outcome)
  answer_spares κs a r e p l = let d = call-apart a.1.1.1.1.1.0 in spares l _ _ (λ front s. s.answer _ _ _ _ _ p) d.0 d.1

  pub withdraw_spares : (κs : Lfts 6) (a : Dens κs withdraw.ps) (r : (res_t withdraw.r κs).Denot) (e : AtExit (ended_of 6 withdraw.ps withdraw.r) κs) → withdraw-reads.Learnt κs a r e
      → LentOf L b a.0 a.1.0.now (value a.1.1.0) → Spares (4 ∷ 5 ∷ 36 ∷ 8 ∷ []) a.0 a.1.1.1.0.now (reply_of r)
  unfolding any
  withdraw_spares κs a r e p l = spares l _ _ (λ front s. s.withdraw _ _ _ _ _ _ _ p) refl refl
