-- THEOREMS: the table that a history leaves consists of the nodes below the answers given; it is as small as can be, and room for that many is enough.
-- Assumes nothing.
use mathlib.Core.Path.{◌≡◌, refl, sym, ◌∙◌, subst, subst⁻¹}
use mathlib.Core.Bool.{true, false}
use mathlib.Core.List.Memᴰ
use mathlib.Core.List.{List}
use Prim.Native.Nat.{ℕ, zero, suc, ◌+◌, ◌-◌, ◌≤◌, ◌<◌}
use native.Mathlib.Decide.{dec_lt}
use native.Mathlib.Omega.{arith}
use lib.ListN.{length}
use borrow.Author.Tests.{le-ltb}
use Rattle.zdd.specs.Table.{Family, count, capacity, nodes_of, families, soundb, ◌∈◌}
use Rattle.zdd.specs.Branches.{branches, missing}
use Rattle.zdd.specs.Below.{Below}
use Rattle.zdd.proofs.Grow.{family-zero, family_one}
use Rattle.zdd.proofs.Words.{length-nodes}
use Rattle.zdd.proofs.Tested.{sound_of}
use Rattle.zdd.proofs.Counting.{branch_below, number_in}
use Rattle.zdd.proofs.Below.{below-known, below_branch, fewest_nodes}
use Rattle.exact_cover.specs.Problem.{Problem}
use Rattle.exact_cover.specs.Cover.{keys_of}
use Rattle.statement.specs.Replies.{Report, Reply, refused, gives}
use Rattle.statement.proofs.Made.{new_exactly, old_below}
use Rattle.query.specs.Questions.{family_at}
use Rattle.statement.specs.Refusals.{full}
use Rattle.statement.specs.Calls.{family_of, steps_of}
use Rattle.statement.specs.Postconditions.{Answered}
use Rattle.history.specs.Histories.{Entry, Step, Calls, give, given, History, start, next, listing, Posting, ledger, NoSpareNode}
use Rattle.history.proofs.Contract.{gives_one, no_refusal, refusal}
use Rattle.history.proofs.Demand.{nodes_sound, given_holds}

-- number k is below one of the answers l
abbrev Serves : List ℕ → List ℕ → ℕ → Type 0
Serves l t k = (a : ℕ) × (a ∈ l) × Below (nodes_of t) a k

-- a call leaves no node that serves none of the answers, its own included, where there was none
serves_next : (Q : Problem) (l t : List ℕ) (c : Entry) (r : Report) (t' : List ℕ) (q : Reply ℕ) → r.outcome ≡ q → Step Q t c r t'
    → ((k : ℕ) → 2 ≤ k → k < count t + 2 → Serves l t k) → (k : ℕ) → 2 ≤ k → k < count t' + 2 → Serves (give q l) t' k
serves_next Q l t c r t' (refused n) e M ih k b h = subst⁻¹ (λ (u : List ℕ). k < count u + 2 → Serves l u k) (refusal M e) (ih k b) h
serves_next Q l t c r t' (gives a) e M ih k b h = go (dec_lt k (count t + 2))
  where
    A : Answered (keys_of Q) (family_of Q t c.call) (steps_of Q c.call c.words) t r t'
    A = M.answered (no_refusal M e)

    go : Dec (k < count t + 2) → Serves (give (gives a) l) t' k
    go (yes o) = let s = ih k b o in (s.0, Memᴰ.tail s.1, old_below A s.2)
    go (no o) = (A.number, Memᴰ.head (gives_one r.outcome A.number a A.outcome e), (new_exactly A k (omega arith)).0 h)

serves : (Q : Problem) {h : Calls} {t : List ℕ} → History Q h t → (k : ℕ) → 2 ≤ k → k < count t + 2 → Serves (given h) t k
serves Q (start zero) = λ k b h. absurd (omega arith)
serves Q (start (suc n)) = λ k b h. absurd (omega arith)
serves Q (next {h} {t} H c r t' o p) = serves_next Q (given h) t c r t' r.outcome refl p (serves Q H)

pub no_spare_node : NoSpareNode
no_spare_node Q h t H k b = (
  λ l. serves Q H k b (omega arith),
  λ s. omega (arith, below-known (nodes_sound Q H) s.2 (omega (arith, (given_holds Q H s.0 s.1).0, length-nodes t)), length-nodes t),
)

-- ---- how large a table the answers given need: u is a sound table that holds each posting's set

module _ (Q : Problem) {h : Calls} {t : List ℕ} (H : History Q h t) (u : List ℕ) (s : soundb (keys_of Q) u ≡ true)
    (holds : (p : Posting) → p ∈ ledger Q h → (b : ℕ) × (b < count u + 2) × (family_at u b ≡ listing Q p.set)) where
  -- the branch families of a number of u have numbers there
  branch_held : (b : ℕ) → b < count u + 2 → (G : Family) → G ∈ branches (family_at u b) → G ∈ families (nodes_of u)
  branch_held b l G m =
      let j = branch_below (sound_of (keys_of Q) u s).nodes b (omega (arith, length-nodes u)) G m in
      Memᴰ.cast j.2 (number_in (nodes_of u) j.0 j.1)

  -- what serves an answer given has a number in u
  served : (k : ℕ) → 2 ≤ k → Serves (given h) t k → family_at t k ∈ families (nodes_of u)
  served k b v =
      let g = given_holds Q H v.0 v.1 in
      let w = holds g.1.0 g.1.1 in
      branch_held w.0 w.1 (family_at t k) (subst (λ (F : Family). family_at t k ∈ branches F) (g.1.2 ∙ sym w.2)
      (below_branch (nodes_sound Q H) v.2 b (omega (arith, g.0, length-nodes t))))

  all_held : (k : ℕ) → k < suc (suc (length (nodes_of t))) → family_at t k ∈ families (nodes_of u)
  all_held zero l = Memᴰ.cast (family-zero (nodes_of t) ∙ sym (family-zero (nodes_of u))) (number_in (nodes_of u) 0 (omega arith))
  all_held (suc zero) l = Memᴰ.cast (family_one (nodes_of t) ∙ sym (family_one (nodes_of u))) (number_in (nodes_of u) 1 (omega arith))
  all_held (suc (suc i)) l = served (suc (suc i)) (omega arith) (serves Q H (suc (suc i)) (omega arith) (omega (arith, length-nodes t)))

  fits : (b : ℕ) → b < count u + 2 → count t + missing (nodes_of t) (family_at u b) ≤ count u
  fits b l = omega (arith, fewest_nodes (nodes_of u) (nodes_sound Q H) all_held (family_at u b) (branch_held b l), length-nodes t, length-nodes u)

  -- THEOREM: the history's table has no more nodes than u: it is as small as can be
  pub least-table : count t ≤ count u
  least-table = omega (arith, fits 0 (omega arith))

  -- THEOREM: where the history's table has room for as many nodes as u has, 'full' is not said to a call whose answer u holds too
  pub room_enough : count u ≤ capacity t → (b : ℕ) → b < count u + 2 → full t (family_at u b) ≡ false
  unfolding full
  room_enough c b l = le-ltb (capacity t - count t) (missing (nodes_of t) (family_at u b)) (omega (arith, fits b l))
