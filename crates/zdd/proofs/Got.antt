-- What a function that makes a family F in a table says of its work, and how such functions go together. ns and b are the nodes and the flag 'there was
-- no room' before it, ns' and b' after it, k the number it gives, c the room. Over words: the clauses 'nodes made' and 'full' of a call's contract.
-- Assumes nothing.
use mathlib.Core.Path.{◌≡◌, refl, sym, ap, ap₂, ◌∙◌, subst}
use mathlib.Core.Bool.{Bool, true, false}
use mathlib.Core.List.{List, [], ◌∷◌, ◌++◌}
use Prim.Native.Nat.{ℕ, suc, ◌+◌, ◌≤◌, ◌<◌}
use native.Mathlib.Omega.{arith}
use lib.ListN.{length, get_or, take, length-append}
use Rattle.base.proofs.Bools.{never}
use Rattle.zdd.specs.Table.{Node, blank, Family, fork, count, capacity, nodes_of, family, Fine, Nodes, Sound}
use Rattle.zdd.proofs.Grow.{family-zero, family_new}
use Rattle.zdd.proofs.Extend.{nodes-append}
use Rattle.zdd.proofs.Words.{length-nodes}
use Rattle.zdd.specs.Branches.{missing, no_room}
use Rattle.zdd.proofs.Nowaste.{nowaste_length, nowaste_keeps, nowaste_old}
use Rattle.zdd.specs.Work.{Split, Worked, Got}
use Rattle.zdd.proofs.Room.{worked_start, worked_under, worked_then, worked_when, worked_eq, worked_calm, worked_made, worked_full, count_exactly, full_exactly}
use Rattle.zdd.proofs.Split.{split_hi, split_lo, worked_split}

pub got_eq : {K : List ℕ} {c k : ℕ} {ns ns' : List Node} {b b' : Bool} {F G : Family} → F ≡ G → Got K c ns b k ns' b' F → Got K c ns b k ns' b' G
got_eq e g = record { sound = g.sound; known = g.known; work = worked_eq e g.work; holds = λ q. g.holds q ∙ e }

-- a number that is there
pub got_there : {K : List ℕ} (c : ℕ) {ns : List Node} (b : Bool) (k : ℕ) → Nodes K ns → k < suc (suc (length ns)) → Got K c ns b k ns b (family ns k)
got_there c {ns} b k n h = record { sound = n; known = h; work = worked_start c ns b (family ns k); holds = λ e. refl }

-- the flag is up: any known number will do
pub got_idle : {K : List ℕ} (c : ℕ) {ns : List Node} (k : ℕ) (F : Family) → Nodes K ns → k < suc (suc (length ns)) → Got K c ns true k ns true F
got_idle c {ns} k F n h = record { sound = n; known = h; work = worked_start c ns true F; holds = λ e. absurd (never refl e) }

-- the node is made, or there is no room for it
module _ {K : List ℕ} (c : ℕ) {ns : List Node} (n : Nodes K ns) (x : Node) (f : Fine K ns (length ns) x) (fresh : (i : ℕ) → i < length ns → get_or ns i blank ≡ x → ⊥) where
  pub got_made : Got K c ns false (suc (suc (length ns))) (ns ++ (x ∷ [])) false (fork x.label (family ns x.hi) (family ns x.lo))
  got_made = record {
    sound = nodes-append K ns x n f fresh;
    known = omega (arith, length-append ns (x ∷ []));
    work = worked_made n x f c;
    holds = λ e. family_new ns x;
  }

  pub got_full : (k : ℕ) → k < suc (suc (length ns)) → c ≤ length ns → Got K c ns false k ns true (fork x.label (family ns x.hi) (family ns x.lo))
  got_full k h r = record { sound = n; known = h; work = worked_full n x f c fresh r; holds = λ e. absurd (never refl e) }

-- the parts, whatever their order, and then the node
got_fork : {K : List ℕ} {c p k : ℕ} {ns n ns' : List Node} {b d b' : Bool} {R R1 R0 G : Family} → Split K R p R1 R0 → Worked c ns b n d R
    → (d ≡ false → G ≡ fork p R1 R0) → Got K c n d k ns' b' G → Got K c ns b k ns' b' R
got_fork s w parts g = record {
  sound = g.sound;
  known = g.known;
  work = worked_split s w (worked_when parts g.work);
  holds = λ e. g.holds e ∙ parts (worked_calm g.work e) ∙ sym s.is;
}

-- hi, then lo, then the node
pub got_split : {K : List ℕ} {c p h l k : ℕ} {ns n1 n0 ns' : List Node} {b b1 b0 b' : Bool} {R R1 R0 : Family} → Split K R p R1 R0
    → Got K c ns b h n1 b1 R1 → Got K c n1 b1 l n0 b0 R0 → Got K c n0 b0 k ns' b' (fork p (family n0 h) (family n0 l)) → Got K c ns b k ns' b' R
got_split {p = p} {h = h} s g1 g0 g =
    got_fork s (worked_then (worked_under g1.work (split_hi s)) (worked_under g0.work (split_lo s)))
    (λ e. ap₂ (fork p) (nowaste_keeps g0.work.nowaste h g1.known ∙ g1.holds (worked_calm g0.work e)) (g0.holds e)) g

-- lo, then hi, then the node
pub got_split_lo : {K : List ℕ} {c p h l k : ℕ} {ns n1 n0 ns' : List Node} {b b1 b0 b' : Bool} {R R1 R0 : Family} → Split K R p R1 R0
    → Got K c ns b l n0 b0 R0 → Got K c n0 b0 h n1 b1 R1 → Got K c n1 b1 k ns' b' (fork p (family n1 h) (family n1 l)) → Got K c ns b k ns' b' R
got_split_lo {p = p} {l = l} s g0 g1 g =
    got_fork s (worked_then (worked_under g0.work (split_lo s)) (worked_under g1.work (split_hi s)))
    (λ e. ap₂ (fork p) (g1.holds e) (nowaste_keeps g1.work.nowaste l g0.known ∙ g0.holds (worked_calm g1.work e))) g

-- the number of hi is 0: no node, and the number is lo's
pub got_none_lo : {K : List ℕ} {c p l : ℕ} {ns n1 n0 : List Node} {b b1 b0 : Bool} {R R1 R0 : Family} → Split K R p R1 R0
    → Got K c ns b l n0 b0 R0 → Got K c n0 b0 0 n1 b1 R1 → Got K c ns b l n1 b1 R
got_none_lo {K} {c} {p} {l} {ns} {n1} {n0} {b} {b1} {b0} s g0 g1 =
    got_split_lo s g0 g1 (got_eq (ap (λ (F : Family). fork p F (family n1 l)) (sym (family-zero n1)))
    (got_there c b1 l g1.sound (omega (arith, g0.known, nowaste_length g1.work.nowaste))))

-- ---- a call's contract: t before, t' after, no flag before

module _ (t : List ℕ) {K t' : List ℕ} {F : Family} {k : ℕ} {b : Bool} (s : Sound K t') (long : length t' ≡ length t) (g : Got K (capacity t) (nodes_of t) false k (nodes_of t') b F) where
  pub got_known : k < count t' + 2
  got_known = omega (arith, g.known, length-nodes t')

  -- THEOREM: the flag is up exactly where 'full' is to be said
  pub got_flag : no_room t F ≡ b
  got_flag = full_exactly t s long g.work (λ e. (k, got_known, g.holds e))

  -- THEOREM: with the flag down the growth of word 0 is exactly what was missing
  pub got_made_exactly : b ≡ false → count t' ≡ count t + missing (nodes_of t) F
  got_made_exactly e = count_exactly t s long g.work.nowaste k got_known (g.holds e)

  pub got_old : take (count t) (nodes_of t') ≡ nodes_of t
  got_old = subst (λ (n : ℕ). take n (nodes_of t') ≡ nodes_of t) (length-nodes t) (nowaste_old g.work.nowaste)
