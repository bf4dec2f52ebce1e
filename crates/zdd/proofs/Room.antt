-- Work that makes nodes for a family F and stops making them where there is no room; and the same over the words of a table.
-- THEOREMS: the growth of word 0 is what was missing; the test of 'full' tells whether F has got its number. Assumes nothing.
use mathlib.Core.Path.{◌≡◌, refl, sym, ap, ◌∙◌, subst, subst⁻¹}
use mathlib.Core.Bool.{Bool, true, false, cond}
use mathlib.Core.List.{List, [], ◌∷◌, ◌++◌}
use Prim.Native.Nat.{ℕ, ◌+◌, ◌-◌, ◌/◌, ◌≤◌, ◌<◌}
use native.Mathlib.Omega.{arith}
use lib.Dec.{leb}
use lib.ListN.{length, get_or}
use borrow.Author.Tests.{lt-ltb, le-ltb}
use Rattle.base.proofs.Bools.{never, is_false}
use Rattle.zdd.specs.Table.{Node, blank, Family, fork, count, capacity, nodes_of, family, Fine, Nodes, Sound}
use Rattle.zdd.proofs.Words.{length-nodes}
use Rattle.zdd.proofs.Tested.{capacity-fits}
use Rattle.zdd.specs.Branches.{missing, no_room}
use Rattle.zdd.specs.Work.{Under, Nowaste, Short, Worked}
use Rattle.zdd.proofs.Under.{under_eq}
use Rattle.zdd.proofs.Nowaste.{nowaste_start, nowaste_under, nowaste_then, nowaste_made, nowaste_length, short_under, short-same, short-made, made_exactly, made_fewer}

-- ---- work with a flag that says that there was no room: b before, b' after; c is the room. Once it is set nothing is made

pub worked_start : (c : ℕ) (ns : List Node) (b : Bool) (F : Family) → Worked c ns b ns b F
worked_start c ns b F = record { nowaste = nowaste_start ns F; idle = λ e. (refl, e); short = λ e f. absurd (never f e) }

pub worked_under : {c : ℕ} {ns ns' : List Node} {b b' : Bool} {F G : Family} → Worked c ns b ns' b' G → Under G F → Worked c ns b ns' b' F
worked_under w u = record {
  nowaste = nowaste_under w.nowaste u;
  idle = w.idle;
  short = λ e f. let s = w.short e f in (short_under s.0 u, s.1);
}

pub worked_then : {c : ℕ} {ns ns' ns'' : List Node} {b b' b'' : Bool} {F : Family}
    → Worked c ns b ns' b' F → Worked c ns' b' ns'' b'' F → Worked c ns b ns'' b'' F
worked_then {c} {ns} {ns'} {ns''} {b} {b'} {b''} {F} w v = record {
  nowaste = nowaste_then w.nowaste v.nowaste;
  idle = λ e. let i = w.idle e in let j = v.idle i.1 in (j.0 ∙ i.0, j.1);
  short = λ e f. go b' refl e f;
}
  where
    go : (d : Bool) → b' ≡ d → b ≡ false → b'' ≡ true → Short ns'' F × (c ≤ length ns'')
    go true q e f =
        let s = w.short e q in
        let i : ns'' ≡ ns' = (v.idle q).0 in
        (short-same i s.0, subst⁻¹ (λ (l : List Node). c ≤ length l) i s.1)
    go false q e f = v.short q f

module _ {K : List ℕ} {ns : List Node} (n : Nodes K ns) (x : Node) (f : Fine K ns (length ns) x) (c : ℕ) where
  -- the node is made
  pub worked_made : Worked c ns false (ns ++ (x ∷ [])) false (fork x.label (family ns x.hi) (family ns x.lo))
  worked_made = record { nowaste = nowaste_made n x f; idle = λ e. absurd (never e refl); short = λ e g. absurd (never g refl) }

  -- the node is not there, and there is no room for it
  pub worked_full : ((i : ℕ) → i < length ns → get_or ns i blank ≡ x → ⊥) → c ≤ length ns
      → Worked c ns false ns true (fork x.label (family ns x.hi) (family ns x.lo))
  worked_full fresh h = record { nowaste = nowaste_start ns _; idle = λ e. absurd (never e refl); short = λ e g. (short-made n x f fresh, h) }

-- the family is another one's
pub worked_eq : {c : ℕ} {ns ns' : List Node} {b b' : Bool} {F G : Family} → F ≡ G → Worked c ns b ns' b' F → Worked c ns b ns' b' G
worked_eq e w = worked_under w (under_eq e)

-- the flag is down after only if it was down before
pub worked_calm : {c : ℕ} {ns ns' : List Node} {b b' : Bool} {F : Family} → Worked c ns b ns' b' F → b' ≡ false → b ≡ false
worked_calm {c} {ns} {ns'} {b} {b'} {F} w e = is_false b (λ q. never (w.idle q).1 e)

-- with the flag up the work is nothing, and so it is work for any family
pub worked_when : {c : ℕ} {ns ns' : List Node} {b b' : Bool} {F G : Family} → (b ≡ false → F ≡ G) → Worked c ns b ns' b' F → Worked c ns b ns' b' G
worked_when {c} {ns} {ns'} {b} {b'} {F} {G} f w = go b refl
  where
    go : (d : Bool) → b ≡ d → Worked c ns b ns' b' G
    go false q = worked_eq (f q) w
    go true q = record {
      nowaste = subst⁻¹ (λ (l : List Node). Nowaste ns l G) (w.idle q).0 (nowaste_start ns G);
      idle = w.idle;
      short = λ e g. absurd (never q e);
    }

-- ---- the room of a table

pub same-capacity : (t u : List ℕ) → length t ≡ length u → capacity t ≡ capacity u
unfolding capacity
same-capacity t u e = ap (λ (n : ℕ). cond (leb ((n - 1) / 3) 65534) ((n - 1) / 3) 65534) e

-- ---- the counts, over words: t before, t' after

module _ (t : List ℕ) {K t' : List ℕ} {F : Family} (s : Sound K t') (long : length t' ≡ length t) (w : Nowaste (nodes_of t) (nodes_of t') F) where
  grown_count : count t' ≡ count t + length w.new
  grown_count = omega (arith, nowaste_length w, length-nodes t, length-nodes t')

  within : count t' ≤ capacity t
  within = subst (λ (c : ℕ). count t' ≤ c) (same-capacity t' t long) (capacity-fits t' s.room s.few)

  -- THEOREM: the answer has a number: the nodes made are exactly the missing ones, and 'full' is not said
  pub count_exactly : (a : ℕ) → a < count t' + 2 → family (nodes_of t') a ≡ F → count t' ≡ count t + missing (nodes_of t) F
  count_exactly a h e = omega (arith, grown_count, made_exactly s.nodes w a (omega (arith, length-nodes t')) e)

  pub full_false : (a : ℕ) → a < count t' + 2 → family (nodes_of t') a ≡ F → no_room t F ≡ false
  full_false a h e = le-ltb (capacity t - count t) (missing (nodes_of t) F) (omega (arith, count_exactly a h e, within))

  pub count_fewer : Short (nodes_of t') F → count t' < count t + missing (nodes_of t) F
  count_fewer p = omega (arith, grown_count, made_fewer s.nodes w p)

  -- THEOREM: there is no room, and the table is short of F: 'full' is said
  pub full_true : Short (nodes_of t') F → capacity t ≤ count t' → no_room t F ≡ true
  full_true p h = lt-ltb (capacity t - count t) (missing (nodes_of t) F) (omega (arith, count_fewer p, grown_count))

-- THEOREM: work that began with its flag down has it up exactly where 'full' is to be said
pub full_exactly : (t : List ℕ) {K t' : List ℕ} {F : Family} {b : Bool} → Sound K t' → length t' ≡ length t → Worked (capacity t) (nodes_of t) false (nodes_of t') b F
    → (b ≡ false → (a : ℕ) × (a < count t' + 2) × (family (nodes_of t') a ≡ F))
    → no_room t F ≡ b
full_exactly t {K} {t'} {F} {b} s long w known = go b refl
  where
    go : (d : Bool) → b ≡ d → no_room t F ≡ b
    go true q =
        let r = w.short refl q in
        full_true t s long w.nowaste r.0 (omega (arith, r.1, length-nodes t')) ∙ sym q
    go false q = let r = known q in full_false t s long w.nowaste r.0 r.1 r.2 ∙ sym q
