-- How the results of functions that make families go together: a node, the two parts of a family and then its node. Assumes nothing.
use mathlib.Core.Path.{◌≡◌, refl, sym, ap, subst, subst⁻¹, ◌∙◌}
use mathlib.Core.Bool.{Bool, false}
use mathlib.Core.List.{List}
use Prim.Native.Nat.{ℕ, suc, ◌<◌, ◌≤◌}
use native.Mathlib.Omega.{arith}
use lib.ListN.{length}
use Rattle.zdd.specs.Table.{Node, node, Family, fork, count, capacity, nodes_of, family, key, Sound}
use Rattle.zdd.proofs.Grow.{family-zero}
use Rattle.zdd.proofs.Words.{length-nodes}
use Rattle.zdd.specs.Work.{From, Split, Got}
use Rattle.zdd.proofs.Nowaste.{nowaste_keeps, nowaste_length}
use Rattle.zdd.proofs.Room.{same-capacity}
use Rattle.zdd.proofs.Split.{from_over}
use Rattle.zdd.proofs.Got.{got_eq, got_there, got_idle, got_split, got_known, got_flag, got_made_exactly, got_old}
use Rattle.table.specs.State.{Indexed, May, Made, Unique, Rolled}
use Rattle.std.proofs.Common.{Option, Some, None}
use Rattle.family.specs.Gives.{Gives, Yields, Child, Noded, Answers, Returned}

-- ---- a number that is there

pub gives_there : {K t index : List ℕ} {F : Family} {r : ℕ} → Sound K t → Indexed t index → r < 65536 → Answers (nodes_of t) r F → Gives K t t index r F
gives_there {K} {t} {index} {F} {r} s d l a = record {
  long = refl;
  sound = s;
  indexed = d;
  small = omega arith;
  gained = record { got = λ n. got_eq a.holds (got_there (capacity t) false r s.nodes a.known); full = λ e. absurd (omega arith) };
}

-- ---- find or make

module _ {K t t' index' : List ℕ} {x : Node} {r : ℕ} (m : Made K t t' index' x r) where
  abbrev J : Family
  J = fork x.label (family (nodes_of t) x.hi) (family (nodes_of t) x.lo)

  pub made_gives : 0 < r → Yields K t t' index' (Some r) J
  made_gives p =
      let g : Got K (capacity t) (nodes_of t) false r (nodes_of t') false J = m.gained.got (λ e. omega arith) in
      let b : r < 65536 = omega (arith, g.known, length-nodes t', m.grown.sound.few) in (
        b,
        record {
          long = m.grown.long;
          sound = m.grown.sound;
          indexed = m.indexed;
          small = omega arith;
          gained = record { got = λ n. g; full = λ e. absurd (omega arith) };
        },
      )

  pub made-short : r ≡ 0 → Gives K t t' index' 65536 J
  made-short z = record {
    long = m.grown.long;
    sound = m.grown.sound;
    indexed = m.indexed;
    small = omega arith;
    gained = record { got = λ n. absurd (n refl); full = λ e. m.gained.full z };
  }

-- what make says
pub noded_lo : {t index : List ℕ} (label lo hi : ℕ) → Indexed t index → hi ≡ 0 → Noded t t index label lo hi (Some lo)
noded_lo {t} {index} label lo hi d e K c =
    let l : lo < 65536 = omega (arith, c.lo-known, c.sound.few) in (
      l,
      gives_there c.sound d l (record {
        known = omega (arith, c.lo-known, length-nodes t);
        holds = sym (ap (λ (F : Family). fork label F (family (nodes_of t) lo)) (ap (family (nodes_of t)) e ∙ family-zero (nodes_of t)));
      }),
    )

may : {K t : List ℕ} {label lo hi : ℕ} → Child K t label lo hi → 0 < hi → May K t (node label lo hi)
may c h = record { sound = c.sound; fine = c.fine h }

module _ (t t' index' : List ℕ) (label lo hi : ℕ) where
  pub noded_made : (r : ℕ) → 0 < hi → 0 < r → Unique t t' index' (node label lo hi) r → Noded t t' index' label lo hi (Some r)
  noded_made r h p u K c = made_gives (u K (may c h)) p

  pub noded_none : (r : ℕ) → 0 < hi → r ≡ 0 → Unique t t' index' (node label lo hi) r → Noded t t' index' label lo hi None
  noded_none r h p u K c = made-short (u K (may c h)) p

-- ---- the parts, then the node

given : {K t t' index' : List ℕ} {r : ℕ} {F : Family} → Gives K t t' index' r F → r < 65536 → Got K (capacity t) (nodes_of t) false r (nodes_of t') false F
given g h = g.gained.got (λ e. omega arith)

pub gives_answers : {K t t' index' : List ℕ} {r : ℕ} {F : Family} → Gives K t t' index' r F → r < 65536 → Answers (nodes_of t') r F
gives_answers g h = let q = given g h in record { known = q.known; holds = q.holds refl }

pub gives_keeps : {K t t' index' : List ℕ} {r : ℕ} {F : Family} → Gives K t t' index' r F → r < 65536 → (k : ℕ) → k < suc (suc (length (nodes_of t)))
    → family (nodes_of t') k ≡ family (nodes_of t) k
gives_keeps g h = nowaste_keeps (given g h).work.nowaste

pub gives_more : {K t t' index' : List ℕ} {r : ℕ} {F : Family} → Gives K t t' index' r F → r < 65536 → length (nodes_of t) ≤ length (nodes_of t')
gives_more g h = omega (arith, nowaste_length (given g h).work.nowaste)

pub gives_eq : {K t t' index' : List ℕ} {r : ℕ} {F G : Family} → F ≡ G → Gives K t t' index' r F → Gives K t t' index' r G
gives_eq {K} {t} {t'} {index'} {r} e g = subst (λ (H : Family). Gives K t t' index' r H) e g

-- the room is the same
move : (t u u' : List ℕ) {K : List ℕ} {b b' : Bool} {k : ℕ} {F : Family} → length u ≡ length t
    → Got K (capacity u) (nodes_of u) b k (nodes_of u') b' F → Got K (capacity t) (nodes_of u) b k (nodes_of u') b' F
move t u u' {K} {b} {b'} {k} {F} e g = subst (λ (c : ℕ). Got K c (nodes_of u) b k (nodes_of u') b' F) (same-capacity u t e) g

module _ {K t : List ℕ} {R R1 R0 : Family} {p : ℕ} (s : Split K R p R1 R0) {t1 index1 : List ℕ} {h : ℕ} (g1 : Gives K t t1 index1 h R1) where
  -- no room for the first part
  pub step-none-hi : h ≡ 65536 → Gives K t t1 index1 65536 R
  step-none-hi e = record {
    long = g1.long;
    sound = g1.sound;
    indexed = g1.indexed;
    small = omega arith;
    gained = record {
      got = λ z. absurd (z refl);
      full = λ z.
          let n = g1.sound.nodes in
          got_split {h = 0} {l = 0} s (g1.gained.full e) (got_idle (capacity t) 0 R0 n (omega arith)) (got_idle (capacity t) 0 _ n (omega arith));
    };
  }

  module _ (w1 : h < 65536) {t0 index0 : List ℕ} {l : ℕ} (g0 : Gives K t1 t0 index0 l R0) where
    long0 : length t0 ≡ length t
    long0 = g0.long ∙ g1.long

    -- no room for the second
    pub step-none-lo : l ≡ 65536 → Gives K t t0 index0 65536 R
    step-none-lo e = record {
      long = long0;
      sound = g0.sound;
      indexed = g0.indexed;
      small = omega arith;
      gained = record {
        got = λ z. absurd (z refl);
        full = λ z. got_split {h = h} {l = 0} s (given g1 w1) (move t t1 t0 g1.long (g0.gained.full e)) (got_idle (capacity t) 0 _ g0.sound.nodes (omega arith));
      };
    }

    -- the node may be made
    pub step_child : p < length K → l < 65536 → Child K t0 p l h
    step_child k w0 =
        let a0 = given g0 w0 in
        let a1 = given g1 w1 in
        record {
          sound = g0.sound;
          lo-known = omega (arith, a0.known, length-nodes t0);
          fine = λ z. record {
            label-known = k;
            lo-below = omega (arith, a0.known, length-nodes t0);
            hi-below = omega (arith, a1.known, length-nodes t0, gives_more g0 w0);
            hi-some = z;
            lo_after = from_over g0.sound.nodes l a0.known (suc (key K p)) (subst⁻¹ (λ (F : Family). From K (suc (key K p)) F) (a0.holds refl) s.lo_from);
            hi_after =
                from_over g0.sound.nodes h (omega (arith, a1.known, gives_more g0 w0)) (suc (key K p))
                (subst⁻¹ (λ (F : Family). From K (suc (key K p)) F) (gives_keeps g0 w0 h a1.known ∙ a1.holds refl) s.hi_from);
          };
        }

    -- and then it is the whole
    step-whole : {t' index' : List ℕ} {r : ℕ} → l < 65536 → Gives K t0 t' index' r (fork p (family (nodes_of t0) h) (family (nodes_of t0) l)) → Gives K t t' index' r R
    step-whole {t'} {index'} {r} w0 g = record {
      long = g.long ∙ long0;
      sound = g.sound;
      indexed = g.indexed;
      small = g.small;
      gained = record {
        got = λ z. got_split {h = h} {l = l} s (given g1 w1) (move t t1 t0 g1.long (given g0 w0)) (move t t0 t' long0 (g.gained.got z));
        full = λ z. got_split {h = h} {l = l} s (given g1 w1) (move t t1 t0 g1.long (given g0 w0)) (move t t0 t' long0 (g.gained.full z));
      };
    }

    pub step-node : (t' index' : List ℕ) (r : Option ℕ) → p < length K → l < 65536 → Noded t0 t' index' p l h r → Yields K t t' index' r R
    step-node t' index' (Some r) k w0 n = let g = n K (step_child k w0) in (g.0, step-whole w0 g.1)
    step-node t' index' None k w0 n = step-whole w0 (n K (step_child k w0))

-- ---- a call: what was made is taken back where there was no room

module _ {K t t' index' : List ℕ} {F : Family} where
  pub produced_done : {r : ℕ} → Yields K t t' index' (Some r) F → Returned K t t' index' (Some r) F
  produced_done {r} (l, g) = (
    l,
    record {
      small = g.small;
      full = λ e. absurd (omega arith);
      same = λ e. absurd (omega arith);
      room = λ h. got_flag t g.sound g.long (given g h);
      done = λ h.
          let q = given g h in
          record {
            grown = record { long = g.long; sound = g.sound; old = got_old t g.sound g.long q };
            indexed = g.indexed;
            known = got_known t g.sound g.long q;
            holds = q.holds refl;
            made = got_made_exactly t g.sound g.long q refl;
          };
    },
  )

  pub produced_full : {n : ℕ} {u index : List ℕ} → Yields K t t' index' None F → Sound K t → n ≡ count t → Rolled t' n u → Returned K t u index None F
  produced_full {n} {u} g s c back = record {
    small = omega arith;
    full = λ z. got_flag t g.sound g.long (g.gained.full refl);
    same = λ z. back K t s (record { long = g.long; sound = g.sound; old = got_old t g.sound g.long (g.gained.full refl) }) c;
    room = λ h. absurd (omega arith);
    done = λ h. absurd (omega arith);
  }
