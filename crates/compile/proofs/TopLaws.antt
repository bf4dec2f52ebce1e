-- The laws of the whole: packages are permuted and indexed, the memo is cleared, search's contract in positions gives that of the item sets, and that gives
-- cover's. Assumes nothing.
use mathlib.Core.Path.{◌≡◌, refl, sym, ap, ap₂, ◌∙◌, subst}
use mathlib.Core.Bool.{Bool, true, false}
use mathlib.Core.List.{List, map}
use Prim.Native.Nat.{ℕ, ◌+◌, ◌-◌, ◌*◌, ◌%◌, ◌^◌, ◌<◌, ◌≤◌}
use native.Mathlib.Nat.{mod-lt}
use native.Mathlib.Decide.{ℕ_discrete}
use native.Mathlib.Omega.{arith}
use lib.Dec.{ltb}
use lib.ListN.{length, get_or, set, take, length-set, replicate, length-replicate}
use lib.Seq.{get_or-set_same, get_or-set_other}
use borrow.Author.Tests.{lt-ltb, le-ltb}
use Rattle.memo.specs.Memo.{Cleared}
use Rattle.base.proofs.Bools.{never}
use Rattle.base.proofs.Wiping.{zeros}
use Rattle.zdd.specs.Table.{count, capacity, nodes_of}
use Rattle.zdd.specs.Work.{Got}
use Rattle.zdd.proofs.Got.{got_eq, got_known, got_flag, got_made_exactly}
use Rattle.exact_cover.specs.Problem.{Problem, row, span, lead, Rows}
use Rattle.itemset.specs.Words.{sets_of}
use Rattle.exact_cover.specs.Cover.{covering}
use Rattle.exact_cover.specs.Positions.{positions, in_plain_order, permuted, plainb, Inverse, Located, Carried}
use Rattle.exact_cover.proofs.Permuted.{keys-permuted, covering-permuted}
use Rattle.exact_cover.proofs.PermutedSteps.{steps-permuted, home_of, home_is, home_carried}
use Rattle.table.specs.State.{Grown}
use Rattle.exact_cover.specs.Steps.{Walk, search, steps}
use Rattle.buckets.specs.Chain.{Index, inserted}
use Rattle.buckets.proofs.ChainLaws as chain
use Rattle.std.proofs.Common.{Option, Some, None}
use Rattle.compile.specs.declared.Run.{Run}
use Rattle.compile.specs.State.{lead_of, Held, Is, Searched, NoPacks, Enlisted, Sought, Ran, Covered}

-- ---- the package index

-- the packages below k are in it, and have the places of the sets in xs
pub record Built (Q : Problem) (xs : List ℕ) (P k : ℕ) (leads homes : List ℕ) : Type 0 where
  pub long : length leads ≡ 706
  pub within : k ≤ length Q.packages
  pub chain : Index (lead_of Q) 1 193 (k + 1) leads
  pub wide : length homes ≡ 512
  pub home : (p : ℕ) → p < k → get_or homes p 0 ≡ get_or xs p 0 % P

pub built_start : (Q : Problem) (xs : List ℕ) (P : ℕ) {leads homes : List ℕ} → NoPacks leads → length homes ≡ 512 → Built Q xs P 0 leads homes
built_start Q xs P {leads} b w = record {
  long = b.long;
  within = omega arith;
  chain = chain.empty (lead_of Q) 1 193 leads (omega arith) (omega (arith, b.long)) b.zero;
  wide = w;
  home = λ p l. absurd (omega arith);
}

pub built_more : {Q : Problem} {xs : List ℕ} {P : ℕ} {leads homes : List ℕ} (k h v : ℕ) → Rows Q → k < length Q.packages → h < 192
    → h ≡ lead Q (row Q k) → v ≡ get_or xs k 0 % P → Built Q xs P k leads homes → Built Q xs P (k + 1) (inserted 193 h (k + 1) leads) (set homes k v)
unfolding lead_of
built_more {Q} {xs} {P} {leads} {homes} k h v r lt m e f b =
    let z : k + 1 - 1 ≡ k = omega arith in
    record {
      long = simp length-set b.long;
      within = omega arith;
      chain = chain.more (lead_of Q) 1 193 (k + 1) h leads (omega arith) (omega (arith, b.long, r.few)) (omega arith)
          (ap (λ (i : ℕ). lead Q (row Q i)) z ∙ sym e) b.chain;
      wide = length-set homes k v ∙ b.wide;
      home = λ p l. at p l (ℕ_discrete p k);
    }
  where
    at : (p : ℕ) → p < k + 1 → Dec (p ≡ k) → get_or (set homes k v) p 0 ≡ get_or xs p 0 % P
    at p l (yes q) = rw q (get_or-set_same homes k v 0 (omega (arith, b.wide, r.few)) ∙ f)
    at p l (no q) = get_or-set_other homes k p v 0 q ∙ b.home p (omega arith)

pub built_all : {Q : Problem} {xs : List ℕ} {P : ℕ} {leads homes : List ℕ} (k : ℕ) → Rows Q → 0 < P → length xs ≡ length Q.packages → length Q.packages ≤ k
    → Built Q xs P k leads homes → Enlisted Q xs P leads homes
built_all {Q} {xs} {P} {leads} {homes} k r pos n le b =
    let z : k ≡ length Q.packages = omega (arith, b.within) in
    record {
      packs = record {
        rows = r;
        long = b.long;
        chain = subst (λ (i : ℕ). Index (lead_of Q) 1 193 (i + 1) leads) z b.chain;
        home = λ p l. let e : get_or homes p 0 ≡ get_or xs p 0 % P = b.home p (omega arith) in omega (arith, mod-lt (get_or xs p 0) pos);
      };
      home = λ p l. b.home p (omega arith);
    }

pub blank : (n : ℕ) → n ≡ 706 → NoPacks (replicate n 0)
blank n e = record { long = length-replicate n 0 ∙ e; zero = zeros n }

-- ---- the memo

module _ {memo memo' : List ℕ} {P : ℕ} (c : Cleared P memo memo') where
  pub cleared_held : (Q : Problem) (t : List ℕ) (b : Bool) → 0 < P → 4 * P ≤ length memo → Held Q P t memo' b
  cleared_held Q t b h m = record {
    some = h;
    long = omega (arith, c.same);
    values = λ j l. omega (arith, c.zero j l);
    right = λ z j l k. absurd (omega (arith, c.none j l));
  }

  -- the walk before the first entry
  abbrev pub first_walk : Walk
  first_walk = record { entered = 0; memo = replicate P 0 }

  pub cleared_is : Is P first_walk 0 memo'
  cleared_is = record {
    entries = refl;
    places = length-replicate P 0;
    keys = λ j l. zeros P j ∙ sym (c.none j l);
  }

-- ---- the search of an item set, by that of its positions

-- the order, its inverse and whether it is plain, as the positions are found by them
pub located : {Q : Problem} {inverse : List ℕ} {plain : Bool} → Rows Q → Inverse Q.order inverse → plain ≡ plainb Q.order → Located Q.order inverse plain
located r v e = record { once = r.ordered; narrow = r.narrow; inverts = v; straight = e }

-- what search is lent is the problem in positions
pub same_problem : (Q : Problem) {xs : List ℕ} {o : ℕ} → xs ≡ map (positions Q.order) Q.packages → o ≡ positions Q.order Q.optional
    → in_plain_order xs o ≡ permuted Q
same_problem Q e f = ap₂ in_plain_order e f

pub lent_problem : (Q : Problem) (packs : List ℕ) {k o : ℕ} → k ≡ length Q.packages → sets_of (take (3 * length Q.packages) packs) ≡ map (positions Q.order) Q.packages
    → o ≡ positions Q.order Q.optional → in_plain_order (sets_of (take (3 * k) packs)) o ≡ permuted Q
lent_problem Q packs e f g = same_problem Q (ap (λ (k : ℕ). sets_of (take (3 * k) packs)) e ∙ f) g

module _ {Q : Problem} (good : Rows Q) (A : ℕ) (small : A < 2 ^ span Q) {inverse : List ℕ} (v : Inverse Q.order inverse) {P : ℕ} (pos : 0 < P) (homes : List ℕ)
    (home : (p : ℕ) → p < length Q.packages → get_or homes p 0 ≡ row Q p % P) (limit : ℕ) {memo₀ memo : List ℕ} (t t' index' memo' : List ℕ)
    (c : Cleared P memo₀ memo) {Q' : Problem} {at B : ℕ} (lent : Q' ≡ permuted Q) (there : at ≡ A % P) (goal : B ≡ positions Q.order A) where
  module _ {a n : ℕ} {full over : Bool} (d₀ : Searched Q' P homes at B limit t memo 0 false t' index' memo' a n full over) where
    d : Searched (permuted Q) P homes (A % P) (positions Q.order A) limit t memo 0 false t' index' memo' a n full over
    d = subst (λ (R : Problem). Searched R P homes (A % P) (positions Q.order A) limit t memo 0 false t' index' memo' a n full over) lent
        (subst (λ (j : ℕ). Searched Q' P homes j (positions Q.order A) limit t memo 0 false t' index' memo' a n full over) there
        (subst (λ (D : ℕ). Searched Q' P homes at D limit t memo 0 false t' index' memo' a n full over) goal d₀))

    abbrev h : ℕ → ℕ
    h = home_of Q good inverse v P

    carried : Carried (permuted Q) P homes h
    carried = home_carried Q good inverse v P pos homes home

    enters : (search (permuted Q) h (positions Q.order A) (first_walk c)).entered ≡ steps Q P A
    enters = steps-permuted Q good P pos h (home_is Q good inverse v P) A small

    pub sought : Sought Q P A limit t t' index' a n full over
    sought = record {
      grown = subst (λ (K : List ℕ). Grown K t t') (keys-permuted Q good) d.grown;
      indexed = d.indexed;
      got = λ o. got_eq (covering-permuted Q good A small)
          (subst (λ (K : List ℕ). Got K (capacity t) (nodes_of t) false a (nodes_of t') full (covering (permuted Q) (positions Q.order A))) (keys-permuted Q good) (d.got o));
      counted = λ o. sym (d.walk o h carried (home_is Q good inverse v P A small) (first_walk c) (cleared_is c)).entries ∙ enters;
      within = d.within;
      spent = λ o. omega (arith, d.spent o h carried (home_is Q good inverse v P A small) (first_walk c) (cleared_is c), enters);
    }

  pub sought-ran : (x : Option Run) → Ran (Searched Q' P homes at B limit t memo 0 false t' index' memo') x → Ran (Sought Q P A limit t t' index') x
  sought-ran (Some x) y = sought y
  sought-ran None y = sought y

-- ---- what cover answers

module _ {Q : Problem} {P A limit : ℕ} {t t' index' : List ℕ} {a n : ℕ} {full over : Bool} (d : Sought Q P A limit t t' index' a n full over) where
  pub covered-over : (t'' index'' : List ℕ) → over ≡ true → t'' ≡ t → Covered Q P A limit t t'' index'' 0 0 0 false true
  covered-over t'' index'' o z = record {
    spent = sym (lt-ltb limit (steps Q P A) (d.spent o));
    short = λ q. absurd (never refl q);
    back = λ q. z;
    back_full = λ q. z;
    answer = λ q. absurd (never refl q);
  }

  in_time : over ≡ false → false ≡ ltb limit (steps Q P A)
  in_time o = sym (le-ltb limit (steps Q P A) (omega (arith, d.counted o, d.within o)))

  pub covered-full : (t'' index'' : List ℕ) (k : ℕ) → over ≡ false → full ≡ true → t'' ≡ t → Covered Q P A limit t t'' index'' 0 k 0 true false
  covered-full t'' index'' k o f z = record {
    spent = in_time o;
    short = λ q. sym f ∙ sym (got_flag t d.grown.sound d.grown.long (d.got o));
    back = λ q. z;
    back_full = λ q. z;
    answer = λ q y. absurd (never refl y);
  }

  pub covered-answer : (m : ℕ) → over ≡ false → full ≡ false → m ≡ count t' - count t → Covered Q P A limit t t' index' a n m false false
  covered-answer m o f z =
      let g = got_made_exactly t d.grown.sound d.grown.long (d.got o) f in
      record {
        spent = in_time o;
        short = λ q. sym f ∙ sym (got_flag t d.grown.sound d.grown.long (d.got o));
        back = λ q. absurd (never q refl);
        back_full = λ q. absurd (never q refl);
        answer = λ q y. record {
          got = record {
            grown = d.grown;
            indexed = d.indexed;
            known = got_known t d.grown.sound d.grown.long (d.got o);
            holds = (d.got o).holds f;
            made = omega (arith, g);
          };
          counted = d.counted o;
          exactly = omega (arith, g);
        };
      }
