-- The words that the triples leave in an array of zeros. THEOREM: where every triple past the 65534 that a table has room for is all 0, they are,
-- behind word 0, the triples' words and zeros; where one is not, word 0 is spoilt. Assumes nothing.
use mathlib.Core.Path.{◌≡◌, refl, sym, ap, ◌∙◌, subst}
use mathlib.Core.Bool.{Bool, true, false, cond, ◌&&◌}
use mathlib.Core.List.{List, [], ◌∷◌}
use mathlib.Core.Logic.{◌⊎◌, inl, inr}
use Prim.Native.Nat.{ℕ, zero, suc, ◌+◌, ◌-◌, ◌*◌, ◌/◌, ◌≤◌, ◌<◌}
use native.Mathlib.Nat.{eq-or-lt_of_le}
use native.Mathlib.Numerals.{add-one}
use native.Mathlib.Omega.{arith}
use borrow.Author.Tests.{ltb-true, ltb-false, eqb-true}
use lib.Dec.{eqb, ltb}
use lib.ListN.{length, get_or, set, length-set, get_or-eq_default}
use lib.Seq.{get_or-set_same, get_or-set_other}
use Rattle.base.proofs.Bools.{never, and_left, and_right}
use Rattle.statement.specs.Kiosk.{words_of}
use Rattle.kiosk.specs.declared.Node.{Node}
use Rattle.kiosk.specs.Triples.{nodes_in}
use Rattle.kiosk.specs.Flat.{none, blankb, spoilt, spoil, words3, store, set3, put3, filled}

-- ---- one triple more, as the code counts

pub filled_next : (t : List ℕ) (ns : List Node) (k : ℕ) → put3 (filled t ns k) k (get_or ns k none) ≡ filled t ns (k + 1)
unfolding filled
filled_next t ns k = ap (filled t ns) (sym (add-one k))

pub filled_none : (t : List ℕ) (ns : List Node) → t ≡ filled t ns 0
unfolding filled
filled_none t ns = refl

-- ---- the three words of a triple

-- the triple x stands in l from word a on
pub record TripleAt (l : List ℕ) (a : ℕ) (x : Node) : Type 0 where
  pub label : get_or l a 0 ≡ x.label
  pub lo : get_or l (a + 1) 0 ≡ x.lo
  pub hi : get_or l (a + 2) 0 ≡ x.hi

-- so does each triple of a list in its words, and a triple of zeros past its end
pub triple_at : (ns : List Node) (i a : ℕ) → a ≡ 3 * i → TripleAt (words_of (nodes_in ns)) a (get_or ns i none)
unfolding words_of
triple_at [] i a e = record { label = refl; lo = refl; hi = refl }
triple_at (x ∷ ns) zero a e = record { label = at a 0 (omega arith); lo = at (a + 1) 1 (omega arith); hi = at (a + 2) 2 (omega arith) }
  where
    at : (b k : ℕ) → b ≡ k → get_or (words_of (nodes_in (x ∷ ns))) b 0 ≡ get_or (words_of (nodes_in (x ∷ ns))) k 0
    at b k q = ap (λ (j : ℕ). get_or (words_of (nodes_in (x ∷ ns))) j 0) q
triple_at (x ∷ ns) (suc i) a e =
    let r = triple_at ns i (3 * i) refl in
    record { label = at a (3 * i) (omega arith) ∙ r.label; lo = at (a + 1) (3 * i + 1) (omega arith) ∙ r.lo; hi = at (a + 2) (3 * i + 2) (omega arith) ∙ r.hi }
  where
    at : (b k : ℕ) → b ≡ suc (suc (suc k)) → get_or (words_of (nodes_in (x ∷ ns))) b 0 ≡ get_or (words_of (nodes_in ns)) k 0
    at b k q = ap (λ (j : ℕ). get_or (words_of (nodes_in (x ∷ ns))) j 0) q

blank_none : (x : Node) → blankb x ≡ true → x ≡ none
blank_none x e =
    let a = eqb x.label 0 in
    let b = eqb x.lo 0 in
    let c = eqb x.hi 0 in
    let p = eqb-true x.label 0 (and_left a (b && c) e) in
    let q = eqb-true x.lo 0 (and_left b c (and_right a (b && c) e)) in
    let r = eqb-true x.hi 0 (and_right b c (and_right a (b && c) e)) in
    λ i. record { label = p i; lo = q i; hi = r i }

none-blank : (x : Node) → blankb x ≡ false → x ≡ none → ⊥
none-blank x e q = never (ap blankb q) e

-- ---- the words once k triples are dealt with

-- word 0: it is 0, and the triples past the table's room are all 0; or it is spoilt, and one is not
pub record Clear (ns : List Node) (k : ℕ) (s : List ℕ) : Type 0 where
  pub word : get_or s 0 0 ≡ 0
  pub each : (i : ℕ) → 65534 ≤ i → i < k → get_or ns i none ≡ none

pub record Spoilt (ns : List Node) (k : ℕ) (s : List ℕ) : Type 0 where
  pub word : get_or s 0 0 ≡ spoilt
  pub at : ℕ
  pub past : 65534 ≤ at
  pub below : at < k
  pub some : get_or ns at none ≡ none → ⊥

pub record Dealt (t : List ℕ) (ns : List Node) (k : ℕ) (s : List ℕ) : Type 0 where
  pub long : length s ≡ length t
  pub put : (i : ℕ) → i < k → i < 65534 → TripleAt s (3 * i + 1) (get_or ns i none)
  pub rest : (j : ℕ) → 3 * k < j → get_or s j 0 ≡ get_or t j 0
  pub first : Clear ns k s ⊎ Spoilt ns k s

-- a store of three words: those words, and every other
module _ (s : List ℕ) (a : ℕ) (w : ℕ × ℕ × ℕ) where
  abbrev s1 : List ℕ
  s1 = set s a w.0

  abbrev s2 : List ℕ
  s2 = set s1 (a + 1) w.1

  module _ (h : a + 2 < length s) where
    stored0 : get_or (store s a w) a 0 ≡ w.0
    stored0 = get_or-set_other s2 (a + 2) a w.2 0 (λ q. omega arith) ∙ get_or-set_other s1 (a + 1) a w.1 0 (λ q. omega arith) ∙ get_or-set_same s a w.0 0 (omega arith)

    stored1 : get_or (store s a w) (a + 1) 0 ≡ w.1
    stored1 = get_or-set_other s2 (a + 2) (a + 1) w.2 0 (λ q. omega arith) ∙ get_or-set_same s1 (a + 1) w.1 0 (omega (arith, length-set s a w.0))

    stored2 : get_or (store s a w) (a + 2) 0 ≡ w.2
    stored2 = get_or-set_same s2 (a + 2) w.2 0 (omega (arith, length-set s1 (a + 1) w.1, length-set s a w.0))

  beside : (j : ℕ) → (j < a) ⊎ (a + 2 < j) → get_or (store s a w) j 0 ≡ get_or s j 0
  beside j h = get_or-set_other s2 (a + 2) j w.2 0 (apart h 2 (omega arith)) ∙ get_or-set_other s1 (a + 1) j w.1 0 (apart h 1 (omega arith))
      ∙ get_or-set_other s a j w.0 0 (λ q. apart h 0 (omega arith) (omega arith))
    where
      apart : (j < a) ⊎ (a + 2 < j) → (d : ℕ) → d ≤ 2 → j ≡ a + d → ⊥
      apart (inl l) d e q = omega arith
      apart (inr l) d e q = omega arith

  length-store : length (store s a w) ≡ length s
  length-store = length-set s2 (a + 2) w.2 ∙ length-set s1 (a + 1) w.1 ∙ length-set s a w.0

stored : (s : List ℕ) (a : ℕ) (x : Node) → a + 2 < length s → TripleAt (store s a (words3 x)) a x
stored s a x h = record { label = stored0 s a (words3 x) h; lo = stored1 s a (words3 x) h; hi = stored2 s a (words3 x) h }

-- a triple that stands where nothing was stored
moved : {l l' : List ℕ} {a : ℕ} {x : Node} → ((j : ℕ) → a ≤ j → j ≤ a + 2 → get_or l' j 0 ≡ get_or l j 0) → TripleAt l a x → TripleAt l' a x
moved {l} {l'} {a} {x} f r = record { label = f a (omega arith) (omega arith) ∙ r.label; lo = f (a + 1) (omega arith) (omega arith) ∙ r.lo; hi = f (a + 2) (omega arith) (omega arith) ∙ r.hi }

module _ (t : List ℕ) (long : length t ≡ 196603) (blank : (j : ℕ) → get_or t j 0 ≡ 0) (ns : List Node) where
  -- triple k goes into its words
  inside : (k : ℕ) (s : List ℕ) → k < 65534 → Dealt t ns k s → Dealt t ns (suc k) (set3 s k (get_or ns k none))
  inside k s h p = record {
    long = length-store s (3 * k + 1) (words3 x) ∙ p.long;
    put = λ i l m. go i m (eq-or-lt_of_le (omega arith));
    rest = λ j l. beside s (3 * k + 1) (words3 x) j (inr (omega arith)) ∙ p.rest j (omega arith);
    first = head p.first;
  }
    where
      x : Node
      x = get_or ns k none

      go : (i : ℕ) → i < 65534 → (i ≡ k) ⊎ (i < k) → TripleAt (set3 s k (get_or ns k none)) (3 * i + 1) (get_or ns i none)
      go i m (inl e) = subst (λ (n : ℕ). TripleAt (set3 s k (get_or ns k none)) (3 * n + 1) (get_or ns n none)) (sym e) (stored s (3 * k + 1) (get_or ns k none) (omega (arith, p.long)))
      go i m (inr l) = moved (λ j a b. beside s (3 * k + 1) (words3 (get_or ns k none)) j (inl (omega arith))) (p.put i l m)

      head : Clear ns k s ⊎ Spoilt ns k s → Clear ns (suc k) (set3 s k (get_or ns k none)) ⊎ Spoilt ns (suc k) (set3 s k (get_or ns k none))
      head (inl c) = inl (record { word = beside s (3 * k + 1) (words3 (get_or ns k none)) 0 (inl (omega arith)) ∙ c.word; each = λ i a b. absurd (omega arith) })
      head (inr c) = absurd (omega (arith, c.past, c.below))

  -- triple k has no words, and is all 0
  over : (k : ℕ) (s : List ℕ) → 65534 ≤ k → get_or ns k none ≡ none → Dealt t ns k s → Dealt t ns (suc k) s
  over k s h e p = record {
    long = p.long;
    put = λ i l m. p.put i (omega arith) m;
    rest = λ j l. p.rest j (omega arith);
    first = head p.first;
  }
    where
      go : Clear ns k s → (i : ℕ) → 65534 ≤ i → (i ≡ k) ⊎ (i < k) → get_or ns i none ≡ none
      go c i a (inl q) = ap (λ (n : ℕ). get_or ns n none) q ∙ e
      go c i a (inr l) = c.each i a l

      head : Clear ns k s ⊎ Spoilt ns k s → Clear ns (suc k) s ⊎ Spoilt ns (suc k) s
      head (inl c) = inl (record { word = c.word; each = λ i a b. go c i a (eq-or-lt_of_le (omega arith)) })
      head (inr c) = inr (record { word = c.word; at = c.at; past = c.past; below = omega (arith, c.below); some = c.some })

  -- or is not
  spoils : (k : ℕ) (s : List ℕ) → 65534 ≤ k → (get_or ns k none ≡ none → ⊥) → Dealt t ns k s → Dealt t ns (suc k) (spoil s)
  spoils k s h f p = record {
    long = length-set s 0 spoilt ∙ p.long;
    put = λ i l m. moved (λ j a b. get_or-set_other s 0 j spoilt 0 (λ q. omega arith)) (p.put i (omega arith) m);
    rest = λ j l. get_or-set_other s 0 j spoilt 0 (λ q. omega arith) ∙ p.rest j (omega arith);
    first = inr (record { word = get_or-set_same s 0 spoilt 0 (omega (arith, p.long)); at = k; past = h; below = omega arith; some = f });
  }

  pub dealt : (k : ℕ) → Dealt t ns k (filled t ns k)
  unfolding filled
  dealt zero = record { long = refl; put = λ i l m. absurd (omega arith); rest = λ j l. refl; first = inl (record { word = blank 0; each = λ i a b. absurd (omega arith) }) }
  dealt (suc k) = go (ltb k 65534) refl (blankb (get_or ns k none)) refl (dealt k)
    where
      go : (x : Bool) → ltb k 65534 ≡ x → (y : Bool) → blankb (get_or ns k none) ≡ y → Dealt t ns k (filled t ns k)
          → Dealt t ns (suc k) (cond x (set3 (filled t ns k) k (get_or ns k none)) (cond y (filled t ns k) (spoil (filled t ns k))))
      go true e y f p = inside k (filled t ns k) (ltb-true k 65534 e) p
      go false e true f p = over k (filled t ns k) (ltb-false k 65534 e) (blank_none (get_or ns k none) f) p
      go false e false f p = spoils k (filled t ns k) (ltb-false k 65534 e) (none-blank (get_or ns k none) f) p

  -- the words of a list whose triples past the room are all 0
  module _ (s : List ℕ) (p : Dealt t ns (length ns) s) (c : Clear ns (length ns) s) where
    past_end_lem : (i : ℕ) → length ns ≤ i → get_or ns i none ≡ none
    past_end_lem i l = get_or-eq_default ns none l

    out : (i a : ℕ) → a ≡ 3 * i + 1 → (length ns ≤ i) ⊎ (65534 ≤ i) → (j : ℕ) → a ≤ j → get_or s j 0 ≡ 0
    out i a e (inl l) j h = p.rest j (omega arith) ∙ blank j
    out i a e (inr l) j h = get_or-eq_default s 0 (omega (arith, p.long))

    pub clear_at : (i : ℕ) → TripleAt s (3 * i + 1) (get_or ns i none)
    clear_at i = go (ltb i (length ns)) refl (ltb i 65534) refl
      where
        zeros : (length ns ≤ i) ⊎ (65534 ≤ i) → get_or ns i none ≡ none → TripleAt s (3 * i + 1) (get_or ns i none)
        zeros h e = subst (λ (x : Node). TripleAt s (3 * i + 1) x) (sym e) (record {
          label = out i (3 * i + 1) refl h (3 * i + 1) (omega arith);
          lo = out i (3 * i + 1) refl h (3 * i + 1 + 1) (omega arith);
          hi = out i (3 * i + 1) refl h (3 * i + 1 + 2) (omega arith);
        })

        go : (x : Bool) → ltb i (length ns) ≡ x → (y : Bool) → ltb i 65534 ≡ y → TripleAt s (3 * i + 1) (get_or ns i none)
        go true e true f = p.put i (ltb-true i (length ns) e) (ltb-true i 65534 f)
        go true e false f = zeros (inr (ltb-false i 65534 f)) (c.each i (ltb-false i 65534 f) (ltb-true i (length ns) e))
        go false e y f = zeros (inl (ltb-false i (length ns) e)) (past_end_lem i (ltb-false i (length ns) e))

    -- word by word
    pub clear-word : (j : ℕ) → get_or s (suc j) 0 ≡ get_or (words_of (nodes_in ns)) j 0
    clear-word j = go (ltb (j - 3 * (j / 3)) 1) refl (ltb (j - 3 * (j / 3)) 2) refl
      where
        x : TripleAt s (3 * (j / 3) + 1) (get_or ns (j / 3) none)
        x = clear_at (j / 3)

        y : TripleAt (words_of (nodes_in ns)) (3 * (j / 3)) (get_or ns (j / 3) none)
        y = triple_at ns (j / 3) (3 * (j / 3)) refl

        at : (a b : ℕ) → suc j ≡ a → b ≡ j → get_or s a 0 ≡ get_or (words_of (nodes_in ns)) b 0 → get_or s (suc j) 0 ≡ get_or (words_of (nodes_in ns)) j 0
        at a b e f q = ap (λ (k : ℕ). get_or s k 0) e ∙ q ∙ ap (λ (k : ℕ). get_or (words_of (nodes_in ns)) k 0) f

        go : (u : Bool) → ltb (j - 3 * (j / 3)) 1 ≡ u → (v : Bool) → ltb (j - 3 * (j / 3)) 2 ≡ v → get_or s (suc j) 0 ≡ get_or (words_of (nodes_in ns)) j 0
        go true e v f = let h = ltb-true (j - 3 * (j / 3)) 1 e in at (3 * (j / 3) + 1) (3 * (j / 3)) (omega (arith, h)) (omega (arith, h)) (x.label ∙ sym y.label)
        go false e true f =
            let h = ltb-false (j - 3 * (j / 3)) 1 e in
            let l = ltb-true (j - 3 * (j / 3)) 2 f in
            at (3 * (j / 3) + 1 + 1) (3 * (j / 3) + 1) (omega (arith, h, l)) (omega (arith, h, l)) (x.lo ∙ sym y.lo)
        go false e false f = let h = ltb-false (j - 3 * (j / 3)) 2 f in at (3 * (j / 3) + 1 + 2) (3 * (j / 3) + 2) (omega (arith, h)) (omega (arith, h)) (x.hi ∙ sym y.hi)
