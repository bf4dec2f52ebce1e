-- The laws of the walk: its entries grow, a loop passes over what is no candidate, and the memo keeps its keys. Assumes nothing.
use mathlib.Core.Path.{◌≡◌, refl, sym, ap, ◌∙◌}
use mathlib.Core.Bool.{Bool, true, false, ◌||◌}
use mathlib.Core.List.{List, [], ◌∷◌}
use Prim.Native.Nat.{ℕ, zero, suc, ◌+◌, ◌<◌, ◌≤◌}
use native.Mathlib.Nat.{le_refl}
use native.Mathlib.Omega.{arith}
use native.Mathlib.Decide.{ℕ_discrete}
use lib.Dec.{eqb}
use lib.ListN.{length, get_or, set, length-set}
use lib.Seq.{get_or-set_same, get_or-set_other}
use borrow.Author.Tests.{eq-eqb, ne_eqb}
use Rattle.itemset.specs.Items.{without}
use Rattle.memo.specs.Memo.{key_at, Stored}
use Rattle.base.proofs.Bools.{by_test, or_left, or_right}
use Rattle.zdd.specs.Table.{filter}
use Rattle.exact_cover.specs.Problem.{Problem, row, done}
use Rattle.exact_cover.specs.Cover.{fits, down, candidates}
use Rattle.exact_cover.specs.Steps.{Walk, enter, store, known, each, search}
use Rattle.exact_cover.proofs.Fuel.{search-known, search_new}
use Rattle.exact_cover.proofs.Walks.{shift, search-shift}
use Rattle.exact_cover.proofs.Loops.{each_take, each_pass}
use Rattle.compile.specs.State.{Is, tried}

search-more : (Q : Problem) (h : ℕ → ℕ) (A : ℕ) (w : Walk) → w.entered ≤ (search Q h A w).entered
search-more Q h A w =
    let z : w.entered ≡ w.entered + 0 = omega arith in
    let w0 : Walk = record { entered = 0; memo = w.memo } in
    let e : search Q h A w ≡ shift w.entered (search Q h A w0) =
    ap (search Q h A) (λ i. record { entered = z i; memo = w.memo }) ∙ search-shift Q h A w.entered w0 in
    omega (arith, ap (λ (v : Walk). v.entered) e)

each_more : (f : ℕ → Walk → Walk) → ((p : ℕ) (v : Walk) → v.entered ≤ (f p v).entered) → (ps : List ℕ) (w : Walk) → w.entered ≤ (each f ps w).entered
unfolding each
each_more f h [] w = le_refl w.entered
each_more f h (p ∷ ps) w = omega (arith, h p w, each_more f h ps (f p w))

-- Search of what p leaves of A
abbrev pub sub : Problem → (ℕ → ℕ) → ℕ → ℕ → Walk → Walk
sub Q h A p = search Q h (without A (row Q p))

module _ (Q : Problem) (h : ℕ → ℕ) (A : ℕ) where
  sub_more : (p : ℕ) (v : Walk) → v.entered ≤ (sub Q h A p v).entered
  sub_more p v = search-more Q h (without A (row Q p)) v

  -- Search counts its own entry
  pub search_enters : (w : Walk) → w.entered < (search Q h A w).entered
  search_enters w =
      by_test (known Q h A w)
      (λ t. omega (arith, ap (λ (v : Walk). v.entered) (search-known Q h A w t)))
      (λ t. omega (arith, ap (λ (v : Walk). v.entered) (search_new Q h A w t), each_more (sub Q h A) sub_more (candidates Q A) (enter w)))

  -- what the packages below n leave to walk
  abbrev pub onward : ℕ → Walk → Walk
  onward n w = each (sub Q h A) (filter (fits Q A) (down n)) w

  pub onward_skip : (d n m : ℕ) (w : Walk) → m ≡ d + n → ((q : ℕ) → n ≤ q → q < m → fits Q A q ≡ false) → onward m w ≡ onward n w
  onward_skip zero n m w e f = let z : m ≡ n = omega arith in ap (λ (k : ℕ). onward k w) z
  onward_skip (suc d) n m w e f =
      onward_skip d (suc n) m w (omega arith) (λ q a b. f q (omega arith) b)
      ∙ each_pass (fits Q A) n (sub Q h A) w (f n (le_refl n) (omega arith))

  pub onward-take : (n : ℕ) (w : Walk) → fits Q A n ≡ true → onward (suc n) w ≡ onward n (sub Q h A n w)
  onward-take n w e = each_take (fits Q A) n (sub Q h A) w e

  pub onward_pass : (n : ℕ) (w : Walk) → fits Q A n ≡ false → onward (suc n) w ≡ onward n w
  onward_pass n w e = each_pass (fits Q A) n (sub Q h A) w e

  pub onward-more : (n : ℕ) (w : Walk) → w.entered ≤ (onward n w).entered
  onward-more n w = each_more (sub Q h A) sub_more (filter (fits Q A) (down n)) w

  pub onward_end : (w : Walk) → onward 0 w ≡ w
  unfolding each filter down
  onward_end w = refl

  pub onward-all : (w : Walk) → tried Q h A w ≡ store h A (onward (length Q.packages) w)
  unfolding candidates
  onward-all w = refl

-- ---- the memo's keys

module _ {P : ℕ} {w : Walk} {n : ℕ} {memo : List ℕ} (s : Is P w n memo) where
  pub is_enter : (m : ℕ) → m ≡ n + 1 → Is P (enter w) m memo
  is_enter m e = record { entries = omega (arith, s.entries); places = s.places; keys = s.keys }

  -- A's place is j
  module _ (Q : Problem) (h : ℕ → ℕ) (A j : ℕ) (e : h A ≡ j) (l : j < P) where
    there : get_or w.memo (h A) 0 ≡ key_at P memo j
    there = ap (λ (i : ℕ). get_or w.memo i 0) e ∙ s.keys j l

    -- the memo's answer to A, as its place says
    pub is_known : key_at P memo j ≡ A → known Q h A w ≡ true
    is_known k = or_right (done Q A) (eqb (get_or w.memo (h A) 0) A) (eq-eqb (get_or w.memo (h A) 0) A (there ∙ k))

    pub is_new : done Q A ≡ false → (key_at P memo j ≡ A → ⊥) → known Q h A w ≡ false
    is_new o f = ap (λ (b : Bool). b || eqb (get_or w.memo (h A) 0) A) o ∙ ne_eqb (get_or w.memo (h A) 0) A (λ k. f (sym there ∙ k))

    pub is_store : (a : ℕ) {memo' : List ℕ} → Stored P memo j A a memo' → Is P (store h A w) n memo'
    is_store a {memo'} d = record {
      entries = s.entries;
      places = length-set w.memo (h A) A ∙ s.places;
      keys = λ i m. ap (λ (k : ℕ). get_or (set w.memo k A) i 0) e ∙ stored i m (ℕ_discrete i j);
    }
      where
        stored : (i : ℕ) → i < P → Dec (i ≡ j) → get_or (set w.memo j A) i 0 ≡ key_at P memo' i
        stored i m (yes q) =
            ap (λ (k : ℕ). get_or (set w.memo j A) k 0) q ∙ get_or-set_same w.memo j A 0 (omega (arith, s.places)) ∙ sym d.key
            ∙ ap (key_at P memo') (sym q)
        stored i m (no f) = get_or-set_other w.memo j i A 0 f ∙ s.keys i m ∙ sym (d.other_key i m f)

pub known-done : (Q : Problem) (h : ℕ → ℕ) (A : ℕ) (w : Walk) → done Q A ≡ true → known Q h A w ≡ true
known-done Q h A w e = or_left (done Q A) (eqb (get_or w.memo (h A) 0) A) e
