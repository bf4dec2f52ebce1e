-- The words of a search for the lightest set, and its walk. Assumes nothing.
use mathlib.Core.Path.{◌≡◌, refl, sym, ap, ◌∙◌}
use mathlib.Core.Bool.{Bool, true, false}
use mathlib.Core.List.{List, [], ◌∷◌}
use Prim.Native.Nat.{ℕ, zero, suc, ◌+◌, ◌-◌, ◌*◌, ◌≤◌, ◌<◌, min}
use native.Mathlib.Nat.{not-suc-le-zero}
use native.Mathlib.Decide.{dec_lt}
use native.Mathlib.Omega.{arith}
use lib.ListN.{length, get_or, set, length-set}
use Rattle.zdd.specs.Table.{fork, count}
use Rattle.query.specs.declared.Scale.{Scale}
use Rattle.query.specs.Questions.{family_at}
use Rattle.query.specs.Reading.{label_of, lo_of, hi_of, Readable, Branch, Filled, weight, lightest, Weighable, weight_word, Choice}
use Rattle.query.proofs.Parts.{Parts, parts, some, branch, label-known, at_zero, at_one}
use Rattle.query.proofs.CountWords.{filled_none, filled_more}
use Rattle.query.proofs.Least.{Adds, least_one, least-elem, least_alone, least-hi, least-lo}

pub filled_less : {f : ℕ → ℕ} {m n : ℕ} {w : List ℕ} → Filled f n w → m ≤ n → Filled f m w
filled_less F h = record { room = omega (arith, F.room); each = λ k l. F.each k (omega arith) }

module _ (W : List ℕ) (z : Scale) where
  pub weight-nil : weight W z [] ≡ z.start
  unfolding weight
  weight-nil = refl

  pub weight-cons : (p : ℕ) (s : List ℕ) → weight W z (p ∷ s) ≡ get_or W p 0 + weight W z s - z.bias
  unfolding weight
  weight-cons p s = refl

  module _ (t : List ℕ) where
    pub weight-at : (k : ℕ) → 0 < k → weight_word W z t k ≡ weight W z (lightest W z (family_at t k))
    unfolding weight_word
    weight-at zero h = absurd (not-suc-le-zero h)
    weight-at (suc k) h = refl

    weight-none : weight_word W z t 0 ≡ 4294967296
    unfolding weight_word
    weight-none = refl

    pub at_end : (k : ℕ) → k ≡ 1 → lightest W z (family_at t k) ≡ []
    at_end k e = ap (lightest W z) (ap (family_at t) e ∙ at_one t) ∙ least_one (weight W z)

    weight_end : weight_word W z t 1 ≡ z.start
    weight_end = weight-at 1 (omega arith) ∙ ap (weight W z) (at_end 1 refl) ∙ weight-nil

-- ---- the node k, by the least weights of its children

module _ {W : List ℕ} {z : Scale} {t : List ℕ} (B : Weighable t W z) (k : ℕ) (a : 1 < k) (b : k < count t + 2) where
  abbrev p : ℕ
  p = label_of t k

  P : Parts t k
  P = parts B.table k a b

  adds : Adds (weight W z) p (get_or W p 0) z.bias (family_at t (hi_of t k))
  adds s e = omega (arith, weight-cons W z p s, B.above k a b s e)

  hi-holds : 0 < length (family_at t (hi_of t k))
  hi-holds = some B.table (hi_of t k) P.hi-some (omega (arith, P.hi-below))

  -- what the lightest set weighs that has the label, and that has it not, both with the bias
  abbrev x : ℕ
  x = get_or W p 0 + weight_word W z t (hi_of t k)

  abbrev y : ℕ
  y = weight_word W z t (lo_of t k) + z.bias

  weight-hi : weight W z (p ∷ lightest W z (family_at t (hi_of t k))) + z.bias ≡ x
  weight-hi = omega (arith, adds _ (least-elem (weight W z) (family_at t (hi_of t k)) hi-holds), weight-at W z t (hi_of t k) P.hi-some)

  -- where lo holds no set
  alone : lo_of t k ≡ 0 → lightest W z (family_at t k) ≡ p ∷ lightest W z (family_at t (hi_of t k))
  alone e =
      ap (lightest W z) (P.split ∙ ap (fork p (family_at t (hi_of t k))) (ap (family_at t) e ∙ at_zero t))
      ∙ least_alone (weight W z) p (get_or W p 0) z.bias (family_at t (hi_of t k)) hi-holds adds

  -- and where it holds some
  module _ (e : 0 < lo_of t k) where
    lo-holds : 0 < length (family_at t (lo_of t k))
    lo-holds = some B.table (lo_of t k) e (omega (arith, P.lo-below))

    u : weight_word W z t (hi_of t k) ≡ weight W z (lightest W z (family_at t (hi_of t k)))
    u = weight-at W z t (hi_of t k) P.hi-some

    v : weight_word W z t (lo_of t k) ≡ weight W z (lightest W z (family_at t (lo_of t k)))
    v = weight-at W z t (lo_of t k) e

    chosen : x ≤ y → lightest W z (family_at t k) ≡ p ∷ lightest W z (family_at t (hi_of t k))
    chosen h =
        ap (lightest W z) P.split
        ∙ least-hi (weight W z) p (get_or W p 0) z.bias (family_at t (hi_of t k)) (family_at t (lo_of t k)) hi-holds lo-holds adds (omega (arith, u, v))

    passed : y < x → lightest W z (family_at t k) ≡ lightest W z (family_at t (lo_of t k))
    passed h =
        ap (lightest W z) P.split
        ∙ least-lo (weight W z) p (get_or W p 0) z.bias (family_at t (hi_of t k)) (family_at t (lo_of t k)) hi-holds lo-holds adds (omega (arith, u, v))

  -- what node k's lightest set weighs, by where it is
  by_hi : lightest W z (family_at t k) ≡ p ∷ lightest W z (family_at t (hi_of t k)) → weight_word W z t k + z.bias ≡ x
  by_hi e = omega (arith, weight-at W z t k (omega arith), ap (weight W z) e, weight-hi)

  by_lo : 0 < lo_of t k → lightest W z (family_at t k) ≡ lightest W z (family_at t (lo_of t k)) → weight_word W z t k + z.bias ≡ y
  by_lo l e = omega (arith, weight-at W z t k (omega arith), ap (weight W z) e, weight-at W z t (lo_of t k) l)

  word-hi : weight_word W z t k + z.bias ≤ x
  word-hi = lo (dec_lt 0 (lo_of t k))
    where
      sides : 0 < lo_of t k → Dec (y < x) → weight_word W z t k + z.bias ≤ x
      sides e (yes h) = omega (arith, by_lo e (passed e h))
      sides e (no h) = omega (arith, by_hi (chosen e (omega arith)))

      lo : Dec (0 < lo_of t k) → weight_word W z t k + z.bias ≤ x
      lo (yes e) = sides e (dec_lt y x)
      lo (no e) = omega (arith, by_hi (alone (omega arith)))

-- ---- a least weight is small, so the word of 0 is more than any

module _ {W : List ℕ} {z : Scale} {t : List ℕ} (B : Weighable t W z) (small : (p : ℕ) → get_or W p 0 < 65536) where
  pub bounded : (k : ℕ) → 0 < k → k < count t + 2 → weight_word W z t k ≤ 65535 * k
  bounded k i h = go (suc k) k (omega arith) i h
    where
      go : (m k : ℕ) → k < m → 0 < k → k < count t + 2 → weight_word W z t k ≤ 65535 * k
      go zero k l i h = absurd (not-suc-le-zero l)
      go (suc m) zero l i h = absurd (not-suc-le-zero i)
      go (suc m) (suc zero) l i h = omega (arith, weight_end W z t, B.start_small)
      go (suc m) (suc (suc i)) l _ h =
          let k : ℕ = suc (suc i) in
          let P = parts B.table k (omega arith) h in
          let r : weight_word W z t (hi_of t k) ≤ 65535 * hi_of t k = go m (hi_of t k) (omega (arith, P.hi-below)) P.hi-some (omega (arith, P.hi-below)) in
          omega (arith, word-hi B k (omega arith) h, small (label_of t k), P.hi-below)

  module _ (k : ℕ) (a : 1 < k) (b : k < count t + 2) where
    hi_small : get_or W (label_of t k) 0 + weight_word W z t (hi_of t k) < 4294967296
    hi_small =
        let P = parts B.table k a b in
        omega (arith, small (label_of t k), bounded (hi_of t k) P.hi-some (omega (arith, P.hi-below)), P.hi-below, B.table.sound.few)

    lo_small : weight_word W z t (lo_of t k) ≤ 4294967296
    lo_small = go (dec_lt 0 (lo_of t k))
      where
        go : Dec (0 < lo_of t k) → weight_word W z t (lo_of t k) ≤ 4294967296
        go (yes e) = let P = parts B.table k a b in omega (arith, bounded (lo_of t k) e (omega (arith, P.lo-below)), P.lo-below, B.table.sound.few)
        go (no e) = let n : lo_of t k ≡ 0 = omega arith in omega (arith, ap (weight_word W z t) n, weight-none W z t)

    -- a lighter set of lo's is one
    lo-some : weight_word W z t (lo_of t k) < 4294967296 → 0 < lo_of t k
    lo-some h = go (dec_lt 0 (lo_of t k))
      where
        go : Dec (0 < lo_of t k) → 0 < lo_of t k
        go (yes e) = e
        go (no e) = let n : lo_of t k ≡ 0 = omega arith in absurd (omega (arith, ap (weight_word W z t) n, weight-none W z t))

    takes : x B k a b ≤ y B k a b → lightest W z (family_at t k) ≡ label_of t k ∷ lightest W z (family_at t (hi_of t k))
    takes h = go (dec_lt 0 (lo_of t k))
      where
        go : Dec (0 < lo_of t k) → lightest W z (family_at t k) ≡ label_of t k ∷ lightest W z (family_at t (hi_of t k))
        go (yes e) = chosen B k a b e h
        go (no e) = alone B k a b (omega arith)

    leaves : y B k a b < x B k a b → 0 < lo_of t k
    leaves h = lo-some (omega (arith, hi_small))

    chooses : {r : Bool} → (r ≡ true → x B k a b ≤ y B k a b) → (r ≡ false → y B k a b < x B k a b) → Choice W z t k r
    chooses yes' no' = record {
      by_hi = λ e. takes (yes' e);
      by_lo = λ e. (leaves (no' e), passed B k a b (leaves (no' e)) (no' e));
    }

    word-least : weight_word W z t k + z.bias ≡ min (x B k a b) (y B k a b)
    word-least = go (dec_lt (y B k a b) (x B k a b))
      where
        go : Dec (y B k a b < x B k a b) → weight_word W z t k + z.bias ≡ min (x B k a b) (y B k a b)
        go (yes h) = omega (arith, by_lo B k a b (leaves h) (passed B k a b (leaves h) h))
        go (no h) = omega (arith, by_hi B k a b (takes (omega arith)))

-- ---- as the code reads the words

-- the node k, and the words w of the numbers below it
pub record At (W : List ℕ) (z : Scale) (t : List ℕ) (k : ℕ) (w : List ℕ) : Type 0 where
  pub weighable : Weighable t W z
  pub inside : 1 < k
  pub known : k < count t + 2
  pub filled : Filled (weight_word W z t) k w

-- as the functions ask for it
module _ {W : List ℕ} {z : Scale} {t : List ℕ} {k : ℕ} {w : List ℕ} (B : Weighable t W z) (i : (1 < k) × (k < count t + 2)) (F : Filled (weight_word W z t) k w) where
  N : At W z t k w
  N = record { weighable = B; inside = i.0; known = i.1; filled = F }

  node : Parts t k
  node = parts N.weighable.table k N.inside N.known

  node_branch : Branch t k
  node_branch = branch N.weighable.table k N.inside N.known

  hi-read : get_or w (hi_of t k) 0 ≡ weight_word W z t (hi_of t k)
  hi-read = N.filled.each (hi_of t k) node.hi-below

  lo-read : get_or w (lo_of t k) 0 ≡ weight_word W z t (lo_of t k)
  lo-read = N.filled.each (lo_of t k) node.lo-below

  -- what `weight_hi` and `weight_lo` ask
  module _ (small : (p : ℕ) → get_or W p 0 < 65536) where
    pub hi-ready : Branch t k × (((label_of t k < length W) × (hi_of t k < length w)) × (get_or W (label_of t k) 0 + get_or w (hi_of t k) 0 ≤ 4294967296))
    hi-ready = (
      node_branch,
      (
        (
          omega (arith, label-known N.weighable.table k N.inside N.known, N.weighable.weighed),
          omega (arith, node.hi-below, N.filled.room),
        ),
        omega (arith, hi-read, hi_small N.weighable small k N.inside N.known),
      ),
    )

    pub lo-ready : Branch t k × ((lo_of t k < length w) × ((get_or w (lo_of t k) 0 ≤ 4294967296) × (z.bias ≤ 65535)))
    lo-ready = (
      node_branch,
      (
        omega (arith, node.lo-below, N.filled.room),
        (omega (arith, lo-read, lo_small N.weighable small k N.inside N.known), N.weighable.bias_small),
      ),
    )

    -- and what they give decides
    module _ {x y : ℕ} (ex : x ≡ get_or W (label_of t k) 0 + get_or w (hi_of t k) 0) (ey : y ≡ get_or w (lo_of t k) 0 + z.bias) where
      pub choose : {r : Bool} → (r ≡ true → x ≤ y) → (r ≡ false → y < x) → Choice W z t k r
      choose yes' no' =
          chooses N.weighable small k N.inside N.known (λ e. omega (arith, ex, ey, hi-read, lo-read, yes' e)) (λ e. omega (arith, ex, ey, hi-read, lo-read, no' e))

      pub word_of : {v : ℕ} → v ≡ min x y → weight_word W z t k + z.bias ≡ v
      word_of e = omega (arith, ex, ey, e, hi-read, lo-read, word-least N.weighable small k N.inside N.known)

-- the words of 0 and 1
pub ends-long : (w : List ℕ) (x y : ℕ) → length (set (set w 0 x) 1 y) ≡ length w
ends-long w x y = length-set (set w 0 x) 1 y ∙ length-set w 0 x

pub filled-ends : (W : List ℕ) (z : Scale) (t w : List ℕ) → 1 < length w → Filled (weight_word W z t) 2 (set (set w 0 4294967296) 1 z.start)
filled-ends W z t w l =
    let f = weight_word W z t in
    filled_more f 1 (set w 0 4294967296) z.start (filled_more f 0 w 4294967296 (filled_none f w) (omega arith) (sym (weight-none W z t)))
    (omega (arith, length-set w 0 4294967296)) (sym (weight_end W z t))

-- ---- the walk

-- the walk down from number a: n packages are passed
pub record Way (t : List ℕ) (a node n : ℕ) : Type 0 where
  pub holds : 0 < node
  pub short : n + node ≤ a
  pub known : a < count t + 2

pub way_start : (t : List ℕ) (a : ℕ) → 0 < a → a < count t + 2 → Way t a a 0
way_start t a l h = record { holds = l; short = omega arith; known = h }

module _ {t : List ℕ} (R : Readable t) {a node n : ℕ} (W : Way t a node n) (on : node ≡ 1 → ⊥) where
  inside : 1 < node
  inside = omega (arith, W.holds, on)

  pub mark : Parts t node
  mark = parts R node inside (omega (arith, W.short, W.known))

  pub way_hi_falls : (h : ℕ) → h ≡ hi_of t node → h < node
  way_hi_falls h e = omega (arith, mark.hi-below)

  pub way_lo_falls : (l : ℕ) → l ≡ lo_of t node → l < node
  way_lo_falls l e = omega (arith, mark.lo-below)

  pub way_label : (p : ℕ) → p ≡ label_of t node → p < 65536
  way_label p e = omega (arith, mark.label_small)

  pub way_hi : (h : ℕ) → h ≡ hi_of t node → Way t a h (n + 1)
  way_hi h e = let P = mark in record { holds = omega (arith, P.hi-some); short = omega (arith, P.hi-below, W.short); known = W.known }

  pub way_lo : (l : ℕ) → l ≡ lo_of t node → 0 < lo_of t node → Way t a l n
  way_lo l e z = let P = mark in record { holds = omega arith; short = omega (arith, P.lo-below, W.short); known = W.known }

module _ {W : List ℕ} {z : Scale} {t : List ℕ} {node : ℕ} {r : Bool} (c : Choice W z t node r) where
  pub goes_hi : r ≡ true → (h : ℕ) → h ≡ hi_of t node → lightest W z (family_at t node) ≡ label_of t node ∷ lightest W z (family_at t h)
  goes_hi e h q = c.by_hi e ∙ ap (λ (j : ℕ). label_of t node ∷ lightest W z (family_at t j)) (sym q)

  pub goes_lo : r ≡ false → (l : ℕ) → l ≡ lo_of t node → lightest W z (family_at t node) ≡ lightest W z (family_at t l)
  goes_lo e l q = (c.by_lo e).1 ∙ ap (λ (j : ℕ). lightest W z (family_at t j)) (sym q)
