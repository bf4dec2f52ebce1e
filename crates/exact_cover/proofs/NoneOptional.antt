-- With no optional item and the plain order, exact covers are what they were. Document 01's definitions stand here as they were before there were optional
-- items, over the list `ps` of the packages' item sets; each is proved to be today's for the problem of these packages with the empty optional set in the
-- order 0 .. m - 1 [document 02, No. 1 and 4]: the definitions before there was an order (`PlainOrder`) are document 01's where nothing is optional. Assumes
-- nothing.
use mathlib.Core.Path.{◌≡◌, refl, sym, ap, ap₂, ◌∙◌}
use mathlib.Core.Bool.{Bool, true, false, not, ◌&&◌, ◌||◌}
use mathlib.Core.Logic.{◌⊎◌, ◌↔◌}
use mathlib.Core.List.{List, [], ◌∷◌}
use Prim.Native.Nat.{ℕ, zero, suc, ◌+◌, ◌*◌, ◌%◌, ◌^◌, ◌<◌}
use lib.Dec.{eqb}
use lib.ListN.{length, get_or, replicate}
use Rattle.itemset.specs.Items.{holds, insideb, without, size, lowest}
use Rattle.itemset.specs.Words.{width}
use Rattle.itemset.proofs.Laws.{ext_all, holds-none, holds-without, lt_pow}
use Rattle.zdd.specs.Table.{Family, filter, sets}
use Rattle.exact_cover.specs.Problem.{Problem, up_to, lead, done, Rows}
use Rattle.exact_cover.specs.Cover.{Before, keys_of, holders, all_inside, takes, once, covers, covering, down}
use Rattle.exact_cover.specs.Steps.{Walk, enter, place_in, store, known, each, steps}
use Rattle.exact_cover.proofs.Lists.{filter_same}
use Rattle.exact_cover.proofs.Covers.{holders-any-order, inside-any-order}
use Rattle.exact_cover.proofs.Lead.{done_is}
use Rattle.exact_cover.proofs.PlainOrder.{plain, lead_low, keys_from_low, keys_low, covering_low, fits_low, candidates_low, steps_low, before_same}
use Rattle.exact_cover.proofs.PlainOrder.{Searches, searches_same, searches_low, lead_low_lem, before_low, keys-low, covering-low, steps_low_lem}

-- these packages, no optional item, and the plain order of m items
abbrev pub none_optional : ℕ → List ℕ → Problem
none_optional m ps = plain m ps 0

-- ---- document 01's definitions

-- package p comes before q: its lowest item is lower, or these are equal and p is lower [document 01: precedence]
abbrev pub Before01 : List ℕ → ℕ → ℕ → Type 0
Before01 ps p q = (lowest (get_or ps p 0) < lowest (get_or ps q 0)) ⊎ ((lowest (get_or ps p 0) ≡ lowest (get_or ps q 0)) × (p < q))

-- keys: lowest item × 512 + number
unfoldable pub keys_from01 : ℕ → List ℕ → List ℕ
keys_from01 n [] = []
keys_from01 n (x ∷ xs) = (lowest x * 512 + n) ∷ keys_from01 (suc n) xs

unfoldable pub keys01 : List ℕ → List ℕ
keys01 ps = keys_from01 0 ps

-- every item of D below k is in exactly one package of t (`holders` and `all_inside` know the packages only, and did not
-- move: any order does)
unfoldable pub once01 : List ℕ → ℕ → ℕ → List ℕ → Bool
once01 ps zero D t = true
once01 ps (suc i) D t = (not (holds i D) || eqb (holders (none_optional 0 ps) i t) 1) && once01 ps i D t

-- each package of t lies inside D, and each item of D is in just one of them [document 01: covers]
unfoldable pub covers01 : List ℕ → ℕ → List ℕ → Bool
covers01 ps D t = all_inside (none_optional 0 ps) D t && once01 ps width D t

unfoldable pub covering01 : List ℕ → ℕ → Family
covering01 ps D = filter (covers01 ps D) (sets (keys01 ps))

-- p holds A's lowest item, and lies inside A
unfoldable pub fits01 : List ℕ → ℕ → ℕ → Bool
fits01 ps A p = holds (lowest A) (get_or ps p 0) && insideb (get_or ps p 0) A

unfoldable pub candidates01 : List ℕ → ℕ → List ℕ
candidates01 ps A = filter (fits01 ps A) (down (length ps))

-- A is empty, or the memo holds it
abbrev pub known01 : ℕ → ℕ → Walk → Bool
known01 P A w = eqb A 0 || eqb (get_or w.memo (A % P) 0) A

-- Search of A [document 01: Search]
unfoldable pub visit01 : ℕ → List ℕ → ℕ → ℕ → Walk → Walk
visit01 zero ps P A w = enter w
visit01 (suc d) ps P A w =
    elim (known01 P A w) [
      | true ↦ enter w
      | false ↦ store (place_in P) A (each (λ (p : ℕ). visit01 d ps P (without A (get_or ps p 0))) (candidates01 ps A) (enter w))
    ]

unfoldable pub steps01 : List ℕ → ℕ → ℕ → ℕ
steps01 ps P A = (visit01 (size A) ps P A (record { entered = 0; memo = replicate P 0 })).entered

-- ---- they are those before there was an order, where nothing is optional

without-none : (A : ℕ) → without A 0 ≡ A
without-none A = ext_all (without A 0) A (λ i. holds-without i A 0 ∙ ap (λ (b : Bool). holds i A && not b) (holds-none i) ∙ and_true (holds i A))
  where
    and_true : (b : Bool) → b && true ≡ b
    and_true true = refl
    and_true false = refl

-- where nothing is optional the search is done where no item is left, whatever the order
pub done_none : (Q : Problem) (A : ℕ) → Q.optional ≡ 0 → done Q A ≡ eqb A 0
done_none Q A e = done_is Q A ∙ ap (λ (o : ℕ). eqb (without A o) 0) e ∙ ap (λ (x : ℕ). eqb x 0) (without-none A)

searches01 : (ps : List ℕ) (P : ℕ) → Searches P (known01 P) (candidates01 ps) (λ (p : ℕ). get_or ps p 0) (λ (d : ℕ). visit01 d ps P)
unfolding visit01
searches01 ps P = record { spent = λ A w. refl; old = λ d A w t. rw (t, visit01); new = λ d A w t. rw (t, visit01) }

module _ (m : ℕ) (ps : List ℕ) where
  abbrev Q : Problem
  Q = none_optional m ps

  pub done_as_before : (A : ℕ) → done Q A ≡ eqb A 0
  done_as_before A = done_none Q A refl

  -- the lowest compulsory item is the lowest
  lead01 : (A : ℕ) → lead_low Q A ≡ lowest A
  lead01 A = ap lowest (without-none A)

  keys_from_lem : (n : ℕ) (xs : List ℕ) → keys_from_low Q n xs ≡ keys_from01 n xs
  unfolding keys_from_low keys_from01
  keys_from_lem n [] = refl
  keys_from_lem n (x ∷ xs) = ap₂ (λ (k : ℕ) (ks : List ℕ). (k * 512 + n) ∷ ks) (lead01 x) (keys_from_lem (suc n) xs)

  keys-same : keys_low Q ≡ keys01 ps
  unfolding keys_low keys01
  keys-same = keys_from_lem 0 ps

  takes_one : (i n : ℕ) → takes Q i n ≡ eqb n 1
  unfolding takes
  takes_one i n = rw (holds-none i, takes)

  once-same : (k D : ℕ) (t : List ℕ) → once Q k D t ≡ once01 ps k D t
  unfolding once once01
  once-same zero D t = refl
  once-same (suc i) D t =
      ap₂ (λ (a b : Bool). (not (holds i D) || a) && b) (takes_one i (holders Q i t) ∙ ap (λ (n : ℕ). eqb n 1) (holders-any-order ps 0 (up_to m) (up_to 0) i t)) (once-same i D t)

  -- covers
  pub covers_as_before : (D : ℕ) (t : List ℕ) → covers Q D t ≡ covers01 ps D t
  unfolding covers covers01
  covers_as_before D t = ap₂ ◌&&◌ (inside-any-order ps 0 (up_to m) (up_to 0) D t) (once-same width D t)

  covering-same : (D : ℕ) → covering_low Q D ≡ covering01 ps D
  unfolding covering_low covering01
  covering-same D =
      filter_same (covers Q D) (covers01 ps D) (sets (keys_low Q)) (covers_as_before D)
      ∙ ap (λ (K : List ℕ). filter (covers01 ps D) (sets K)) keys-same

  candidates-same : (A : ℕ) → candidates_low Q A ≡ candidates01 ps A
  unfolding candidates_low candidates01 fits_low fits01
  candidates-same A =
      filter_same (fits_low Q A) (fits01 ps A) (down (length ps))
      (λ p. ap (λ (i : ℕ). holds i (get_or ps p 0) && insideb (get_or ps p 0) A) (lead01 A))

  known_same : (P A : ℕ) (w : Walk) → known Q (place_in P) A w ≡ known01 P A w
  known_same P A w = ap (λ (b : Bool). b || eqb (get_or w.memo (A % P) 0) A) (done_as_before A)

  steps-same : (P A : ℕ) → steps_low Q P A ≡ steps01 ps P A
  unfolding steps_low steps01
  steps-same P A =
      ap (λ (x : Walk). x.entered)
      (searches_same A (searches_low Q P) (searches01 ps P) (known_same P) (λ B x l t. candidates-same B) (size A) A
      (record { entered = 0; memo = replicate P 0 }) (lt_pow A))

  -- ---- and so today's in the plain order, for items below m

  -- the search goes on at the lowest item
  pub lead_as_before : (A : ℕ) → A < 2 ^ m → done Q A ≡ false → lead Q A ≡ lowest A
  lead_as_before A w h = lead_low_lem m ps 0 A w h ∙ lead01 A

  -- steps
  pub steps_as_before : (P A : ℕ) → A < 2 ^ m → steps Q P A ≡ steps01 ps P A
  steps_as_before P A w = steps_low_lem m ps 0 P A w ∙ steps-same P A

  -- the packages pass
  module _ (r : Rows Q) where
    -- precedence
    pub before_as_before : (p q : ℕ) → p < length ps → q < length ps → Before Q p q ↔ Before01 ps p q
    before_as_before p q l k =
        let b = before_low m ps 0 r p q l k in
        let e = lead01 (get_or ps p 0) in
        let f = lead01 (get_or ps q 0) in
        (λ h. before_same e f (b.0 h), λ h. b.1 (before_same (sym e) (sym f) h))

    -- the keys, and with them the sound tables
    pub keys_as_before : keys_of Q ≡ keys01 ps
    keys_as_before = keys-low m ps 0 r ∙ keys-same

    pub covering_as_before : (D : ℕ) → covering Q D ≡ covering01 ps D
    covering_as_before D = covering-low m ps 0 r D ∙ covering-same D
