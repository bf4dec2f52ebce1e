-- In the plain order, 0 .. m - 1, exact covers are what they were before there was an order. The definitions of then stand here (names with Low), over the
-- packages and the optional set of a problem alone; each is proved to be today's for the problem in the plain order [document 02, No. 4]. `done`, `holders`,
-- `all_inside`, `takes`, `once`, `covers` and `known` do not know the order, and did not move. Assumes nothing.
use mathlib.Core.Path.{◌≡◌, refl, sym, ap, ap₂, ◌∙◌, subst, fun_ext}
use mathlib.Core.Bool.{Bool, true, false, ◌&&◌}
use mathlib.Core.Logic.{◌⊎◌, ◌↔◌}
use mathlib.Core.List.{List, [], ◌∷◌}
use Prim.Native.Nat.{ℕ, zero, suc, ◌+◌, ◌*◌, ◌^◌, ◌<◌}
use native.Mathlib.Omega.{arith}
use lib.Dec.{eqb}
use lib.ListN.{length, get_or, replicate}
use Rattle.base.proofs.Bools.{by_test, or_neither}
use Rattle.itemset.specs.Items.{holds, insideb, without, size, lowest}
use Rattle.itemset.proofs.Laws.{without_lt}
use Rattle.zdd.specs.Table.{Family, filter, sets}
use Rattle.exact_cover.specs.Problem.{Problem, row, compulsory, span, up_to, lead, leader, done, Rows}
use Rattle.exact_cover.specs.Cover.{Before, keys_from, keys_of, covers, covering, fits, down, candidates}
use Rattle.exact_cover.specs.Steps.{Walk, enter, place_in, store, known, each, visit, steps}
use Rattle.exact_cover.proofs.Orders.{length-count, plain_at, plain-once}
use Rattle.exact_cover.proofs.PositionLaws.{positions-plain}
use Rattle.exact_cover.proofs.Lists.{filter_same}
use Rattle.exact_cover.proofs.Lead.{Ordered, lead-lowest, lead_lt}
use Rattle.exact_cover.proofs.Fuel.{visit-known, visit_new, visit-zero}

-- packages and an optional set in the plain order of m items
abbrev pub plain : ℕ → List ℕ → ℕ → Problem
plain m packages optional = record { packages = packages; optional = optional; order = up_to m }

-- ---- the definitions before there was an order

-- the item at which the search of A goes on: A's lowest compulsory one
abbrev pub lead_low : Problem → ℕ → ℕ
lead_low Q A = lowest (compulsory Q A)

-- package p comes before q: its lowest compulsory item is lower, or these are equal and p is lower [document 01: precedence; document 02, No. 1]
abbrev pub BeforeLow : Problem → ℕ → ℕ → Type 0
BeforeLow Q p q = (lead_low Q (row Q p) < lead_low Q (row Q q)) ⊎ ((lead_low Q (row Q p) ≡ lead_low Q (row Q q)) × (p < q))

-- keys: lowest compulsory item × 512 + number
unfoldable pub keys_from_low : Problem → ℕ → List ℕ → List ℕ
keys_from_low Q n [] = []
keys_from_low Q n (x ∷ xs) = (lead_low Q x * 512 + n) ∷ keys_from_low Q (suc n) xs

unfoldable pub keys_low : Problem → List ℕ
keys_low Q = keys_from_low Q 0 Q.packages

unfoldable pub covering_low : Problem → ℕ → Family
covering_low Q D = filter (covers Q D) (sets (keys_low Q))

-- p holds A's lowest compulsory item, and lies inside A
unfoldable pub fits_low : Problem → ℕ → ℕ → Bool
fits_low Q A p = holds (lead_low Q A) (row Q p) && insideb (row Q p) A

unfoldable pub candidates_low : Problem → ℕ → List ℕ
candidates_low Q A = filter (fits_low Q A) (down (length Q.packages))

-- Search of A [document 01: Search]
unfoldable pub visit_low : ℕ → Problem → ℕ → ℕ → Walk → Walk
visit_low zero Q P A w = enter w
visit_low (suc d) Q P A w =
    elim (known Q (place_in P) A w) [
      | true ↦ enter w
      | false ↦ store (place_in P) A (each (λ (p : ℕ). visit_low d Q P (without A (row Q p))) (candidates_low Q A) (enter w))
    ]

unfoldable pub steps_low : Problem → ℕ → ℕ → ℕ
steps_low Q P A = (visit_low (size A) Q P A (record { entered = 0; memo = replicate P 0 })).entered

-- ---- two definitions that agree on each package, and on each set

-- a package comes before another by the numbers a and b of their leads
pub before_same : {a b c d p q : ℕ} → a ≡ c → b ≡ d → (a < b) ⊎ ((a ≡ b) × (p < q)) → (c < d) ⊎ ((c ≡ d) × (p < q))
before_same {a} {b} {c} {d} {p} {q} e f h =
    subst (λ (y : ℕ). (c < y) ⊎ ((c ≡ y) × (p < q))) f (subst (λ (x : ℕ). (x < b) ⊎ ((x ≡ b) × (p < q))) e h)

-- v is Search in a memo of P places: `found` says which sets are known, `tried` which packages are tried, `rows` has their items
pub record Searches (P : ℕ) (found : ℕ → Walk → Bool) (tried : ℕ → List ℕ) (rows : ℕ → ℕ) (v : ℕ → ℕ → Walk → Walk) : Type 0 where
  pub spent : (A : ℕ) (w : Walk) → v zero A w ≡ enter w
  pub old : (d A : ℕ) (w : Walk) → found A w ≡ true → v (suc d) A w ≡ enter w
  pub new : (d A : ℕ) (w : Walk) → found A w ≡ false
      → v (suc d) A w ≡ store (place_in P) A (each (λ (p : ℕ). v d (without A (rows p))) (tried A) (enter w))

-- where they know the same sets and, of items below m, try the same packages, they are one
pub searches_same : {P : ℕ} {f g : ℕ → Walk → Bool} {r s : ℕ → List ℕ} {rows : ℕ → ℕ} {v u : ℕ → ℕ → Walk → Walk} (m : ℕ)
    → Searches P f r rows v → Searches P g s rows u → ((A : ℕ) (w : Walk) → f A w ≡ g A w)
    → ((A : ℕ) (w : Walk) → A < 2 ^ m → f A w ≡ false → r A ≡ s A) → (d A : ℕ) (w : Walk) → A < 2 ^ m → v d A w ≡ u d A w
searches_same m x y k c zero A w l = x.spent A w ∙ sym (y.spent A w)
searches_same {P} {f} {g} {r} {s} {rows} {v} {u} m x y k c (suc d) A w l =
    by_test (f A w)
    (λ t. x.old d A w t ∙ sym (y.old d A w (sym (k A w) ∙ t)))
    (λ t. x.new d A w t
    ∙ ap (store (place_in P) A)
    (ap₂ (λ (h : ℕ → Walk → Walk) (ps : List ℕ). each h ps (enter w))
    (fun_ext (λ (p : ℕ). fun_ext (λ (z : Walk). searches_same m x y k c d (without A (rows p)) z (without_lt m (rows p) l)))) (c A w l t))
    ∙ sym (y.new d A w (sym (k A w) ∙ t)))

pub searches_today : (Q : Problem) (P : ℕ) → Searches P (known Q (place_in P)) (candidates Q) (row Q) (λ (d : ℕ). visit d Q (place_in P))
searches_today Q P = record {
  spent = visit-zero Q (place_in P);
  old = λ d. visit-known d Q (place_in P);
  new = λ d. visit_new d Q (place_in P);
}

pub searches_low : (Q : Problem) (P : ℕ) → Searches P (known Q (place_in P)) (candidates_low Q) (row Q) (λ (d : ℕ). visit_low d Q P)
unfolding visit_low
searches_low Q P = record { spent = λ A w. refl; old = λ d A w t. rw (t, visit_low); new = λ d A w t. rw (t, visit_low) }

-- ---- they are today's in the plain order

module _ (m : ℕ) (ps : List ℕ) (o : ℕ) where
  abbrev Q : Problem
  Q = plain m ps o

  once : Ordered Q
  once = rw (length-count 0 m) (plain-once m)

  -- a set of items below m that is not done
  module _ (A : ℕ) (w : A < 2 ^ m) (h : done Q A ≡ false) where
    inside : A < 2 ^ span Q
    inside = rw (length-count 0 m) w

    -- the search goes on at its lowest compulsory item
    pub lead_low_lem : lead Q A ≡ lead_low Q A
    lead_low_lem = lead-lowest Q A once inside h ∙ ap lowest (positions-plain m (compulsory Q A) (without_lt m o w))

    pub leader-low : leader Q A ≡ lead_low Q A
    leader-low = plain_at m (lead Q A) (rw (length-count 0 m) at (lead_lt Q A once inside h)) ∙ lead_low_lem

  -- the packages pass
  module _ (r : Rows Q) where
    rows-low : (p : ℕ) → p < length ps → lead Q (get_or ps p 0) ≡ lead_low Q (get_or ps p 0)
    rows-low p l = lead_low_lem (get_or ps p 0) (rw (length-count 0 m) at (r.inside p l)) (r.some p l)

    -- precedence
    pub before_low : (p q : ℕ) → p < length ps → q < length ps → Before Q p q ↔ BeforeLow Q p q
    before_low p q l k = (before_same (rows-low p l) (rows-low q k), before_same (sym (rows-low p l)) (sym (rows-low q k)))

    keys_from_lem : (n : ℕ) (xs : List ℕ) → ((p : ℕ) → p < length xs → lead Q (get_or xs p 0) ≡ lead_low Q (get_or xs p 0)) → keys_from Q n xs ≡ keys_from_low Q n xs
    unfolding keys_from keys_from_low
    keys_from_lem n [] h = refl
    keys_from_lem n (x ∷ xs) h =
        ap₂ (λ (k : ℕ) (ks : List ℕ). (k * 512 + n) ∷ ks) (h 0 (omega arith)) (keys_from_lem (suc n) xs (λ p l. h (suc p) (omega arith)))

    -- the keys, and with them the sound tables: soundness asks for nothing else of the packages
    pub keys-low : keys_of Q ≡ keys_low Q
    unfolding keys_of keys_low
    keys-low = keys_from_lem 0 ps rows-low

    pub covering-low : (D : ℕ) → covering Q D ≡ covering_low Q D
    unfolding covering covering_low
    covering-low D = ap (λ (K : List ℕ). filter (covers Q D) (sets K)) keys-low

  -- steps, whatever the packages are
  candidates-low : (A : ℕ) → A < 2 ^ m → done Q A ≡ false → candidates Q A ≡ candidates_low Q A
  unfolding candidates candidates_low fits fits_low
  candidates-low A w h =
      filter_same (fits Q A) (fits_low Q A) (down (length ps))
      (λ p. ap (λ (i : ℕ). holds i (get_or ps p 0) && insideb (get_or ps p 0) A) (leader-low A w h))

  pub steps_low_lem : (P A : ℕ) → A < 2 ^ m → steps Q P A ≡ steps_low Q P A
  unfolding steps steps_low
  steps_low_lem P A w =
      ap (λ (x : Walk). x.entered)
      (searches_same m (searches_today Q P) (searches_low Q P) (λ B x. refl)
      (λ B x l t. candidates-low B l (or_neither (done Q B) (eqb (get_or x.memo (place_in P B) 0) B) t).0)
      (size A) A (record { entered = 0; memo = replicate P 0 }) w)
