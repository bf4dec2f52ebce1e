-- No question about cover's answer is refused but for too many timetables. Assumes nothing.
use mathlib.Core.Path.{◌≡◌, refl, sym, ap, ap₂, ◌∙◌, subst⁻¹}
use mathlib.Core.Bool.{true, not, ◌&&◌}
use mathlib.Core.List.{List, [], ◌∷◌}
use Prim.Native.Nat.{ℕ, zero, suc, ◌+◌, ◌^◌, ◌≤◌, ◌<◌}
use native.Mathlib.Nat.{lt_of_lt_of_le}
use native.Mathlib.Omega.{arith}
use lib.Pow.{pow_pos, pow_mono}
use lib.ListN.{length, take, drop}
use lib.Seq.{take_at}
use Rattle.base.proofs.Bools.{and_left, and_right}
use Rattle.itemset.specs.Items.{insideb, without, size}
use Rattle.itemset.specs.Words.{width}
use Rattle.itemset.proofs.Laws.{falls, size_le, without_lt}
use Rattle.itemset.proofs.Lists.{width_is}
use Rattle.zdd.specs.Table.{Family, nodes_of, sets, elem}
use Rattle.zdd.proofs.Grow.{family-zero}
use Rattle.zdd.proofs.Tested.{sound_of}
use Rattle.zdd.proofs.Words.{within-capacity}
use Rattle.zdd.proofs.Listing.{elem-filter}
use Rattle.zdd.proofs.Ordered.{nth-elem}
use Rattle.exact_cover.specs.Cover.{keys_of, covers, covering}
use Rattle.exact_cover.specs.Recursion.{Ascends, rank}
use Rattle.exact_cover.proofs.Covers.{covers-cons}
use Rattle.exact_cover.proofs.Sets.{sets_member}
use Rattle.query.specs.Questions.{family_at, nth, position, cost, cheapest}
use Rattle.std.specs.Prelude.{Result, Ok, Err}
use Rattle.std.specs.Result.{result_unwrap_or}
use Rattle.statement.specs.declared.Refusal.{Refusal}
use Rattle.statement.specs.Replies.{Report, Reply, gives, refused, reply, reply_of}
use Rattle.statement.specs.Examples.{all_items}
use Rattle.exact_cover.specs.Problem.{Problem, row, Rows}
use Rattle.statement.specs.Calls.{cover_refusal}
use Rattle.statement.specs.Refusals.{Fit, first_of, unsound, uncountable, count_refusal, cheapest_refusal}
use Rattle.statement.proofs.Admission.{fit_of, fit_passes, rows, table-passes}
use Rattle.statement.specs.Postconditions.{Makes, Answered, PickPost, PlacePost, CheapestPost, written}
use Rattle.statement.proofs.FirstOf.{pass, none}
use Rattle.statement.proofs.TestLaws.{reply_gives, all-priced, answer-known, enough, countable, something, page_fits}
use Rattle.statement.proofs.Least.{cheapest-least}
use Rattle.zdd.proofs.Member.{elem_in}
use Rattle.exact_cover.proofs.Lead.{open_pos}
use Rattle.statement.proofs.Undo.{Answerable, place-ready, pick-ready}
use Rattle.printout.specs.Program.{Askable, Listable}

-- ---- a timetable has at most as many packages as there are items

covers-short : (Q : Problem) → ((p : ℕ) → p < length Q.packages → 0 < row Q p) → (m D : ℕ) (t : List ℕ) → D < 2 ^ width
    → Ascends Q (length Q.packages) m t → covers Q D t ≡ true → length t ≤ size D
covers-short Q some m D [] w a c = omega arith
covers-short Q some m D (p ∷ t) w a c =
    let e : insideb (row Q p) D && covers Q (without D (row Q p)) t ≡ true = sym (covers-cons Q D p t w) ∙ c in
    let i : insideb (row Q p) D ≡ true = and_left (insideb (row Q p) D) (covers Q (without D (row Q p)) t) e in
    let r = covers-short Q some (suc (rank Q p)) (without D (row Q p)) t (without_lt width (row Q p) w) a.2 (and_right (insideb (row Q p) D) (covers Q (without D (row Q p)) t) e) in
    omega (arith, r, falls D (row Q p) (some p a.0) i)

covering-short : (Q : Problem) → Rows Q → (D : ℕ) → D < 2 ^ 64 → (s : List ℕ) → elem s (covering Q D) ≡ true → length s ≤ 64
unfolding covering
covering-short Q R D w s e =
    let f : covers Q D s && elem s (sets (keys_of Q)) ≡ true = sym (elem-filter (covers Q D) s (sets (keys_of Q))) ∙ e in
    let a : Ascends Q (length Q.packages) 0 s = (sets_member Q s R.few).0 (elem_in s (sets (keys_of Q)) (and_right (covers Q D s) (elem s (sets (keys_of Q))) f)) in
    let v : D < 2 ^ width = lt_of_lt_of_le w (pow_mono {i = 64} (omega (arith, width_is))) in
    let l = covers-short Q (λ p l. open_pos Q (row Q p) (R.some p l)) 0 D s v a (and_left (covers Q D s) (elem s (sets (keys_of Q))) f) in
    omega (arith, l, size_le 64 D w)

-- of all items, where there are at most 64: a page of 64 holds it
pub all_short : (Q : Problem) (m : ℕ) → Fit Q m → m ≤ 64 → (s : List ℕ) → elem s (covering Q (all_items m)) ≡ true → length s ≤ 64
all_short Q m f h = covering-short Q (rows f) (all_items m) (lt_of_lt_of_le (omega (arith, pow_pos m)) (pow_mono h))

-- ---- replies

pub gives_same : {A : Type 0} {x y : A} → gives x ≡ gives y → x ≡ y
gives_same e = cc

pub gives_pair : {x y u v : ℕ} → ◌≡◌ {A = Reply (ℕ × ℕ)} (gives (x, y)) (gives (u, v)) → x ≡ u
gives_pair {x} {y} {u} {v} e = let q : ◌≡◌ {A = ℕ × ℕ} (x, y) (u, v) = gives_same e in ap (λ (w : ℕ × ℕ). w.0) q

pub no_refusal : {A : Type 0} {P : Type 0} {n : ℕ} {x : A} → refused n ≡ gives x → P
no_refusal e = absurd (let z : ◌≡◌ {A = ℕ} 0 1 = cc in omega arith)

-- what is read off a result that is no refusal
pub unwrapped : (r : Result ℕ Refusal) {x : ℕ} → reply_of r ≡ gives x → result_unwrap_or r 0 ≡ x
unwrapped (Ok v) e = gives_same e
unwrapped (Err q) e = no_refusal e

-- ---- the questions

-- the page after a call that was not refused: the list s at its start
pub page_left : (s page : List ℕ) {page' : List ℕ} {k n : ℕ} → n ≡ length s → k ≡ 0 → page' ≡ written k s page → take n page' ≡ s
page_left s page e z p = ap₂ take e (p ∙ ap (λ (i : ℕ). written i s page) z) ∙ take_at s (drop (length s) page) (length s) refl

pub count_left : {Q : Problem} {m : ℕ} {t : List ℕ} {a words : ℕ} → Askable Q m t a words
    → count_refusal Q m t a words ≡ first_of ((uncountable (family_at t a), 11) ∷ [])
unfolding count_refusal
count_left {t = t} {a} {words} A =
    table-passes t _ A.fit A.sound ∙ pass 5 _ A.known ∙ pass 8 _ (enough (a + 1) words A.room)

module _ {Q : Problem} {m : ℕ} {t : List ℕ} {a words : ℕ} (L : Listable Q m t a words) where
  abbrev A : Askable Q m t a words
  A = L.askable

  abbrev F : Family
  F = family_at t a

  abbrev ready : Answerable Q m t a
  ready = record { fit = A.fit; sound = A.sound; known = A.known; counted = countable F L.few }

  -- what pick leaves; n is what was read off its answer
  pub picked_page : {k n : ℕ} {page page' : List ℕ} (r : Result ℕ Refusal) → k < length F → 64 ≤ length page → PickPost Q m t a k words page (reply_of r) page'
      → n ≡ result_unwrap_or r 0 → (n ≤ 64) × (take n page' ≡ nth F k)
  picked_page {k} {n} {page} {page'} r l h P f =
      let b = A.short (nth F k) (nth-elem F k l) in
      let z = pick-ready ready k words page A.room l (omega (arith, h, b)) in
      let e : n ≡ length (nth F k) = f ∙ unwrapped r (P.result ∙ sym (reply_gives (length (nth F k)) z)) in
      (omega (arith, e, b), page_left (nth F k) page e z P.pages)

  module _ (C : List ℕ) (p : length C ≡ length Q.packages) (some : 0 < length F) where
    abbrev s : List ℕ
    s = cheapest C F

    in_F : elem s F ≡ true
    in_F = (cheapest-least C F some).member

    not-empty : a ≡ 0 → ⊥
    not-empty e = omega (arith, some, ap length (ap (family_at t) e ∙ family-zero (nodes_of t)))

    cheapest-given : (page : List ℕ) → 64 ≤ length page → cheapest_refusal Q m C t a words page ≡ 0
    unfolding cheapest_refusal
    cheapest-given page h =
        fit_passes _ A.fit ∙ pass 3 _ (all-priced Q C p) ∙ pass 4 _ A.sound ∙ pass 5 _ A.known
        ∙ pass 8 _ (enough (a + 1) words A.room) ∙ pass 13 _ (something a not-empty)
        ∙ pass 15 _ (page_fits page s (omega (arith, h, A.short s in_F))) ∙ none

    -- what cheapest leaves; n is what was read off its answer
    pub priced_page : {n : ℕ} {page page' : List ℕ} {r : Reply (ℕ × ℕ)} → 64 ≤ length page → CheapestPost Q m C t a words page r page'
        → ((x y : ℕ) → r ≡ gives (x, y) → n ≡ x) → (n ≤ 64) × (take n page' ≡ s)
    priced_page {n} {page} {page'} h P f =
        let z = cheapest-given page h in
        let e : n ≡ length s = f (length s) (cost C s) (P.result ∙ sym (reply_gives (length s, cost C s) z)) in
        (omega (arith, e, A.short s in_F), page_left s page e z P.pages)

    -- its place
    pub place_gives : {l : List ℕ} {words' : ℕ} {r : Reply ℕ} → l ≡ s → words' ≡ words → PlacePost Q m t a l words' r → r ≡ gives (position s F)
    place_gives {l} {words'} e d P =
        P.result
        ∙ ap₂ reply (place-ready ready l words' (omega (arith, d, A.room)) (subst⁻¹ (λ (u : List ℕ). elem u F ≡ true) e in_F)) (ap (λ (u : List ℕ). position u F) e)

-- ---- cover's answer

-- the refusal that cover said
pub cover-refused : {K : List ℕ} {F : Family} {st : ℕ} {b : List ℕ} {r : Report} {t : List ℕ} (n x : ℕ) → Makes K n F st b r t → r.outcome ≡ refused x
    → (n ≡ x) × (x ≡ 0 → ⊥)
cover-refused zero x M e = no_refusal (sym e ∙ (M.answered refl).outcome)
cover-refused (suc n) x M e = let q : refused (suc n) ≡ refused x = sym (M.declined (omega arith)).outcome ∙ e in let z : suc n ≡ x = cc in (z, λ y. omega arith)

pub cover_answered : {K : List ℕ} {F : Family} {st : ℕ} {b : List ℕ} {r : Report} {t : List ℕ} (n a : ℕ) → Makes K n F st b r t → r.outcome ≡ gives a
    → (n ≡ 0) × Answered K F st b r t
cover_answered zero a M e = (refl, M.answered refl)
cover_answered (suc n) a M e = no_refusal (sym (M.declined (omega arith)).outcome ∙ e)

pub askable : (Q : Problem) (m limit words : ℕ) {b : List ℕ} {st : ℕ} {r : Report} {t : List ℕ} (a : ℕ) → length b ≡ 5401 → words ≡ 3604 → m ≤ 64
    → cover_refusal Q m b (all_items m) limit words ≡ 0 → Answered (keys_of Q) (covering Q (all_items m)) st b r t → r.outcome ≡ gives a
    → Askable Q m t a words × (family_at t a ≡ covering Q (all_items m))
unfolding unsound
askable Q m limit words {t = t} a l v h z A o =
    let f0 : Fit Q m = (fit_of _ z).0 in
    let n : A.number ≡ a = gives_same (sym A.outcome ∙ o) in
    let c = within-capacity (sound_of (keys_of Q) t A.sound) in
    let f : family_at t a ≡ covering Q (all_items m) = ap (family_at t) (sym n) ∙ A.holds in (
      record {
        fit = f0;
        sound = ap not A.sound;
        known = answer-known t a (omega (arith, n, A.known));
        room = omega (arith, n, A.known, c, A.long, l, v);
        short = subst⁻¹ (λ (G : Family). (s : List ℕ) → elem s G ≡ true → length s ≤ 64) f (all_short Q m f0 h);
      },
      f,
    )
