-- THE THIRD DEMAND, from the contracts. Assumes nothing.
use mathlib.Core.Path.{◌≡◌, refl, sym, ap, ap₂, ◌∙◌, subst, subst⁻¹}
use mathlib.Core.Logic.{◌⊎◌, inl, inr, ◌↔◌, ⊎_elim}
use mathlib.Core.Bool.{Bool, true, false, cond, not, ◌&&◌}
use mathlib.Core.List.Memᴰ
use mathlib.Core.List.{List, [], ◌∷◌}
use Prim.Native.Nat.{ℕ, zero, suc, ◌+◌, ◌≤◌, ◌<◌}
use native.Mathlib.Nat.{not-suc-le-zero}
use native.Mathlib.Omega.{arith}
use lib.Dec.{eqb}
use lib.ListN.{length, replicate}
use borrow.Author.Tests.{eqb-true, eqb-false, le-ltb, lt-leb, le-leb}
use Rattle.base.proofs.Bools.{cases}
use Rattle.zdd.specs.Table.{Node, Family, fork, count, nodes_of, triples, sets, all_sets, order, elem, filter, soundb, Nodes, ◌∈◌}
use Rattle.zdd.proofs.Grow.{family-zero, family_one}
use Rattle.zdd.proofs.Canon.{canonical}
use Rattle.zdd.proofs.Words.{length-nodes}
use Rattle.zdd.proofs.Tested.{sound_of}
use Rattle.zdd.proofs.Join.{unites-turn, unites-same}
use Rattle.zdd.proofs.Listing.{filter_same, filter_none, elem-filter}
use Rattle.exact_cover.specs.Problem.{Problem}
use Rattle.exact_cover.specs.Cover.{keys_of}
use Rattle.statement.specs.Replies.{Report, Reply, refused, gives, reply}
use Rattle.query.specs.Questions.{family_at, nth}
use Rattle.statement.specs.Refusals.{first_of, Fit, unsound, unknown_answer, short_work, uncountable, past_end, short_page, pick_refusal}
use Rattle.statement.specs.Postconditions.{Answered, PickPost, MeasurePost, written}
use Rattle.statement.specs.declared.Call.{Call}
use Rattle.statement.specs.declared.Call.TheVariants.{Cover, Either, Both, Only, With, Without, Join}
use Rattle.statement.specs.Calls.{operands, family_of, steps_of}
use Rattle.history.specs.Histories.{Entry, Step, Calls, give, given, Allowed, History, start, next, Chosen, listing, SameSet}
use Rattle.history.specs.Histories.{no_timetable, empty_timetable, makes, Posting, latest, post, ledger, count_in, answered_with, Returns, Refuses, Demand3}
use Rattle.statement.proofs.FirstOf.{pass, hit, none}
use Rattle.statement.proofs.Admission.{table-passes}
use Rattle.statement.proofs.TestLaws.{answer-known, countable}
use Rattle.statement.proofs.Measure.{measure_lists}
use Rattle.statement.proofs.Kept.{keeps, grows}
use Rattle.history.proofs.Contract.{refusal_of, made, made-family, fit_call, gives_one, no_refusal, refusal}

-- ---- sets of timetables and their listings

-- a timetable is in the listing of a set exactly where it is in the set
listing-elem : (Q : Problem) (X : Chosen) (s : List ℕ) → elem s (sets (keys_of Q)) ≡ true → elem s (listing Q X) ≡ X s
listing-elem Q X s e = elem-filter X s (sets (keys_of Q)) ∙ ap (λ (b : Bool). X s && b) e ∙ right (X s)
  where
    right : (b : Bool) → (b && true) ≡ b
    right true = refl
    right false = refl

behind : (p : ℕ) (F G : Family) → filter empty_timetable (fork p F G) ≡ filter empty_timetable G
unfolding filter
behind p [] G = refl
behind p (t ∷ F) G = behind p F G

one_empty : (ps : List ℕ) → filter empty_timetable (all_sets ps) ≡ [] ∷ []
unfolding all_sets filter
one_empty [] = refl
one_empty (p ∷ ps) = behind p (all_sets ps) (all_sets ps) ∙ one_empty ps

listing-empty : (Q : Problem) → listing Q empty_timetable ≡ [] ∷ []
unfolding sets
listing-empty Q = one_empty (order (keys_of Q))

-- what a call makes depends on the sets of its operands only: a join's on all their timetables, the others' on s alone
makes-same : (Q : Problem) (F G : ℕ → Chosen) (s : List ℕ) (c : Call) → elem s (sets (keys_of Q)) ≡ true
    → ((x : ℕ) → x ∈ operands c → SameSet Q (F x) (G x)) → makes Q F c s ≡ makes Q G c s
makes-same Q F G s (Cover d limit) e h = refl
makes-same Q F G s (Either a b) e h = rw (h a (Memᴰ.head refl) s e, h b (Memᴰ.tail (Memᴰ.head refl)) s e)
makes-same Q F G s (Both a b) e h = rw (h a (Memᴰ.head refl) s e, h b (Memᴰ.tail (Memᴰ.head refl)) s e)
makes-same Q F G s (Only a b) e h = rw (h a (Memᴰ.head refl) s e, h b (Memᴰ.tail (Memᴰ.head refl)) s e)
makes-same Q F G s (With a p) e h = rw (h a (Memᴰ.head refl) s e)
makes-same Q F G s (Without a p) e h = rw (h a (Memᴰ.head refl) s e)
makes-same Q F G s (Join a b) e h = unites-same (keys_of Q) (F a) (F b) (G a) (G b) (h a (Memᴰ.head refl)) (h b (Memᴰ.tail (Memᴰ.head refl))) s

-- THEOREM: joins of (a, b) and of (b, a) post one set, so that in every history they have one number (`Demanded.numbers`)
pub joins-turned : (Q : Problem) (of : ℕ → Chosen) (a b : ℕ) → SameSet Q (makes Q of (Join a b)) (makes Q of (Join b a))
joins-turned Q of a b s e = unites-turn (keys_of Q) (of a) (of b) s

-- ---- the ledger: each number given has a posting

-- x has a posting, and its latest is one
Found : List Posting → ℕ → Type 0
Found ps x = (p : Posting) × (p ∈ ps) × (p.number ≡ x) × (latest ps x ≡ p.set)

find-next : (q : Posting) (ps : List Posting) (x : ℕ) → (x ≡ q.number) ⊎ Found ps x → Found (q ∷ ps) x
unfolding Found
find-next q ps x h = go (cases (eqb x q.number)) h
  where
    go : (eqb x q.number ≡ true) ⊎ (eqb x q.number ≡ false) → (x ≡ q.number) ⊎ Found ps x → Found (q ∷ ps) x
    go (inl e) h =
        (q, Memᴰ.head refl, sym (eqb-true x q.number e), ap (λ (b : Bool). cond b q.set (latest ps x)) e)
    go (inr e) (inl p) = absurd (eqb-false x q.number e p)
    go (inr e) (inr f) = (f.0, Memᴰ.tail f.1, f.2, ap (λ (b : Bool). cond b q.set (latest ps x)) e ∙ f.3)

posted : (Q : Problem) (c : Entry) (o : Reply ℕ) (l : List ℕ) (ps : List Posting)
    → ((x : ℕ) → x ∈ l → Found ps x) → (x : ℕ) → x ∈ give o l → Found (post Q c o ps) x
posted Q c (refused n) l ps f x m = f x m
posted Q c (gives a) l ps f x m = find-next _ ps x (⊎_elim (λ e. inl e) (λ n. inr (f x n)) (Memᴰ.cases_cons m))

given-found : (Q : Problem) (h : Calls) (x : ℕ) → x ∈ given h → Found (ledger Q h) x
given-found Q [] x m =
    find-next _ _ x (⊎_elim (λ e. inl e)
    (λ n. inr (find-next _ _ x (⊎_elim (λ e. inl e) (λ k. absurd (Memᴰ.not-nil k)) (Memᴰ.cases_cons n))))
    (Memᴰ.cases_cons m))
given-found Q (e ∷ h) x m = posted Q e.0 e.1.outcome (given h) (ledger Q h) (given-found Q h) x m

-- ---- the invariant: the nodes are sound, and each posting's number holds its set

Posted : Problem → List ℕ → Posting → Type 0
Posted Q t p = (p.number < count t + 2) × (family_at t p.number ≡ listing Q p.set)

record Agree (Q : Problem) (h : Calls) (t : List ℕ) : Type 0 where
  nodes : Nodes (keys_of Q) (nodes_of t)
  each : (p : Posting) → p ∈ ledger Q h → Posted Q t p
  fit : (m : ℕ) → m ∈ answered_with h → Fit Q m × (soundb (keys_of Q) t ≡ true)

no_nodes : (n : ℕ) → nodes_of (replicate n 0) ≡ []
unfolding nodes_of triples
no_nodes zero = refl
no_nodes (suc n) = refl

agree_start : (Q : Problem) (n : ℕ) → Agree Q [] (replicate n 0)
unfolding Posted
agree_start Q n = record {
  nodes = subst⁻¹ (λ (l : List Node). Nodes (keys_of Q) l) (no_nodes n)
      (record { each = λ i h. absurd (not-suc-le-zero h); once = λ i j a b e. absurd (not-suc-le-zero a) });
  each = λ p m. first p (Memᴰ.cases_cons m);
  fit = λ m i. absurd (Memᴰ.not-nil i);
}
  where
    first : (p : Posting) → (p ≡ record { number = 0; set = no_timetable }) ⊎ (p ∈ record { number = 1; set = empty_timetable } ∷ []) → Posted Q (replicate n 0) p
    first p (inl e) =
        subst⁻¹ (λ (q : Posting). Posted Q (replicate n 0) q) e (omega arith, family-zero (nodes_of (replicate n 0)) ∙ sym (filter_none (sets (keys_of Q))))
    first p (inr m) = second (Memᴰ.cases_cons m)
      where
        second : (p ≡ record { number = 1; set = empty_timetable }) ⊎ (p ∈ []) → Posted Q (replicate n 0) p
        second (inl e) =
            subst⁻¹ (λ (q : Posting). Posted Q (replicate n 0) q) e (omega arith, family_one (nodes_of (replicate n 0)) ∙ sym (listing-empty Q))
        second (inr k) = absurd (Memᴰ.not-nil k)

agree_answer : (Q : Problem) (h : Calls) (t : List ℕ) (c : Entry) (r : Report) (t' : List ℕ) (a : ℕ) → Agree Q h t
    → ((x : ℕ) → x ∈ operands c.call → x ∈ given h) → r.outcome ≡ gives a
    → Step Q t c r t'
    → ((p : Posting) → p ∈ record { number = a; set = makes Q (latest (ledger Q h)) c.call } ∷ ledger Q h → Posted Q t' p)
    × Nodes (keys_of Q) (nodes_of t')
    × ((m : ℕ) → m ∈ c.m ∷ answered_with h → Fit Q m × (soundb (keys_of Q) t' ≡ true))
unfolding Posted Found
agree_answer Q h t c r t' a G o e M = ((λ p m. go p (Memᴰ.cases_cons m)), (sound_of (keys_of Q) t' A.sound).nodes, (λ m i. fits m (Memᴰ.cases_cons i)))
  where
    zero-refusal : refusal_of Q t c ≡ 0
    zero-refusal = no_refusal M e

    A : Answered (keys_of Q) (family_of Q t c.call) (steps_of Q c.call c.words) t r t'
    A = M.answered zero-refusal

    number : A.number ≡ a
    number = gives_one r.outcome A.number a A.outcome e

    latest-holds : (x : ℕ) → x ∈ operands c.call → family_at t x ≡ listing Q (latest (ledger Q h) x)
    latest-holds x m =
        let f : Found (ledger Q h) x = given-found Q h x (o x m) in
        let g : Posted Q t f.0 = G.each f.0 f.1 in
        rw f.3 (rw f.2 at g.1)

    same : family_of Q t c.call ≡ listing Q (makes Q (latest (ledger Q h)) c.call)
    same = made-family Q t c.call ∙ filter_same (made Q t c.call) (makes Q (latest (ledger Q h)) c.call) (sets (keys_of Q)) (λ s m. makes-same Q _ _ s c.call m (λ x i u n.
        ap (elem u) (latest-holds x i) ∙ listing-elem Q (latest (ledger Q h) x) u n))

    go : (p : Posting) → (p ≡ record { number = a; set = makes Q (latest (ledger Q h)) c.call }) ⊎ (p ∈ ledger Q h) → Posted Q t' p
    go p (inl q) =
        subst⁻¹ (λ (u : Posting). Posted Q t' u) q
        (subst (λ (n : ℕ). n < count t' + 2) number A.known, ap (family_at t') (sym number) ∙ A.holds ∙ same)
    go p (inr m) =
        let g : Posted Q t p = G.each p m in
        (omega (arith, g.0, grows A), keeps A p.number g.0 ∙ g.1)

    fits : (m : ℕ) → (m ≡ c.m) ⊎ (m ∈ answered_with h) → Fit Q m × (soundb (keys_of Q) t' ≡ true)
    fits m (inl q) = (subst⁻¹ (λ (n : ℕ). Fit Q n) q (fit_call Q t c zero-refusal), A.sound)
    fits m (inr i) = ((G.fit m i).0, A.sound)

agree_next : (Q : Problem) (h : Calls) (t : List ℕ) (c : Entry) (r : Report) (t' : List ℕ) (q : Reply ℕ) → r.outcome ≡ q → Agree Q h t
    → Allowed h c q → Step Q t c r t'
    → Nodes (keys_of Q) (nodes_of t')
    × ((p : Posting) → p ∈ post Q c q (ledger Q h) → Posted Q t' p)
    × ((m : ℕ) → m ∈ count_in c.m q (answered_with h) → Fit Q m × (soundb (keys_of Q) t' ≡ true))
agree_next Q h t c r t' (refused n) e G o M =
    let z : t ≡ t' = sym (refusal M e) in (
      subst (λ (u : List ℕ). Nodes (keys_of Q) (nodes_of u)) z G.nodes,
      subst (λ (u : List ℕ). (p : Posting) → p ∈ ledger Q h → Posted Q u p) z G.each,
      subst (λ (u : List ℕ). (m : ℕ) → m ∈ answered_with h → Fit Q m × (soundb (keys_of Q) u ≡ true)) z G.fit,
    )
agree_next Q h t c r t' (gives a) e G o M = let x = agree_answer Q h t c r t' a G o e M in (x.1, x.0, x.2)

agree : (Q : Problem) {h : Calls} {t : List ℕ} → History Q h t → Agree Q h t
agree Q (start n) = agree_start Q n
agree Q (next {h} {t} H c r t' o p) =
    let x = agree_next Q h t c r t' r.outcome refl (agree Q H) o p in
    record { nodes = x.0; each = x.1; fit = x.2 }

pub nodes_sound : (Q : Problem) {h : Calls} {t : List ℕ} → History Q h t → Nodes (keys_of Q) (nodes_of t)
nodes_sound Q H = (agree Q H).nodes

-- each number given is one of the table, and holds the set of a posting
pub given_holds : (Q : Problem) {h : Calls} {t : List ℕ} → History Q h t → (a : ℕ) → a ∈ given h
    → (a < count t + 2) × ((p : Posting) × (p ∈ ledger Q h) × (family_at t a ≡ listing Q p.set))
unfolding Posted Found
given_holds Q {h} {t} H a m =
    let f = given-found Q h a m in
    let g : Posted Q t f.0 = (agree Q H).each f.0 f.1 in
    (subst (λ (x : ℕ). x < count t + 2) f.2 g.0, (f.0, f.1, rw f.2 at g.1))

-- ---- pick on a sound table

-- what is left of pick's tests, where the table is sound and there are enough working words
pick_tests : (Q : Problem) (m : ℕ) (t : List ℕ) (a k words : ℕ) (page : List ℕ) → Fit Q m → soundb (keys_of Q) t ≡ true → a < count t + 2 → a + 1 ≤ words
    → length (family_at t a) ≤ 18446744073709551615
    → pick_refusal Q m t a k words page ≡ first_of ((past_end (family_at t a) k, 12) ∷ (short_page page (nth (family_at t a) k), 15) ∷ [])
unfolding pick_refusal unsound unknown_answer short_work uncountable
pick_tests Q m t a k words page f s b w c =
    table-passes t _ f (ap not s) ∙ pass 5 _ (lt-leb (count t + 2) a b) ∙ pass 8 _ (le-ltb words (a + 1) w)
    ∙ pass 11 _ (le-ltb 18446744073709551615 (length (family_at t a)) c)

pick-inside : (F : Family) (k : ℕ) (page : List ℕ) → k < length F → length (nth F k) ≤ length page
    → first_of ((past_end F k, 12) ∷ (short_page page (nth F k), 15) ∷ []) ≡ 0
unfolding past_end short_page
pick-inside F k page h l = pass 12 _ (lt-leb (length F) k h) ∙ pass 15 _ (le-ltb (length page) (length (nth F k)) l) ∙ none

pick_outside : (F : Family) (k : ℕ) (page : List ℕ) → length F ≤ k → first_of ((past_end F k, 12) ∷ (short_page page (nth F k), 15) ∷ []) ≡ 12
unfolding past_end
pick_outside F k page h = hit 12 _ (le-leb (length F) k h)

module _ (Q : Problem) (h : Calls) (t : List ℕ) (G : Agree Q h t) where
  numbers : (p q : Posting) → p ∈ ledger Q h → q ∈ ledger Q h → (p.number ≡ q.number) ↔ SameSet Q p.set q.set
  unfolding Posted
  numbers p q m n = (
    λ e s i. sym (listing-elem Q p.set s i) ∙ ap (elem s) (sym (G.each p m).1 ∙ ap (family_at t) e ∙ (G.each q n).1) ∙ listing-elem Q q.set s i,
    λ e. canonical G.nodes p.number q.number (omega (arith, length-nodes t, (G.each p m).0)) (omega (arith, length-nodes t, (G.each q n).0))
        ((G.each p m).1 ∙ filter_same p.set q.set (sets (keys_of Q)) e ∙ sym (G.each q n).1),
  )

  picks : (p : Posting) → p ∈ ledger Q h → length (listing Q p.set) ≤ 18446744073709551615
      → (m : ℕ) → m ∈ answered_with h → (words : ℕ) → p.number + 1 ≤ words
      → (k : ℕ) (page : List ℕ) (r : Reply ℕ) (page' : List ℕ) → PickPost Q m t p.number k words page r page'
      → (k < length (listing Q p.set) → length (nth (listing Q p.set) k) ≤ length page → Returns (nth (listing Q p.set) k) page r page')
      × (length (listing Q p.set) ≤ k → Refuses 12 page r page')
  unfolding Posted
  picks p i c m j words w k page r page' P = (
    λ l v.
        let n0 : n ≡ 0 = tests ∙ pick-inside F k page l v in
        (P.result ∙ ap₂ (λ (x : ℕ) (G : Family). reply x (length (nth G k))) n0 e, P.pages ∙ ap₂ (λ (x : ℕ) (G : Family). written x (nth G k) page) n0 e),
    λ l.
        let n12 : n ≡ 12 = tests ∙ pick_outside F k page l in (
          P.result ∙ ap (λ (x : ℕ). reply x (length (nth (family_at t p.number) k))) n12,
          P.pages ∙ ap (λ (x : ℕ). written x (nth (family_at t p.number) k) page) n12,
        ),
  )
    where
      F : Family
      F = listing Q p.set

      e : family_at t p.number ≡ F
      e = (G.each p i).1

      n : ℕ
      n = pick_refusal Q m t p.number k words page

      tests : n ≡ first_of ((past_end F k, 12) ∷ (short_page page (nth F k), 15) ∷ [])
      tests =
          pick_tests Q m t p.number k words page (G.fit m j).0 (G.fit m j).1 (G.each p i).0 w
          (subst⁻¹ (λ (G : Family). length G ≤ 18446744073709551615) e c)
          ∙ ap (λ (G : Family). first_of ((past_end G k, 12) ∷ (short_page page (nth G k), 15) ∷ [])) e

  measures : (p : Posting) → p ∈ ledger Q h → length (listing Q p.set) ≤ 18446744073709551615
      → (m : ℕ) → m ∈ answered_with h → (words : ℕ) → p.number + 1 ≤ words
      → (k : ℕ) (r : Reply ℕ) → MeasurePost Q m t p.number k words r
      → (k < length (listing Q p.set) → r ≡ gives (length (nth (listing Q p.set) k)))
      × (length (listing Q p.set) ≤ k → r ≡ refused 12)
  unfolding Posted unsound
  measures p i c m j words w k r M =
      subst (λ (F : Family). (k < length F → r ≡ gives (length (nth F k))) × (length F ≤ k → r ≡ refused 12)) (G.each p i).1
      (measure_lists (record {
        fit = (G.fit m j).0;
        sound = ap not (G.fit m j).1;
        known = answer-known t p.number (G.each p i).0;
        counted = countable (family_at t p.number) (subst⁻¹ (λ (F : Family). length F ≤ 18446744073709551615) (G.each p i).1 c);
      }) w M)

pub demand3 : Demand3
demand3 Q h t H = let G = agree Q H in record { numbers = numbers Q h t G; picks = picks Q h t G; measures = measures Q h t G }
