-- The trial of A takes the packages from the highest number down and puts its answer together: after the numbers from n on it has the covers of A
-- whose first package is n or above, and each step is a split. Assumes nothing.
use mathlib.Core.Path.{◌≡◌, refl, sym, ap, ◌∙◌, subst}
use mathlib.Core.Bool.{true, false}
use mathlib.Core.Logic.{◌⊎◌, inl, inr}
use mathlib.Core.List.{List, [], ◌∷◌, map}
use Prim.Native.Nat.{ℕ, zero, suc, ◌+◌, ◌^◌, ◌≤◌, ◌<◌}
use native.Mathlib.Nat.{lt_of_not-le, le_refl}
use native.Mathlib.Omega.{arith}
use lib.ListN.{length}
use Rattle.itemset.specs.Items.{insideb, without}
use Rattle.itemset.specs.Words.{width}
use Rattle.base.proofs.Bools.{and_left, never}
use Rattle.itemset.proofs.Laws.{without_lt}
use Rattle.zdd.specs.Table.{Family, fork, key, filter, elem}
use Rattle.zdd.specs.Work.{From, Split}
use Rattle.zdd.proofs.Member.{elem_in, from_of, fork-cases}
use Rattle.exact_cover.specs.Problem.{Problem, row, span, done, Rows}
use Rattle.exact_cover.specs.Cover.{covers, covering, fits, down, candidates, keys_of}
use Rattle.exact_cover.specs.Recursion.{gather}
use Rattle.exact_cover.proofs.Covers.{covers-cons}
use Rattle.exact_cover.proofs.Lead.{part-lead}
use Rattle.exact_cover.proofs.Order.{key-number}
use Rattle.exact_cover.proofs.First.{fits-holds, fits-inside, apart}
use Rattle.exact_cover.proofs.Listing.{wide, covering-gather}
use Rattle.exact_cover.proofs.Solve.{covering_member}
use Rattle.exact_cover.proofs.Loops.{gather-take, gather_pass}

-- the covers of what p leaves of A
abbrev pub left : Problem → ℕ → ℕ → Family
left Q A p = covering Q (without A (row Q p))

abbrev pub begun : Problem → ℕ → ℕ → Family
begun Q A p = map (λ (t : List ℕ). p ∷ t) (left Q A p)

-- acc is what the trial of A has after the package numbers from n on
pub record Partial (Q : Problem) (A n : ℕ) (acc : Family) : Type 0 where
  pub rest : gather (begun Q A) (filter (fits Q A) (down n)) acc ≡ covering Q A
  pub begins : (q : ℕ) (t : List ℕ) → elem (q ∷ t) acc ≡ true → (n ≤ q) × (q < length Q.packages) × (fits Q A q ≡ true)

elem-nil : (t : List ℕ) → elem t [] ≡ false
unfolding elem
elem-nil t = refl

nothing_left : (Q : Problem) (A : ℕ) (acc : Family) → gather (begun Q A) (filter (fits Q A) (down 0)) acc ≡ acc
unfolding gather filter down
nothing_left Q A acc = refl

module _ (Q : Problem) (good : Rows Q) (A : ℕ) (w : A < 2 ^ span Q) (o : done Q A ≡ false) where
  -- the covers of what a candidate leaves begin after it
  pub left_from : (p : ℕ) → p < length Q.packages → fits Q A p ≡ true → From (keys_of Q) (suc (key (keys_of Q) p)) (left Q A p)
  left_from p l f =
      from_of (keys_of Q) (suc (key (keys_of Q) p)) (left Q A p) (λ q t e.
      let m = (covering_member Q (without A (row Q p)) (q ∷ t) good.few).0 (elem_in (q ∷ t) (left Q A p) e) in
      let i : insideb (row Q q) (without A (row Q p)) ≡ true =
      and_left (insideb (row Q q) (without A (row Q p))) (covers Q (without (without A (row Q p)) (row Q q)) t)
      (sym (covers-cons Q (without A (row Q p)) q t (without_lt width (row Q p) (wide good w))) ∙ m.1) in
      lt_of_not-le (λ k. never i (apart Q good A p q w o l m.0.0 k f)))

  -- what the trial has begins after the package that it comes to, where that is a candidate
  pub partial_from : (n : ℕ) (acc : Family) → n < length Q.packages → fits Q A n ≡ true → Partial Q A (suc n) acc → From (keys_of Q) (suc (key (keys_of Q) n)) acc
  partial_from n acc l f p =
      from_of (keys_of Q) (suc (key (keys_of Q) n)) acc (λ q t e.
      let r = p.begins q t e in
      key-number Q good.few n q r.0 r.1
      (part-lead Q good.ordered (row Q n) A w (fits-inside Q A n f) o (fits-holds Q A n f)
      ∙ sym (part-lead Q good.ordered (row Q q) A w (fits-inside Q A q r.2) o (fits-holds Q A q r.2))))

  -- ---- the steps of the trial

  pub partial_start : Partial Q A (length Q.packages) []
  unfolding candidates
  partial_start = record {
    rest = sym (covering-gather Q good A w o);
    begins = λ q t e. absurd (never e (elem-nil (q ∷ t)));
  }

  -- n is no candidate
  pub partial_pass : (n : ℕ) (acc : Family) → fits Q A n ≡ false → Partial Q A (suc n) acc → Partial Q A n acc
  partial_pass n acc e p = record {
    rest = sym (gather_pass (fits Q A) n (begun Q A) acc e) ∙ p.rest;
    begins = λ q t m. let r = p.begins q t m in (omega (arith, r.0), r.1, r.2);
  }

  -- none of the numbers from n to m is
  pub partial_skip : (d n m : ℕ) (acc : Family) → m ≡ d + n → ((q : ℕ) → n ≤ q → q < m → fits Q A q ≡ false) → Partial Q A m acc → Partial Q A n acc
  partial_skip zero n m acc e f p = let z : m ≡ n = omega arith in subst (λ (k : ℕ). Partial Q A k acc) z p
  partial_skip (suc d) n m acc e f p =
      partial_pass n acc (f n (le_refl n) (omega arith)) (partial_skip d (suc n) m acc (omega arith) (λ q a b. f q (omega arith) b) p)

  -- n is a candidate
  pub partial_take : (n : ℕ) (acc : Family) → n < length Q.packages → fits Q A n ≡ true → Partial Q A (suc n) acc → Partial Q A n (fork n (left Q A n) acc)
  partial_take n acc l e p = record {
    rest = sym (gather-take (fits Q A) n (begun Q A) acc e) ∙ p.rest;
    begins = λ q t m. go q t (fork-cases n q t (left Q A n) acc m);
  }
    where
      go : (q : ℕ) (t : List ℕ) → ((q ≡ n) × (elem t (left Q A n) ≡ true)) ⊎ (elem (q ∷ t) acc ≡ true) → (n ≤ q) × (q < length Q.packages) × (fits Q A q ≡ true)
      go q t (inl a) = (omega (arith, a.0), omega (arith, a.0), ap (fits Q A) a.0 ∙ e)
      go q t (inr a) = let r = p.begins q t a in (omega (arith, r.0), r.1, r.2)

  -- the step is a split: made for `left Q A n`, for what there was, and for the node is made for what there is then
  pub partial_split : (n : ℕ) (acc : Family) → n < length Q.packages → fits Q A n ≡ true → Partial Q A (suc n) acc
      → Split (keys_of Q) (fork n (left Q A n) acc) n (left Q A n) acc
  partial_split n acc l e p = record { is = refl; hi_from = left_from n l e; lo_from = partial_from n acc l e p }

  pub partial_end : (acc : Family) → Partial Q A 0 acc → acc ≡ covering Q A
  partial_end acc p = sym (nothing_left Q A acc) ∙ p.rest
