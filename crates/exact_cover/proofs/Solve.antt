-- What `covering` has, and a recursion that finds it. Assumes nothing.
use mathlib.Core.Path.{◌≡◌, refl, sym, ap, ◌∙◌}
use mathlib.Core.Bool.{true, false}
use mathlib.Core.Logic.{◌↔◌}
use mathlib.Core.List.{List, [], ◌∷◌, ◌++◌, map, Memᴰ}
use Prim.Native.Nat.{ℕ, zero, suc, ◌^◌, ◌≤◌, ◌<◌}
use native.Mathlib.Nat.{le_refl}
use native.Mathlib.Omega.{arith}
use lib.ListN.{length}
use Rattle.itemset.specs.Items.{without, size}
use Rattle.base.proofs.Bools.{by_test}
use Rattle.itemset.proofs.Laws.{without_lt}
use Rattle.zdd.specs.Table.{sets}
use Rattle.exact_cover.specs.Problem.{Problem, row, span, done, Rows}
use Rattle.exact_cover.specs.Cover.{covers, covering, candidates, keys_of}
use Rattle.exact_cover.specs.Recursion.{Ascends, gather, solve}
use Rattle.exact_cover.proofs.Lists.{filter_in, in_filter}
use Rattle.exact_cover.proofs.Lead.{size-done}
use Rattle.exact_cover.proofs.First.{candidate_falls}
use Rattle.exact_cover.proofs.Sets.{sets_member}
use Rattle.exact_cover.proofs.Listing.{covering-done, covering-gather}

pub covering_member : (Q : Problem) (A : ℕ) (t : List ℕ) → length Q.packages ≤ 512
    → Memᴰ t (covering Q A) ↔ (Ascends Q (length Q.packages) 0 t × (covers Q A t ≡ true))
unfolding covering
covering_member Q A t few = (
  λ d. let r = filter_in (covers Q A) (sets (keys_of Q)) d in ((sets_member Q t few).0 r.0, r.1),
  λ h. in_filter (covers Q A) (sets (keys_of Q)) ((sets_member Q t few).1 h.0) h.1,
)

-- ---- the recursion

gather-same : (f g : ℕ → List (List ℕ)) (ps : List ℕ) (acc : List (List ℕ)) → ((p : ℕ) → Memᴰ p ps → f p ≡ g p) → gather f ps acc ≡ gather g ps acc
unfolding gather
gather-same f g [] acc h = refl
gather-same f g (p ∷ ps) acc h =
    ap (λ (x : List (List ℕ)). gather f ps (x ++ acc)) (h p (Memᴰ.head refl)) ∙ gather-same f g ps (g p ++ acc) (λ q d. h q (Memᴰ.tail d))

solve-zero : (Q : Problem) (A : ℕ) → solve zero Q A ≡ [] ∷ []
unfolding solve
solve-zero Q A = refl

solve-empty : (d : ℕ) (Q : Problem) (A : ℕ) → done Q A ≡ true → solve (suc d) Q A ≡ [] ∷ []
unfolding solve
solve-empty d Q A e = rw (e, solve)

solve-some : (d : ℕ) (Q : Problem) (A : ℕ) → done Q A ≡ false
    → solve (suc d) Q A ≡ gather (λ (p : ℕ). map (λ (t : List ℕ). p ∷ t) (solve d Q (without A (row Q p)))) (candidates Q A) []
unfolding solve
solve-some d Q A e = rw (e, solve)

module _ (Q : Problem) (good : Rows Q) where
  solve-more : (d A : ℕ) → A < 2 ^ span Q → size A ≤ d → solve d Q A ≡ covering Q A
  solve-more zero A w h = solve-zero Q A ∙ sym (covering-done Q good A w (size-done Q A h))
  solve-more (suc d) A w h =
      by_test (done Q A)
      (λ e. solve-empty d Q A e ∙ sym (covering-done Q good A w e))
      (λ e. solve-some d Q A e
      ∙ gather-same (λ (p : ℕ). map (λ (t : List ℕ). p ∷ t) (solve d Q (without A (row Q p))))
      (λ (p : ℕ). map (λ (t : List ℕ). p ∷ t) (covering Q (without A (row Q p)))) (candidates Q A) []
      (λ p m.
      let l : size (without A (row Q p)) < size A = candidate_falls Q A m in
      ap (map (λ (t : List ℕ). p ∷ t)) (solve-more d (without A (row Q p)) (without_lt (span Q) (row Q p) w) (omega arith)))
      ∙ sym (covering-gather Q good A w e))

  pub solve-covering : (A : ℕ) → A < 2 ^ span Q → solve (size A) Q A ≡ covering Q A
  solve-covering A w = solve-more (size A) A w (le_refl (size A))
