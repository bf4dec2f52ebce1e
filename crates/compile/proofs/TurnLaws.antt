-- The laws of search and trial: what trial's loop keeps, and each of its steps. Assumes nothing.
use mathlib.Core.Path.{◌≡◌, refl, sym, ap, ◌∙◌, subst, subst⁻¹}
use mathlib.Core.Bool.{Bool, true, false}
use mathlib.Core.List.{List}
use Prim.Native.Nat.{ℕ, suc, ◌+◌, ◌-◌, ◌%◌, ◌^◌, ◌<◌, ◌≤◌}
use native.Mathlib.Omega.{arith}
use lib.Dec.{eqb}
use lib.ListN.{length, get_or}
use Rattle.itemset.specs.Items.{insideb, without, holds}
use Rattle.itemset.proofs.Lists.{width_is}
use Rattle.itemset.proofs.Laws.{without_back}
use Rattle.memo.specs.Memo.{key_at, number_at, Stored}
use Rattle.base.proofs.Bools.{by_test, never, is_false, and_both}
use Rattle.exact_cover.proofs.Lead.{open_pos, lead-holds, lead_lt, part-lead}
use Rattle.zdd.specs.Table.{node, Family, fork, key, count, capacity, nodes_of, family}
use Rattle.zdd.proofs.Words.{length-nodes}
use Rattle.zdd.proofs.Grow.{family_one}
use Rattle.zdd.specs.Work.{From, Got}
use Rattle.zdd.proofs.Nowaste.{nowaste_keeps}
use Rattle.zdd.proofs.Room.{worked_calm, same-capacity}
use Rattle.zdd.proofs.Split.{from_over}
use Rattle.zdd.proofs.Got.{got_eq, got_there, got_idle}
use Rattle.exact_cover.specs.Problem.{Problem, row, span, item_at, lead, leader, done}
use Rattle.exact_cover.specs.Positions.{Carried}
use Rattle.exact_cover.specs.Cover.{keys_of, covering, fits}
use Rattle.exact_cover.specs.Steps.{Walk, enter, store, known, search}
use Rattle.exact_cover.proofs.First.{fits-holds, fits-inside}
use Rattle.exact_cover.proofs.Order.{length-keys}
use Rattle.exact_cover.proofs.Listing.{covering-done}
use Rattle.exact_cover.proofs.Fuel.{search-known, search_new}
use Rattle.exact_cover.proofs.Partial.{left, left_from, partial_from}
use Rattle.exact_cover.proofs.Trial.{Trial, trial_start, trial_skip, trial-take, trial-none, trial_end}
use Rattle.buckets.specs.Chain.{Last}
use Rattle.table.specs.State.{Grown, Indexed, May, Made, Unique}
use Rattle.table.proofs.GrownLaws.{grown_refl, grown_trans, grown_more}
use Rattle.std.proofs.Common.{Option, Some, None}
use Rattle.compile.specs.declared.Run.{Run}
use Rattle.compile.specs.State.{lead_of, Packs, Held, Searchable, Is, tried, Searched, Tried, Ran}
use Rattle.compile.proofs.WalkLaws.{sub, search_enters, onward, onward_skip, onward-take, onward-more, onward_end, onward-all, is_enter, is_known, is_new, is_store, known-done}
use Rattle.table.proofs.GotLaws.{made_got}
use Rattle.compile.proofs.MemoLaws.{held_grown, held_store}

-- the loop comes to entry p of the index
pub record At (Q : Problem) (A p : ℕ) : Type 0 where
  pub inside : p ≤ length Q.packages
  pub own : 0 < p → lead_of Q p ≡ lead Q A

-- the packages from m on are tried, and l is the number so far
pub record Turn (Q : Problem) (P : ℕ) (homes : List ℕ) (at A limit : ℕ) (t₀ memo₀ : List ℕ) (n₀ : ℕ) (b₀ : Bool) (t index memo : List ℕ) (m l n : ℕ) (b : Bool) : Type 0 where
  pub grown : Grown (keys_of Q) t₀ t
  pub indexed : Indexed t index
  pub same : length memo ≡ length memo₀
  pub held : Held Q P t memo b
  pub within : n ≤ limit
  pub trial : Trial Q A (capacity t₀) (nodes_of t₀) b₀ m l (nodes_of t) b
  pub walk : (h : ℕ → ℕ) → Carried Q P homes h → h A ≡ at → (w : Walk) → Is P w n₀ memo₀
      → (v : Walk) × (Is P v n memo × (onward Q h A (length Q.packages) w ≡ onward Q h A m v))

-- ---- search

module _ {Q : Problem} {P : ℕ} {leads homes : List ℕ} (ps : Packs Q P leads homes) {limit : ℕ} {t index memo : List ℕ} {n : ℕ} {b : Bool} (r : Searchable Q P t index memo b) (A at : ℕ) where
  -- the limit is met
  pub search-over : limit ≤ n → (a n' : ℕ) (b' : Bool) → Searched Q P homes at A limit t memo n b t index memo a n' b' true
  search-over h a n' b' = record {
    grown = grown_refl r.sound;
    indexed = r.indexed;
    same = refl;
    held = λ e. absurd (never refl e);
    got = λ e. absurd (never refl e);
    within = λ e. absurd (never refl e);
    walk = λ e. absurd (never refl e);
    spent = λ e f c q w s. omega (arith, search_enters Q f A w, s.entries);
  }

  -- nothing is left, or the memo has the answer
  here : (a n' : ℕ) → n < limit → n' ≡ n + 1 → a < count t + 2 → (b ≡ false → family (nodes_of t) a ≡ covering Q A)
      → ((h : ℕ → ℕ) → h A ≡ at → (w : Walk) → Is P w n memo → known Q h A w ≡ true) → Searched Q P homes at A limit t memo n b t index memo a n' b false
  here a n' h e k f g = record {
    grown = grown_refl r.sound;
    indexed = r.indexed;
    same = refl;
    held = λ z. r.held;
    got = λ z. by_test b
        (λ q. subst⁻¹ (λ (d : Bool). Got (keys_of Q) (capacity t) (nodes_of t) d a (nodes_of t) d (covering Q A)) q
        (got_idle (capacity t) a (covering Q A) r.sound.nodes (omega (arith, length-nodes t))))
        (λ q. got_eq (f q) (got_there (capacity t) b a r.sound.nodes (omega (arith, length-nodes t))));
    within = λ z. omega arith;
    walk = λ z h c q w s. subst⁻¹ (λ (v : Walk). Is P v n' memo) (search-known Q h A w (g h q w s)) (is_enter s n' e);
    spent = λ z. absurd (never z refl);
  }

  pub search-empty : (n' : ℕ) → n < limit → n' ≡ n + 1 → A < 2 ^ span Q → done Q A ≡ true → Searched Q P homes at A limit t memo n b t index memo 1 n' b false
  search-empty n' h e small z =
      here 1 n' h e (omega arith) (λ q. family_one (nodes_of t) ∙ sym (covering-done Q ps.rows A small z)) (λ h q w s. known-done Q h A w z)

  module _ (lt : at < P) where
    pub search_hit : (a n' : ℕ) → n < limit → n' ≡ n + 1 → done Q A ≡ false → key_at P memo at ≡ A → a ≡ number_at memo at
        → Searched Q P homes at A limit t memo n b t index memo a n' b false
    search_hit a n' h e p k z =
        here a n' h e (omega (arith, r.held.values at lt))
        (λ y. ap (family (nodes_of t)) z ∙ r.held.right y at lt (omega (arith, open_pos Q A p)) ∙ ap (covering Q) k)
        (λ f q w s. is_known s Q f A at q lt k)

    -- trial's answer is search's
    pub search-tried : (n' : ℕ) {t' index' memo' : List ℕ} {a n'' : ℕ} {b' over : Bool} → n' ≡ n + 1 → done Q A ≡ false → (key_at P memo at ≡ A → ⊥)
        → Tried Q P homes at A limit t memo n' b t' index' memo' a n'' b' over → Searched Q P homes at A limit t memo n b t' index' memo' a n'' b' over
    search-tried n' {t'} {index'} {memo'} {a} {n''} {b'} {over} e p k d = record {
      grown = d.grown;
      indexed = d.indexed;
      same = d.same;
      held = d.held;
      got = d.got;
      within = d.within;
      walk = λ z h c q w s. subst⁻¹ (λ (v : Walk). Is P v n'' memo') (new h q w s) (d.walk z h c q (enter w) (is_enter s n' e));
      spent = λ z h c q w s. subst⁻¹ (λ (v : Walk). limit < v.entered) (new h q w s) (d.spent z h c q (enter w) (is_enter s n' e));
    }
      where
        new : (h : ℕ → ℕ) → h A ≡ at → (w : Walk) → Is P w n memo → search Q h A w ≡ tried Q h A (enter w)
        new h q w s = search_new Q h A w (is_new s Q h A at q lt p k)

pub search-ran : {Q : Problem} {P : ℕ} {leads homes : List ℕ} (ps : Packs Q P leads homes) (limit : ℕ) {t index memo : List ℕ} (n : ℕ) {b : Bool} (r : Searchable Q P t index memo b) (A at : ℕ)
    → at < P → (n' : ℕ) (t' index' memo' : List ℕ) (x : Option Run) → n' ≡ n + 1 → done Q A ≡ false → (key_at P memo at ≡ A → ⊥)
    → Ran (Tried Q P homes at A limit t memo n' b t' index' memo') x → Ran (Searched Q P homes at A limit t memo n b t' index' memo') x
search-ran ps limit n r A at lt n' t' index' memo' (Some x) e p k d = search-tried ps {limit = limit} {n = n} r A at lt n' e p k d
search-ran ps limit n r A at lt n' t' index' memo' None e p k d = search-tried ps {limit = limit} {n = n} r A at lt n' e p k d

-- ---- trial

-- what a package of items x leaves of A, and that it lies inside A, where x is y
pub rest_is : (A : ℕ) {x y B : ℕ} → x ≡ y → B ≡ without A x → B ≡ without A y
rest_is A r z = z ∙ ap (without A) r

pub rest_inside : (A : ℕ) {x y : ℕ} → x ≡ y → insideb x A ≡ true → insideb y A ≡ true
rest_inside A r i = rw r at i

module _ {Q : Problem} {P : ℕ} {leads homes : List ℕ} (ps : Packs Q P leads homes) (A at : ℕ) (small : A < 2 ^ span Q) (some : done Q A ≡ false) where
  -- a package with another lead is no candidate
  other : (q k : ℕ) → k ≡ q + 1 → (lead_of Q k ≡ lead Q A → ⊥) → fits Q A q ≡ false
  unfolding lead_of
  other q k z f =
      let y : k - 1 ≡ q = omega arith in
      is_false (fits Q A q) (λ e. f (ap (λ (i : ℕ). lead Q (row Q i)) y ∙ part-lead Q ps.rows.ordered (row Q q) A small (fits-inside Q A q e) some (fits-holds Q A q e)))

  -- one inside A with its lead is a candidate
  fit : (q k : ℕ) → k ≡ q + 1 → q < length Q.packages → lead_of Q k ≡ lead Q A → insideb (row Q q) A ≡ true → fits Q A q ≡ true
  unfolding lead_of fits
  fit q k z l e i =
      let y : k - 1 ≡ q = omega arith in
      let h : lead Q (row Q q) ≡ lead Q A = ap (λ (j : ℕ). lead Q (row Q j)) (sym y) ∙ e in
      and_both (holds (leader Q A) (row Q q)) (insideb (row Q q) A)
      (ap (λ (j : ℕ). holds (item_at Q j) (row Q q)) (sym h) ∙ lead-holds Q (row Q q) ps.rows.ordered (ps.rows.inside q l) (ps.rows.some q l)) i

  unfit : (q : ℕ) → insideb (row Q q) A ≡ false → fits Q A q ≡ false
  unfit q i = is_false (fits Q A q) (λ e. never (fits-inside Q A q e) i)

  head : Last (lead_of Q) 1 (lead Q A) (length Q.packages + 1) (get_or leads (lead Q A) 0)
  head = ps.chain.at_head (lead Q A) (omega (arith, width_is, lead_lt Q A ps.rows.ordered small some, ps.rows.narrow))

  pub at_first : At Q A (get_or leads (lead Q A) 0)
  at_first = record { inside = omega (arith, head.below); own = λ h. (head.own h).1 }

  module _ (p k : ℕ) (e : p ≡ k + 1) (a : At Q A p) where
    next_last : Last (lead_of Q) 1 (lead Q A) p (get_or leads (k + 194) 0)
    next_last =
        let z : 193 + p ≡ k + 194 = omega arith in
        subst (λ (i : ℕ). Last (lead_of Q) 1 (lead Q A) p (get_or leads i 0)) z
        (subst (λ (h : ℕ). Last (lead_of Q) 1 h p (get_or leads (193 + p) 0)) (a.own (omega arith)) (ps.chain.at_next p (omega arith) (omega (arith, a.inside))))

    pub at_falls : get_or leads (k + 194) 0 < p
    at_falls = next_last.below

    pub at_later : At Q A (get_or leads (k + 194) 0)
    at_later = record { inside = omega (arith, at_falls, a.inside); own = λ h. (next_last.own h).1 }

    pub at-fits : insideb (row Q k) A ≡ true → fits Q A k ≡ true
    at-fits i = fit k p e (omega (arith, a.inside)) (a.own (omega arith)) i

    -- what package k leaves of A is less
    module _ (x B : ℕ) (r : x ≡ row Q k) (z : B ≡ without A x) (i : insideb x A ≡ true) where
      pub rest_less : B < A
      rest_less = omega (arith, z, without_back A x i, r, open_pos Q (row Q k) (ps.rows.some k (omega (arith, a.inside))))

  -- and its place is the one that is carried along
  carries : (p k B there : ℕ) → p ≡ k + 1 → At Q A p → insideb (row Q k) A ≡ true → B ≡ without A (row Q k) → there ≡ (at + (P - get_or homes k 0)) % P
      → (h : ℕ → ℕ) → Carried Q P homes h → h A ≡ at → h B ≡ there
  carries p k B there e a i z g h c q =
      ap h z ∙ c.falls A k (omega (arith, a.inside)) i ∙ ap (λ (x : ℕ). (x + (P - get_or homes k 0)) % P) q ∙ sym g

  module _ {limit : ℕ} {t₀ memo₀ : List ℕ} {n₀ : ℕ} {b₀ : Bool} where
    module _ {t index memo : List ℕ} {l n : ℕ} {b : Bool} where
      -- the numbers from m to k are no candidates
      turn_skip : (d m k : ℕ) → k ≡ d + m → ((q : ℕ) → m ≤ q → q < k → fits Q A q ≡ false)
          → Turn Q P homes at A limit t₀ memo₀ n₀ b₀ t index memo k l n b → Turn Q P homes at A limit t₀ memo₀ n₀ b₀ t index memo m l n b
      turn_skip d m k e f u = record {
        grown = u.grown;
        indexed = u.indexed;
        same = u.same;
        held = u.held;
        within = u.within;
        trial = trial_skip Q ps.rows A small some d m k l e f u.trial;
        walk = λ h c q w s. let x = u.walk h c q w s in (x.0, (x.1.0, x.1.1 ∙ onward_skip Q h A d m k x.0 e f));
      }

      -- on to the next entry
      pub turn_later : (p k : ℕ) → p ≡ k + 1 → At Q A p → Turn Q P homes at A limit t₀ memo₀ n₀ b₀ t index memo k l n b
          → Turn Q P homes at A limit t₀ memo₀ n₀ b₀ t index memo (get_or leads (k + 194) 0) l n b
      turn_later p k e a u =
          turn_skip (k - get_or leads (k + 194) 0) (get_or leads (k + 194) 0) k (omega (arith, at_falls p k e a))
          (λ q x y. other q (q + 1) refl (λ z. (next_last p k e a).gap (q + 1) (omega arith) (omega arith) (omega arith) z)) u

      -- k does not lie inside A
      pub turn_pass : (p k : ℕ) → p ≡ k + 1 → At Q A p → insideb (row Q k) A ≡ false
          → Turn Q P homes at A limit t₀ memo₀ n₀ b₀ t index memo p l n b → Turn Q P homes at A limit t₀ memo₀ n₀ b₀ t index memo (get_or leads (k + 194) 0) l n b
      turn_pass p k e a i u =
          turn_later p k e a (turn_skip 1 k p (omega arith) (λ q x y. let z : q ≡ k = omega arith in ap (fits Q A) z ∙ unfit k i) u)

      -- search met the limit
      pub turn-over : (p k B there : ℕ) {t' index' memo' : List ℕ} {a n' : ℕ} {b' over : Bool} → p ≡ k + 1 → At Q A p → insideb (row Q k) A ≡ true
          → B ≡ without A (row Q k) → there ≡ (at + (P - get_or homes k 0)) % P → over ≡ true → Turn Q P homes at A limit t₀ memo₀ n₀ b₀ t index memo p l n b
          → Searched Q P homes there B limit t memo n b t' index' memo' a n' b' over → Tried Q P homes at A limit t₀ memo₀ n₀ b₀ t' index' memo' a n' b' over
      turn-over p k B there e a i z g o u d = record {
        grown = grown_trans u.grown d.grown;
        indexed = d.indexed;
        same = d.same ∙ u.same;
        held = λ y. absurd (never o y);
        got = λ y. absurd (never o y);
        within = λ y. absurd (never o y);
        walk = λ y. absurd (never o y);
        spent = λ y h c q w s.
            let x = u.walk h c q w s in
            let v : Walk = x.0 in
            let j : p ≡ suc k = omega arith in
            let f : onward Q h A (length Q.packages) w ≡ onward Q h A k (sub Q h A k v) =
            x.1.1 ∙ ap (λ (m : ℕ). onward Q h A m v) j ∙ onward-take Q h A k v (at-fits p k e a i) in
            let m : limit < (sub Q h A k v).entered =
            subst (λ (C : ℕ). limit < (search Q h C v).entered) z (d.spent o h c (carries p k B there e a i z g h c q) v x.1.0) in
            omega (arith, m, onward-more Q h A k (sub Q h A k v), ap (λ (y : Walk). y.entered) f, ap (λ (y : Walk). y.entered) (onward-all Q h A w));
      }

      -- search gave h
      module _ (p k B there : ℕ) {t' index' memo' : List ℕ} {h n' : ℕ} {b' over : Bool} (e : p ≡ k + 1) (a : At Q A p) (i : insideb (row Q k) A ≡ true)
          (z : B ≡ without A (row Q k)) (g : there ≡ (at + (P - get_or homes k 0)) % P) (o : over ≡ false)
          (u : Turn Q P homes at A limit t₀ memo₀ n₀ b₀ t index memo p l n b) (d : Searched Q P homes there B limit t memo n b t' index' memo' h n' b' over) where
        cap : capacity t ≡ capacity t₀
        cap = same-capacity t t₀ u.grown.long

        found : Got (keys_of Q) (capacity t₀) (nodes_of t) b h (nodes_of t') b' (left Q A k)
        found = subst (λ (c : ℕ). Got (keys_of Q) c (nodes_of t) b h (nodes_of t') b' (left Q A k)) cap (got_eq (ap (covering Q) z) (d.got o))

        before : Trial Q A (capacity t₀) (nodes_of t₀) b₀ (suc k) l (nodes_of t) b
        before = let q : p ≡ suc k = omega arith in subst (λ (m : ℕ). Trial Q A (capacity t₀) (nodes_of t₀) b₀ m l (nodes_of t) b) q u.trial

        low : k < length Q.packages
        low = omega (arith, a.inside)

        walked : (f : ℕ → ℕ) → Carried Q P homes f → f A ≡ at → (w : Walk) → Is P w n₀ memo₀
            → (v : Walk) × (Is P v n' memo' × (onward Q f A (length Q.packages) w ≡ onward Q f A k v))
        walked f c q w s =
            let x = u.walk f c q w s in
            let v : Walk = x.0 in
            let j : p ≡ suc k = omega arith in (
              sub Q f A k v,
              (
                subst (λ (C : ℕ). Is P (search Q f C v) n' memo') z (d.walk o f c (carries p k B there e a i z g f c q) v x.1.0),
                x.1.1 ∙ ap (λ (m : ℕ). onward Q f A m v) j ∙ onward-take Q f A k v (at-fits p k e a i),
              ),
            )

        -- no cover begins with k
        pub turn-none : h ≡ 0 → Turn Q P homes at A limit t₀ memo₀ n₀ b₀ t' index' memo' k l n' b'
        turn-none y = record {
          grown = grown_trans u.grown d.grown;
          indexed = d.indexed;
          same = d.same ∙ u.same;
          held = d.held o;
          within = d.within o;
          trial = trial-none Q ps.rows A small some k l low (at-fits p k e a i) before
              (subst (λ (j : ℕ). Got (keys_of Q) (capacity t₀) (nodes_of t) b j (nodes_of t') b' (left Q A k)) y found);
          walk = walked;
        }

        still_known : l < count t' + 2
        still_known = omega (arith, u.trial.got.known, length-nodes t, grown_more d.grown)

        -- the flag is up: nothing is made
        pub turn_idle : b' ≡ true → Turn Q P homes at A limit t₀ memo₀ n₀ b₀ t' index' memo' k l n' b'
        turn_idle y = record {
          grown = grown_trans u.grown d.grown;
          indexed = d.indexed;
          same = d.same ∙ u.same;
          held = d.held o;
          within = d.within o;
          trial = subst⁻¹ (λ (c : Bool). Trial Q A (capacity t₀) (nodes_of t₀) b₀ k l (nodes_of t') c) y
              (trial-take Q ps.rows A small some k l h l low (at-fits p k e a i) before
              (subst (λ (c : Bool). Got (keys_of Q) (capacity t₀) (nodes_of t) b h (nodes_of t') c (left Q A k)) y found)
              (got_idle (capacity t₀) l (fork k (family (nodes_of t') h) (family (nodes_of t') l)) d.grown.sound.nodes (omega (arith, still_known, length-nodes t'))));
          walk = walked;
        }

        module _ (y : b' ≡ false) (pos : 0 < h) where
          may : May (keys_of Q) t' (node k l h)
          may =
              let down : b ≡ false = worked_calm found.work y in
              let lo-is : family (nodes_of t') l ≡ before.acc = nowaste_keeps found.work.nowaste l u.trial.got.known ∙ before.got.holds down in
              record {
                sound = d.grown.sound;
                fine = record {
                  label-known = omega (arith, length-keys Q, low);
                  lo-below = omega (arith, still_known);
                  hi-below = omega (arith, found.known, length-nodes t');
                  hi-some = pos;
                  lo_after = from_over d.grown.sound.nodes l (omega (arith, still_known, length-nodes t')) (suc (key (keys_of Q) k))
                      (subst⁻¹ (λ (F : Family). From (keys_of Q) (suc (key (keys_of Q) k)) F) lo-is
                      (partial_from Q ps.rows A small some k before.acc low (at-fits p k e a i) before.part));
                  hi_after = from_over d.grown.sound.nodes h found.known (suc (key (keys_of Q) k))
                      (subst⁻¹ (λ (F : Family). From (keys_of Q) (suc (key (keys_of Q) k)) F) (found.holds y)
                      (left_from Q ps.rows A small some k low (at-fits p k e a i)));
                };
              }

          -- the node is found or made, or there is no room
          pub turn-made : (j r : ℕ) {t'' index'' : List ℕ} → j ≡ k → Unique t' t'' index'' (node j l h) r
              → Turn Q P homes at A limit t₀ memo₀ n₀ b₀ t'' index'' memo' k r n' (eqb r 0)
          turn-made j r {t''} {index''} x m =
              let made : Made (keys_of Q) t' t'' index'' (node k l h) r = subst (λ (i : ℕ). Unique t' t'' index'' (node i l h) r) x m (keys_of Q) may in
              let g : Got (keys_of Q) (capacity t₀) (nodes_of t') b' r (nodes_of t'') (eqb r 0) (fork k (family (nodes_of t') h) (family (nodes_of t') l)) =
              subst⁻¹ (λ (c : Bool). Got (keys_of Q) (capacity t₀) (nodes_of t') c r (nodes_of t'') (eqb r 0) (fork k (family (nodes_of t') h) (family (nodes_of t') l))) y
              (made_got made (capacity t₀) (sym (same-capacity t' t₀ (d.grown.long ∙ u.grown.long)))) in
              record {
                grown = grown_trans u.grown (grown_trans d.grown made.grown);
                indexed = made.indexed;
                same = d.same ∙ u.same;
                held = held_grown made.grown (λ q. y) (d.held o);
                within = d.within o;
                trial = trial-take Q ps.rows A small some k l h r low (at-fits p k e a i) before found g;
                walk = walked;
              }

      -- every package is tried, and the answer is stored
      pub turn-done : (p : ℕ) {memo' : List ℕ} {over : Bool} → at < P → over ≡ false → p ≡ 0 → Stored P memo at A l memo'
          → Turn Q P homes at A limit t₀ memo₀ n₀ b₀ t index memo p l n b → Tried Q P homes at A limit t₀ memo₀ n₀ b₀ t index memo' l n b over
      turn-done p {memo'} lt o z d u =
          let g : Got (keys_of Q) (capacity t₀) (nodes_of t₀) b₀ l (nodes_of t) b (covering Q A) =
          trial_end Q ps.rows A small some l (subst (λ (m : ℕ). Trial Q A (capacity t₀) (nodes_of t₀) b₀ m l (nodes_of t) b) z u.trial) in
          record {
            grown = u.grown;
            indexed = u.indexed;
            same = d.same ∙ u.same;
            held = λ y. held_store A l at (omega (arith, g.known, length-nodes t)) g.holds d u.held;
            got = λ y. g;
            within = λ y. u.within;
            walk = λ y h c q w s.
                let x = u.walk h c q w s in
                let f : onward Q h A (length Q.packages) w ≡ x.0 = x.1.1 ∙ ap (λ (m : ℕ). onward Q h A m x.0) z ∙ onward_end Q h A x.0 in
                subst⁻¹ (λ (v : Walk). Is P v n memo') (onward-all Q h A w ∙ ap (store h A) f) (is_store x.1.0 Q h A at q lt l d);
            spent = λ y. absurd (never y o);
          }

    -- nothing is tried yet
    pub turn_start : {index : List ℕ} → Searchable Q P t₀ index memo₀ b₀ → n₀ ≤ limit
        → Turn Q P homes at A limit t₀ memo₀ n₀ b₀ t₀ index memo₀ (get_or leads (lead Q A) 0) 0 n₀ b₀
    turn_start r h =
        turn_skip (length Q.packages - get_or leads (lead Q A) 0) (get_or leads (lead Q A) 0) (length Q.packages) (omega (arith, head.below))
        (λ q x y. other q (q + 1) refl (λ z. head.gap (q + 1) (omega arith) (omega arith) (omega arith) z))
        (record {
          grown = grown_refl r.sound;
          indexed = r.indexed;
          same = refl;
          held = r.held;
          within = h;
          trial = trial_start Q ps.rows A small some r.sound.nodes;
          walk = λ h c q w s. (w, (s, refl));
        })
