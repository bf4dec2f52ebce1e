-- What the nodes made for a family F have to do with F: `Nowaste`, no node is made that F does not need; `Short`, F needs one that is not there;
-- `Worked`, the two for work that stops making nodes when there is no room. How they go together where families are made of parts, and the counts:
-- THEOREMS: the nodes made are at most those missing; exactly those where F has its number; fewer where F is short. Assumes nothing.
use mathlib.Core.Path.{◌≡◌, refl, sym, ap, ◌∙◌, subst, subst⁻¹}
use mathlib.Core.Logic.{◌⊎◌, inl, inr, ⊎_elim}
use mathlib.Core.List.Memᴰ
use mathlib.Core.List.{List, [], ◌∷◌, ◌++◌, append-nil, append_assoc}
use Prim.Native.Nat.{ℕ, zero, suc, ◌+◌, ◌≤◌, ◌<◌}
use native.Mathlib.Nat.{le_antisymm}
use native.Mathlib.Decide.{dec_lt}
use native.Mathlib.Omega.{arith}
use lib.ListN.{length, get_or, take, length-append}
use lib.Seq.{take-append_seam}
use Rattle.zdd.specs.Table.{Node, blank, Family, fork, families, family, key, Fine, Nodes, ◌∈◌}
use Rattle.zdd.proofs.Member.{Avoids, from_avoids, family_from}
use Rattle.zdd.specs.Work.{Under, Nowaste, Short}
use Rattle.zdd.proofs.Grow.{family-append, families-append, family_new}
use Rattle.zdd.proofs.Canon.{family-some, canonical}
use Rattle.zdd.proofs.Extend.{nodes-append}
use Rattle.zdd.specs.Branches.{branches, fresh, missing}
use Rattle.zdd.proofs.Counting.{Distinct, distinct_append, fresh_sound, fresh_distinct, at_most, fewer, number_in, number_of}
use Rattle.zdd.proofs.Below.{least_growth}
use Rattle.zdd.proofs.Under.{under_self, fork_branch}

-- ---- no waste: how it goes together

pub nowaste_length : {ns ns' : List Node} {F : Family} (w : Nowaste ns ns' F) → length ns' ≡ length ns + length w.new
nowaste_length {ns} {ns'} {F} w = ap length w.grown ∙ length-append ns w.new

-- the old nodes stand first
pub nowaste_old : {ns ns' : List Node} {F : Family} → Nowaste ns ns' F → take (length ns) ns' ≡ ns
nowaste_old {ns} {ns'} {F} w = ap (take (length ns)) w.grown ∙ take-append_seam ns w.new

-- the old numbers keep their families
pub nowaste_keeps : {ns ns' : List Node} {F : Family} → Nowaste ns ns' F → (k : ℕ) → k < suc (suc (length ns)) → family ns' k ≡ family ns k
nowaste_keeps {ns} {ns'} {F} w k h = ap (λ (l : List Node). family l k) w.grown ∙ family-append ns w.new k h

-- nothing is made
pub nowaste_start : (ns : List Node) (F : Family) → Nowaste ns ns F
nowaste_start ns F = record { new = []; grown = sym (append-nil ns); needed = λ k a b. absurd (omega arith) }

-- what is made for a family under F is made for F
pub nowaste_under : {ns ns' : List Node} {F G : Family} → Nowaste ns ns' G → Under G F → Nowaste ns ns' F
nowaste_under w u = record { new = w.new; grown = w.grown; needed = λ k a b. u.each _ (w.needed k a b) }

-- and then more
pub nowaste_then : {ns ns' ns'' : List Node} {F : Family} → Nowaste ns ns' F → Nowaste ns' ns'' F → Nowaste ns ns'' F
nowaste_then {ns} {ns'} {ns''} {F} w v = record {
  new = w.new ++ v.new;
  grown = v.grown ∙ ap (λ (l : List Node). l ++ v.new) w.grown ∙ append_assoc ns w.new v.new;
  needed = λ k a b. go k a b (dec_lt k (suc (suc (length ns'))));
}
  where
    go : (k : ℕ) → suc (suc (length ns)) ≤ k → k < suc (suc (length ns'')) → Dec (k < suc (suc (length ns'))) → family ns'' k ∈ branches F
    go k a b (yes h) = subst⁻¹ (λ (G : Family). G ∈ branches F) (nowaste_keeps v k h) (w.needed k a h)
    go k a b (no h) = v.needed k (omega arith) b

-- a node that may stand behind ns: its parts
module _ {K : List ℕ} {ns : List Node} (n : Nodes K ns) (x : Node) (f : Fine K ns (length ns) x) where
  fine_some : family ns x.hi ≡ [] → ⊥
  fine_some = family-some n x.hi f.hi-below f.hi-some

  pub fine_avoids : Avoids x.label (family ns x.lo)
  fine_avoids =
      from_avoids K (suc (key K x.label)) x.label (family ns x.lo)
      (family_from n x.lo f.lo-below (suc (key K x.label)) f.lo_after) (omega arith)

  fine_branch : fork x.label (family ns x.hi) (family ns x.lo) ∈ branches (fork x.label (family ns x.hi) (family ns x.lo))
  fine_branch = fork_branch x.label (family ns x.hi) (family ns x.lo) fine_some fine_avoids

  -- the node is made
  pub nowaste_made : Nowaste ns (ns ++ (x ∷ [])) (fork x.label (family ns x.hi) (family ns x.lo))
  nowaste_made = record {
    new = x ∷ [];
    grown = refl;
    needed = λ k a b.
        let e : k ≡ suc (suc (length ns)) = omega (arith, length-append ns (x ∷ [])) in
        subst⁻¹ (λ (G : Family). G ∈ branches (fork x.label (family ns x.hi) (family ns x.lo))) (ap (family (ns ++ (x ∷ []))) e ∙ family_new ns x) fine_branch;
  }

  -- the node is not there: its family has no number
  pub absent-family : ((i : ℕ) → i < length ns → get_or ns i blank ≡ x → ⊥)
      → (k : ℕ) → k < suc (suc (length ns)) → family ns k ≡ fork x.label (family ns x.hi) (family ns x.lo) → ⊥
  absent-family fresh k h e =
      let m : Nodes K (ns ++ (x ∷ [])) = nodes-append K ns x n f fresh in
      let l : length (ns ++ (x ∷ [])) ≡ suc (length ns) = omega (arith, length-append ns (x ∷ [])) in
      let z : k ≡ suc (suc (length ns)) =
      canonical m k (suc (suc (length ns))) (omega arith) (omega arith) (family-append ns (x ∷ []) k h ∙ e ∙ sym (family_new ns x)) in
      omega arith

  pub short-made : ((i : ℕ) → i < length ns → get_or ns i blank ≡ x → ⊥) → Short ns (fork x.label (family ns x.hi) (family ns x.lo))
  short-made fresh = record { lacking = fork x.label (family ns x.hi) (family ns x.lo); branch = fine_branch; absent = absent-family fresh }

-- ---- short: how it is kept

pub short_under : {ns : List Node} {F G : Family} → Short ns G → Under G F → Short ns F
short_under s u = record { lacking = s.lacking; branch = u.each s.lacking s.branch; absent = s.absent }

pub short-same : {ns ns' : List Node} {F : Family} → ns' ≡ ns → Short ns F → Short ns' F
short-same {ns} {ns'} {F} e s = subst⁻¹ (λ (l : List Node). Short l F) e s

-- ---- the counts

-- f 0 .. f (n-1), the last first
listing : (ℕ → Family) → ℕ → List Family
listing f zero = []
listing f (suc n) = f n ∷ listing f n

in_listing : (f : ℕ → Family) (n : ℕ) (G : Family) → G ∈ listing f n → (i : ℕ) × (i < n) × (G ≡ f i)
unfolding listing
in_listing f zero G m = absurd (Memᴰ.not-nil m)
in_listing f (suc n) G m = go (in_listing f n G) (Memᴰ.cases_cons m)
  where
    go : (G ∈ listing f n → (i : ℕ) × (i < n) × (G ≡ f i)) → (G ≡ f n) ⊎ (G ∈ listing f n) → (i : ℕ) × (i < suc n) × (G ≡ f i)
    go ih (inl e) = (n, omega arith, e)
    go ih (inr k) = let t = ih k in (t.0, omega (arith, t.1), t.2)

length-listing : (f : ℕ → Family) (n : ℕ) → length (listing f n) ≡ n
unfolding listing
length-listing f zero = refl
length-listing f (suc n) = ap suc (length-listing f n)

listing_distinct : (f : ℕ → Family) (n : ℕ) → ((i k : ℕ) → i < n → k < n → f i ≡ f k → i ≡ k) → Distinct (listing f n)
unfolding listing
listing_distinct f zero h = tt
listing_distinct f (suc n) h = (
  λ m. let t = in_listing f n (f n) m in let e : n ≡ t.0 = h n t.0 (omega arith) (omega (arith, t.1)) t.2 in omega (arith, t.1),
  listing_distinct f n (λ i k a b e. h i k (omega arith) (omega arith) e),
)

-- a table that is short of F lacks something for F
pub short-missing : {ns : List Node} {F : Family} → Short ns F → 0 < missing ns F
short-missing {ns} {F} s =
    fewer ns [] F tt (λ G m. absurd (Memᴰ.not-nil m)) (λ G m. absurd (Memᴰ.not-nil m)) s.lacking s.branch
    (λ m. let t = number_of ns s.lacking m in s.absent t.0 t.1 (sym t.2))
    (λ m. Memᴰ.not-nil m)

module _ {K : List ℕ} {ns ns' : List Node} {F : Family} (n : Nodes K ns') (w : Nowaste ns ns' F) where
  at : ℕ → Family
  at i = family ns' (suc (suc (length ns)) + i)

  added : List Family
  added = listing at (length w.new)

  added_in : (G : Family) → G ∈ added → (k : ℕ) × (suc (suc (length ns)) ≤ k) × (k < suc (suc (length ns'))) × (G ≡ family ns' k)
  unfolding added at
  added_in G m =
      let t = in_listing at (length w.new) G m in
      (suc (suc (length ns)) + t.0, omega arith, omega (arith, t.1, nowaste_length w), t.2)

  added_distinct : Distinct added
  unfolding added at
  added_distinct =
      listing_distinct at (length w.new) (λ i k a b e.
      let l : length ns' ≡ length ns + length w.new = nowaste_length w in
      let q : suc (suc (length ns)) + i ≡ suc (suc (length ns)) + k =
      canonical n (suc (suc (length ns)) + i) (suc (suc (length ns)) + k) (omega arith) (omega arith) e in
      omega arith)

  -- an old number's family is not among the new ones'
  added_new : (G : Family) → G ∈ added → G ∈ families ns → ⊥
  added_new G m c =
      let t = added_in G m in
      let u = number_of ns G c in
      let l : length ns' ≡ length ns + length w.new = nowaste_length w in
      let q : t.0 ≡ u.0 = canonical n t.0 u.0 t.2 (omega (arith, u.1)) (sym t.3 ∙ u.2 ∙ sym (nowaste_keeps w u.0 u.1)) in
      omega (arith, t.1, u.1)

  added_under : (G : Family) → G ∈ added → G ∈ branches F
  added_under G m = let t = added_in G m in subst⁻¹ (λ (H : Family). H ∈ branches F) t.3 (w.needed t.0 t.1 t.2)

  known_more : (G : Family) → G ∈ families ns → G ∈ families ns'
  known_more G m =
      let r = families-append ns w.new in
      subst⁻¹ (λ (l : List Node). G ∈ families l) w.grown (subst⁻¹ (λ (l : List Family). G ∈ l) r.1 (Memᴰ.append_left r.0 m))

  -- THEOREM: the nodes made, and what a family under F still lacks, are no more than F lacked
  pub still : {G : Family} → Under G F → length w.new + missing ns' G ≤ missing ns F
  unfolding missing added
  still {G} u =
      let l : length (added ++ rest) ≡ length w.new + length rest = length-append added rest ∙ ap (λ (k : ℕ). k + length rest) (length-listing at (length w.new)) in
      subst (λ (k : ℕ). k ≤ missing ns F) l
      (at_most ns (added ++ rest) F
      (distinct_append added rest added_distinct (fresh_distinct (branches G) (families ns')) (λ H a r.
      let t = added_in H a in
      (s H r).1 (Memᴰ.cast t.3 (number_in ns' t.0 t.2))))
      (λ H m. ⊎_elim (added_new H) (λ r c. (s H r).1 (known_more H c)) (Memᴰ.append_cases added m))
      (λ H m. ⊎_elim (added_under H) (λ r. u.each H (s H r).0) (Memᴰ.append_cases added m)))
    where
      rest : List Family
      rest = fresh (families ns') (branches G)

      s : (H : Family) → H ∈ fresh (families ns') (branches G) → (H ∈ branches G) × (H ∈ families ns' → ⊥)
      s H m = fresh_sound (branches G) (families ns') H m

  -- THEOREM: no more nodes are made than were missing
  pub made_at_most : length w.new ≤ missing ns F
  made_at_most = omega (arith, still (under_self F))

  -- THEOREM: as many, where F has a number
  pub made_exactly : (a : ℕ) → a < suc (suc (length ns')) → family ns' a ≡ F → length w.new ≡ missing ns F
  made_exactly a h e = le_antisymm made_at_most least
    where
      least : missing ns F ≤ length w.new
      least =
          subst (λ (G : Family). missing ns G ≤ length w.new) (ap (λ (l : List Node). family l a) (sym w.grown) ∙ e)
          (least_growth ns w.new (subst (λ (l : List Node). Nodes K l) w.grown n) a (subst (λ (l : List Node). a < suc (suc (length l))) w.grown h))

  -- THEOREM: fewer, where the table is still short of F
  pub made_fewer : Short ns' F → length w.new < missing ns F
  made_fewer s = omega (arith, still (under_self F), short-missing s)
