-- The operations on families: each is a filter of all sets, by membership in the operands' families. K has the labels' keys. Assumes nothing.
use Rattle.std.specs.Prelude.{◌≡◌, Bool, true, not, ◌&&◌, ◌||◌, List, [], ◌∷◌, ◌++◌, ℕ}
use Rattle.base.specs.Lists.{any}
use Rattle.zdd.specs.Table.{Family, sets, elem, has, filter}

-- the sets that pass `op` of membership in F and in G
unfoldable pub combine : (Bool → Bool → Bool) → List ℕ → Family → Family → Family
combine op K F G = filter (λ t. op (elem t F) (elem t G)) (sets K)

abbrev pub minus : Bool → Bool → Bool
minus a b = a && not b

-- [document 01: either]
abbrev pub union : List ℕ → Family → Family → Family
union K F G = combine ◌||◌ K F G

-- [document 01: both]
abbrev pub inter : List ℕ → Family → Family → Family
inter K F G = combine ◌&&◌ K F G

-- [document 01: only]
abbrev pub differ : List ℕ → Family → Family → Family
differ K F G = combine minus K F G

-- those of F that hold p [document 01: with p]
unfoldable pub including : List ℕ → ℕ → Family → Family
including K p F = filter (λ t. elem t F && has p t) (sets K)

-- those of F that do not [document 01: without p]
unfoldable pub excluding : List ℕ → ℕ → Family → Family
excluding K p F = filter (λ t. elem t F && not (has p t)) (sets K)

-- ---- join

-- every label of s is in t
unfoldable pub within : List ℕ → List ℕ → Bool
within [] t = true
within (p ∷ s) t = has p t && within s t

-- s is the union of u and v: it has the labels of both, and no others
unfoldable pub is_union : List ℕ → List ℕ → List ℕ → Bool
unfolding within
is_union u v s = within u s && (within v s && within s (u ++ v))

-- of all sets, one that passes X and one that passes Y have the union s
unfoldable pub unites : List ℕ → (List ℕ → Bool) → (List ℕ → Bool) → List ℕ → Bool
unfolding any is_union
unites K X Y s = any (λ u. X u && any (λ v. Y v && is_union u v s) (sets K)) (sets K)

-- every union of a set of F and one of G [document 02, No. 5: join]: the join of two families (Knuth, The Art of Computer Programming, 7.1.4)
unfoldable pub join : List ℕ → Family → Family → Family
unfolding unites
join K F G = filter (unites K (λ u. elem u F) (λ v. elem v G)) (sets K)

-- no label is in a set of F and in one of G
pub record Apart (F G : Family) : Type 0 where
  pub clash : (u v : List ℕ) → elem u F ≡ true → elem v G ≡ true → (p : ℕ) → has p u ≡ true → has p v ≡ true → ⊥
