-- Laws of `filter`. Assumes nothing.
use mathlib.Core.Path.{◌≡◌, refl, sym, ap, ◌∙◌, subst, fun_ext}
use mathlib.Core.Bool.{Bool, true, false}
use mathlib.Core.Logic.{⊎_elim}
use mathlib.Core.List.{List, [], ◌∷◌, ◌++◌, map, Memᴰ}
use Rattle.base.proofs.Bools.{by_test, clash}
use Rattle.zdd.specs.Table.{filter}

module _ {A : Type 0} (f : A → Bool) where
  pub filter_yes : (a : A) (l : List A) → f a ≡ true → filter f (a ∷ l) ≡ a ∷ filter f l
  unfolding filter
  filter_yes a l e = rw (e, filter)

  pub filter-not : (a : A) (l : List A) → f a ≡ false → filter f (a ∷ l) ≡ filter f l
  unfolding filter
  filter-not a l e = rw (e, filter)

  pub filter-nil : filter f [] ≡ []
  unfolding filter
  filter-nil = refl

  pub filter-append : (l r : List A) → filter f (l ++ r) ≡ filter f l ++ filter f r
  filter-append [] r = rw filter-nil
  filter-append (a ∷ l) r =
      by_test (f a)
      (λ t. filter_yes a (l ++ r) t ∙ ap (λ (x : List A). a ∷ x) (filter-append l r) ∙ ap (λ (x : List A). x ++ filter f r) (sym (filter_yes a l t)))
      (λ t. filter-not a (l ++ r) t ∙ filter-append l r ∙ ap (λ (x : List A). x ++ filter f r) (sym (filter-not a l t)))

  -- what is kept is in the list and passes
  pub filter_in : {a : A} (l : List A) → Memᴰ a (filter f l) → Memᴰ a l × (f a ≡ true)
  filter_in [] m = absurd (mathlib.Core.List.Memᴰ.not-nil (rw filter-nil at m))
  filter_in {a} (b ∷ l) m =
      by_test (f b)
      (λ t. ⊎_elim
      (λ (e : a ≡ b). (mathlib.Core.List.Memᴰ.head e, ap f e ∙ t))
      (λ (n : Memᴰ a (filter f l)). let r = filter_in l n in (mathlib.Core.List.Memᴰ.tail r.0, r.1))
      (mathlib.Core.List.Memᴰ.cases_cons (subst (Memᴰ a) (filter_yes b l t) m)))
      (λ t. let r = filter_in l (subst (Memᴰ a) (filter-not b l t) m) in (mathlib.Core.List.Memᴰ.tail r.0, r.1))

  pub in_filter : {a : A} (l : List A) → Memᴰ a l → f a ≡ true → Memᴰ a (filter f l)
  in_filter [] m h = absurd (mathlib.Core.List.Memᴰ.not-nil m)
  in_filter {a} (b ∷ l) m h =
      by_test (f b)
      (λ t. subst (Memᴰ a) (sym (filter_yes b l t))
      (⊎_elim (λ (e : a ≡ b). mathlib.Core.List.Memᴰ.head e) (λ (n : Memᴰ a l). mathlib.Core.List.Memᴰ.tail (in_filter l n h)) (mathlib.Core.List.Memᴰ.cases_cons m)))
      (λ t. subst (Memᴰ a) (sym (filter-not b l t))
      (⊎_elim (λ (e : a ≡ b). clash (f b) (sym (ap f e) ∙ h) t) (λ (n : Memᴰ a l). in_filter l n h) (mathlib.Core.List.Memᴰ.cases_cons m)))

pub filter_same : {A : Type 0} (f g : A → Bool) (l : List A) → ((a : A) → f a ≡ g a) → filter f l ≡ filter g l
filter_same {A} f g l h = ap (λ (t : A → Bool). filter t l) (fun_ext h)

pub filter_map : {A : Type 0} {B : Type 0} (g : A → B) (f : B → Bool) (l : List A) → filter f (map g l) ≡ map g (filter (λ (a : A). f (g a)) l)
unfolding filter
filter_map g f [] = refl
filter_map {A} {B} g f (a ∷ l) =
    by_test (f (g a))
    (λ t. rw t (ap (λ (x : List B). g a ∷ x) (filter_map g f l)))
    (λ t. rw t (filter_map g f l))

pub filter_swap : {A : Type 0} (f g : A → Bool) (l : List A) → filter f (filter g l) ≡ filter g (filter f l)
unfolding filter
filter_swap f g [] = refl
filter_swap {A} f g (a ∷ l) =
    by_test (f a)
    (λ t. by_test (g a) (λ u. rw (t, u, t) (ap (λ (x : List A). a ∷ x) (filter_swap f g l))) (λ u. rw (t, u) (filter_swap f g l)))
    (λ t. by_test (g a) (λ u. rw (t, u, t) (filter_swap f g l)) (λ u. rw (t, u) (filter_swap f g l)))
