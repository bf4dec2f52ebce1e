-- What a result's refusal says of the result: each refusal has a number above 0. Assumes nothing.
use mathlib.Core.Path.{◌≡◌, refl, sym, ap, ◌∙◌}
use Prim.Native.Nat.{◌<◌}
use native.Mathlib.Omega.{arith}
use Rattle.std.specs.Prelude.{Ok, Err, IsErrAnd, Option, Some, None}
use Rattle.std.specs.Option.{ok_or}
use Rattle.std.specs.declared.result.Result.{Result}
use Rattle.statement.specs.declared.Refusal.{Refusal}
use Rattle.statement.specs.declared.Refusal.TheVariants.{Oversize, Stray, CostList, Spoilt, UnknownAnswer, UnknownPackage, UnknownItem, ShortWork, Spent, Full}
use Rattle.statement.specs.declared.Refusal.TheVariants.{Uncountable, PastTheEnd, Nothing, Absent, ShortPage, StrayOptional, AllOptional, Disordered, Overlap, NotRising}
use Rattle.statement.specs.declared.Refusal.TheVariants.{Cut, Mark, Version, Check, Size, SchoolTwice, StrayPackage, PackageTwice, StraySlot, WideSite, OptionalSlots}
use Rattle.statement.specs.Replies.{Reply, refused, number_of, refusal_of}

pub positive : (e : Refusal) → 0 < number_of e
positive Oversize = omega arith
positive Stray = omega arith
positive CostList = omega arith
positive Spoilt = omega arith
positive UnknownAnswer = omega arith
positive UnknownPackage = omega arith
positive UnknownItem = omega arith
positive ShortWork = omega arith
positive Spent = omega arith
positive Full = omega arith
positive Uncountable = omega arith
positive PastTheEnd = omega arith
positive Nothing = omega arith
positive Absent = omega arith
positive ShortPage = omega arith
positive Cut = omega arith
positive Mark = omega arith
positive Version = omega arith
positive Check = omega arith
positive Size = omega arith
positive SchoolTwice = omega arith
positive StrayPackage = omega arith
positive PackageTwice = omega arith
positive StrayOptional = omega arith
positive AllOptional = omega arith
positive StraySlot = omega arith
positive WideSite = omega arith
positive OptionalSlots = omega arith
positive Disordered = omega arith
positive Overlap = omega arith
positive NotRising = omega arith

module _ {A : Type 0} {r : Result A Refusal} where
  -- no refusal
  pub none_said : {v : A} → r ≡ Ok v → refusal_of r ≡ 0
  none_said q = ap refusal_of q

  -- a refusal, and its number
  pub said : {e : Refusal} → r ≡ Err e → refusal_of r ≡ number_of e
  said q = ap refusal_of q

  pub some_said : {e : Refusal} → r ≡ Err e → refusal_of r ≡ 0 → ⊥
  some_said {e} q z = omega (arith, positive e, said q, z)

-- ---- what `ok_or` makes of an option: the value, or the refusal x where there is none

-- the refusal of a result, or another where it has none
abbrev error_or : {A : Type 0} → Refusal → Result A Refusal → Refusal
error_or y (Ok v) = y
error_or y (Err e) = e

-- the value of a result, where it has one
abbrev value_in : {A : Type 0} → Result A Refusal → Option A
value_in (Ok v) = Some v
value_in (Err e) = None

pub was_none : {A : Type 0} (o : Option A) (x : Refusal) {e : Refusal} {r : Result A Refusal} → r ≡ ok_or o x → r ≡ Err e → (o ≡ None) × (e ≡ x)
was_none {A} (Some v) x {e} p q = let z : ◌≡◌ {A = Result A Refusal} (Ok v) (Err e) = sym p ∙ q in cc
was_none {A} None x {e} p q = (refl, ap (λ (y : Result A Refusal). error_or x y) (sym q ∙ p))

pub was_some : {A : Type 0} (o : Option A) (x : Refusal) {v : A} {r : Result A Refusal} → r ≡ ok_or o x → r ≡ Ok v → o ≡ Some v
was_some {A} (Some u) x p q = ap (λ (y : Result A Refusal). value_in y) (sym p ∙ q)
was_some {A} None x {v} p q = let z : ◌≡◌ {A = Result A Refusal} (Err x) (Ok v) = sym p ∙ q in cc

-- ---- what `?` returns: s, the refusal e of r once more

module _ {A : Type 0} (s : Result A Refusal) {B : Type 0} {r : Result B Refusal} {e : Refusal} (p : IsErrAnd s (λ y. y ≡ e)) (q : r ≡ Err e) where
  pub passed_up : refusal_of s ≡ refusal_of r
  passed_up = go s p ∙ sym (said q)
    where
      go : (s : Result A Refusal) → IsErrAnd s (λ y. y ≡ e) → refusal_of s ≡ number_of e
      go (Ok v) h = absurd h
      go (Err y) h = ap number_of h

  pub not_none : refusal_of s ≡ 0 → ⊥
  not_none z = some_said q (sym passed_up ∙ z)

  -- and what it says, by any way to read it that says an error's number
  pub reply_up : {C : Type 0} (f : Result A Refusal → Reply C) → ((y : Refusal) → f (Err y) ≡ refused (number_of y)) → f s ≡ refused (refusal_of r)
  reply_up f h = go s p ∙ ap refused (sym (said q))
    where
      go : (s : Result A Refusal) → IsErrAnd s (λ y. y ≡ e) → f s ≡ refused (number_of e)
      go (Ok v) k = absurd k
      go (Err y) k = h y ∙ ap (λ (x : Refusal). refused (number_of x)) k
