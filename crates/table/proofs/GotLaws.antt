-- What find-or-make gives is got (`zdd`'s `Got`). Assumes nothing.
use mathlib.Core.Path.{◌≡◌, subst⁻¹}
use mathlib.Core.Bool.{Bool, true, false}
use mathlib.Core.List.{List}
use Prim.Native.Nat.{ℕ}
use lib.Dec.{eqb}
use borrow.Author.Tests.{eqb-true, eqb-false}
use Rattle.zdd.specs.Table.{Node, Family, fork, capacity, nodes_of, family}
use Rattle.zdd.specs.Work.{Got}
use Rattle.base.proofs.Bools.{by_test}
use Rattle.table.specs.State.{Made}

-- THEOREM: what find-or-make gives is got; the flag goes up where it gives 0
pub made_got : {K t t' index' : List ℕ} {x : Node} {r : ℕ} → Made K t t' index' x r → (c : ℕ) → c ≡ capacity t
    → Got K c (nodes_of t) false r (nodes_of t') (eqb r 0) (fork x.label (family (nodes_of t) x.hi) (family (nodes_of t) x.lo))
made_got {K} {t} {t'} {index'} {x} {r} m c e = subst⁻¹ (λ (d : ℕ). Got K d (nodes_of t) false r (nodes_of t') (eqb r 0) F) e (by_test (eqb r 0) none some)
  where
    F : Family
    F = fork x.label (family (nodes_of t) x.hi) (family (nodes_of t) x.lo)

    none : eqb r 0 ≡ true → Got K (capacity t) (nodes_of t) false r (nodes_of t') (eqb r 0) F
    none z =
        let q : r ≡ 0 = eqb-true r 0 z in
        subst⁻¹ (λ (b : Bool). Got K (capacity t) (nodes_of t) false r (nodes_of t') b F) z
        (subst⁻¹ (λ (k : ℕ). Got K (capacity t) (nodes_of t) false k (nodes_of t') true F) q (m.gained.full q))

    some : eqb r 0 ≡ false → Got K (capacity t) (nodes_of t) false r (nodes_of t') (eqb r 0) F
    some z = subst⁻¹ (λ (b : Bool). Got K (capacity t) (nodes_of t) false r (nodes_of t') b F) z (m.gained.got (eqb-false r 0 z))
