-- What the memo holds stays so when the table grows and when an answer is stored. Assumes nothing.
use mathlib.Core.Path.{◌≡◌, sym, ap, ◌∙◌}
use mathlib.Core.Bool.{Bool, false}
use mathlib.Core.List.{List}
use Prim.Native.Nat.{ℕ, ◌+◌, ◌<◌}
use native.Mathlib.Omega.{arith}
use native.Mathlib.Decide.{ℕ_discrete}
use Rattle.memo.specs.Memo.{key_at, number_at, Stored}
use Rattle.zdd.specs.Table.{count, nodes_of, family}
use Rattle.exact_cover.specs.Problem.{Problem}
use Rattle.exact_cover.specs.Cover.{covering}
use Rattle.table.specs.State.{Grown}
use Rattle.table.proofs.GrownLaws.{grown_more, grown_family}
use Rattle.compile.specs.State.{Held}

pub held_grown : {Q : Problem} {K t t' memo : List ℕ} {P : ℕ} {b b' : Bool} → Grown K t t' → (b' ≡ false → b ≡ false) → Held Q P t memo b → Held Q P t' memo b'
held_grown {Q} {K} {t} {t'} {memo} {P} g f h = record {
  some = h.some;
  long = h.long;
  values = λ j l. omega (arith, h.values j l, grown_more g);
  right = λ e j l k. grown_family g (number_at memo j) (h.values j l) ∙ h.right (f e) j l k;
}

pub held_store : {Q : Problem} {t memo memo' : List ℕ} {P : ℕ} {b : Bool} (A a j : ℕ) → a < count t + 2 → (b ≡ false → family (nodes_of t) a ≡ covering Q A)
    → Stored P memo j A a memo' → Held Q P t memo b → Held Q P t memo' b
held_store {Q} {t} {memo} {memo'} {P} {b} A a j known ex s h = record {
  some = h.some;
  long = omega (arith, s.same, h.long);
  values = λ i l. value i l (ℕ_discrete i j);
  right = λ e i l k. right e i l k (ℕ_discrete i j);
}
  where
    number_same : (i : ℕ) → i ≡ j → number_at memo' i ≡ a
    number_same i e = ap (number_at memo') e ∙ s.number

    key-same : (i : ℕ) → i ≡ j → key_at P memo' i ≡ A
    key-same i e = ap (key_at P memo') e ∙ s.key

    value : (i : ℕ) → i < P → Dec (i ≡ j) → number_at memo' i < count t + 2
    value i l (yes e) = rw (number_same i e) known
    value i l (no f) = rw (s.other_number i l f) (h.values i l)

    right : b ≡ false → (i : ℕ) → i < P → 0 < key_at P memo' i → Dec (i ≡ j) → family (nodes_of t) (number_at memo' i) ≡ covering Q (key_at P memo' i)
    right z i l k (yes e) = ap (family (nodes_of t)) (number_same i e) ∙ ex z ∙ ap (covering Q) (sym (key-same i e))
    right z i l k (no f) =
        ap (family (nodes_of t)) (s.other_number i l f) ∙ h.right z i l (omega (arith, s.other_key i l f)) ∙ ap (covering Q) (sym (s.other_key i l f))
