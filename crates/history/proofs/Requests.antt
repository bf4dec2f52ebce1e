-- The words of a call, and the tests that let it be run: laws over plain lists. Assumes nothing.
use mathlib.Core.Path.{◌≡◌, refl, sym, ap, ap₂, ◌∙◌, subst}
use mathlib.Core.Logic.{◌⊎◌, inl, inr, ⊎_elim}
use mathlib.Core.Bool.{Bool, true, false, cond, ◌&&◌, ◌||◌}
use mathlib.Core.List.Memᴰ
use mathlib.Core.List.{List, [], ◌∷◌}
use Prim.Native.Nat.{ℕ, zero, suc, ◌/◌, ◌≤◌, ◌<◌}
use native.Mathlib.Omega.{arith}
use lib.Dec.{eqb, leb, ltb}
use lib.ListN.{length}
use borrow.Author.Tests.{ltb-true, leb-true, eqb-true, eq-eqb, ne_eqb}
use Rattle.base.proofs.Bools.{and_left, and_right, or_left, or_right, or_cases}
use Rattle.itemset.specs.declared.Items.{Items}
use Rattle.zdd.specs.Table.{◌∈◌}
use Rattle.statement.specs.Replies.{Report}
use Rattle.history.specs.declared.Request.{Request}
use Rattle.exact_cover.specs.Problem.{Problem}
use Rattle.statement.specs.declared.Call.{Call}
use Rattle.statement.specs.declared.Call.TheVariants.{Join}
use Rattle.statement.specs.Calls.{operands}
use Rattle.history.specs.Histories.{entry, Step}
use Rattle.history.specs.Script.{call_of, request_entry, request_at, call_at, narrow, possible, every, runs}

-- ---- tests one after the other

pub stop : {a : Bool} (b : Bool) → a ≡ false → false ≡ (a && b)
stop b e = sym (ap (λ (x : Bool). x && b) e)

pub goes : {a r : Bool} (b : Bool) → a ≡ true → r ≡ b → r ≡ (a && b)
goes b e q = q ∙ sym (ap (λ (x : Bool). x && b) e)

pub or_skip : {a : Bool} (b : Bool) → a ≡ false → b ≡ (a || b)
or_skip b e = sym (ap (λ (x : Bool). x || b) e)

-- ---- the call of seven words

pub call_last : (kind : ℕ) (x : Items) (y : ℕ) → (kind ≡ 0 → ⊥) → (kind ≡ 1 → ⊥) → (kind ≡ 2 → ⊥) → (kind ≡ 3 → ⊥) → (kind ≡ 4 → ⊥) → (kind ≡ 5 → ⊥)
    → call_of kind x y ≡ Join x.w0 y
call_last zero x y n0 n1 n2 n3 n4 n5 = absurd (n0 refl)
call_last (suc zero) x y n0 n1 n2 n3 n4 n5 = absurd (n1 refl)
call_last (suc (suc zero)) x y n0 n1 n2 n3 n4 n5 = absurd (n2 refl)
call_last (suc (suc (suc zero))) x y n0 n1 n2 n3 n4 n5 = absurd (n3 refl)
call_last (suc (suc (suc (suc zero)))) x y n0 n1 n2 n3 n4 n5 = absurd (n4 refl)
call_last (suc (suc (suc (suc (suc zero))))) x y n0 n1 n2 n3 n4 n5 = absurd (n5 refl)
call_last (suc (suc (suc (suc (suc (suc k)))))) x y n0 n1 n2 n3 n4 n5 = refl

-- what a request that possible has
pub record Fitting (room : ℕ) (q : Request) : Type 0 where
  pub items : q.m < 4294967296
  pub second : q.y < 4294967296
  pub room_for : q.words ≤ room
  pub first : 0 < q.kind → q.x.w0 < 4294967296

pub fitting : (room : ℕ) (q : Request) → possible room q ≡ true → Fitting room q
unfolding possible
fitting room q e =
    let e1 = and_right (narrow q.m) _ e in
    let e2 = and_right (narrow q.y) _ e1 in
    let e3 = and_right (leb q.words room) _ e2 in
    record {
      items = ltb-true q.m 4294967296 (and_left (narrow q.m) _ e);
      second = ltb-true q.y 4294967296 (and_left (narrow q.y) _ e1);
      room_for = leb-true q.words room (and_left (leb q.words room) _ e2);
      first = λ h. ⊎_elim
          (λ (z : eqb q.kind 0 ≡ true). absurd (omega (arith, eqb-true q.kind 0 z)))
          (λ (l : narrow q.x.w0 ≡ true). ltb-true q.x.w0 4294967296 l)
          (or_cases (eqb q.kind 0) (narrow q.x.w0) e3);
    }

-- the call that a request asks is made of its words, and of as many working words as it says
pub step_request : (Q : Problem) (t : List ℕ) (q q' : Request) (c : Call) (n : ℕ) (r : Report) (t' : List ℕ) → q ≡ q' → n ≡ q.words
    → c ≡ call_of q.kind q.x q.y → Step Q t (entry q.m c n) r t' → Step Q t (request_entry q') r t'
step_request Q t q q' c n r t' e l d s =
    subst (λ (p : Request). Step Q t (request_entry p) r t') e
    (subst (λ (k : ℕ). Step Q t (entry q.m (call_of q.kind q.x q.y) k) r t') l (subst (λ (b : Call). Step Q t (entry q.m b n) r t') d s))

-- ---- the operands

and_true : (b : Bool) → (b && true) ≡ b
and_true true = refl
and_true false = refl

-- the second argument of the kind is a package: with, without
abbrev on_package : ℕ → Bool
on_package kind = eqb kind 4 || eqb kind 5

-- the operands' test, by the kind
pub every_operand : (P : ℕ → Bool) (kind : ℕ) (x : Items) (y : ℕ)
    → every P (operands (call_of kind x y)) ≡ cond (eqb kind 0) true (P x.w0 && (on_package kind || P y))
unfolding every
every_operand P zero x y = refl
every_operand P (suc zero) x y = ap (λ (b : Bool). P x.w0 && b) (and_true (P y))
every_operand P (suc (suc zero)) x y = ap (λ (b : Bool). P x.w0 && b) (and_true (P y))
every_operand P (suc (suc (suc zero))) x y = ap (λ (b : Bool). P x.w0 && b) (and_true (P y))
every_operand P (suc (suc (suc (suc zero)))) x y = refl
every_operand P (suc (suc (suc (suc (suc zero))))) x y = refl
every_operand P (suc (suc (suc (suc (suc (suc k)))))) x y =
    let kind : ℕ = suc (suc (suc (suc (suc (suc k))))) in
    ap (λ (b : Bool). P x.w0 && b) (and_true (P y))
    ∙ sym (ap₂ (λ (a b : Bool). cond a true (P x.w0 && (b || P y)))
    (ne_eqb kind 0 (λ z. omega arith)) (ap₂ ◌||◌ (ne_eqb kind 4 (λ z. omega arith)) (ne_eqb kind 5 (λ z. omega arith))))

pub every-same : (P R : ℕ → Bool) (l : List ℕ) → ((x : ℕ) → P x ≡ R x) → every P l ≡ every R l
unfolding every
every-same P R [] h = refl
every-same P R (x ∷ l) h = ap₂ ◌&&◌ (h x) (every-same P R l h)

pub every-at : (P : ℕ → Bool) (l : List ℕ) → every P l ≡ true → (x : ℕ) → x ∈ l → P x ≡ true
unfolding every
every-at P [] e x i = absurd (Memᴰ.not-nil i)
every-at P (y ∷ l) e x i = go (Memᴰ.cases_cons i) (every-at P l (and_right (P y) (every P l) e))
  where
    go : (x ≡ y) ⊎ (x ∈ l) → ((z : ℕ) → z ∈ l → P z ≡ true) → P x ≡ true
    go (inl q) f = ap P q ∙ and_left (P y) (every P l) e
    go (inr k) f = f x k

-- the same by the branches of the code

module _ (P : ℕ → Bool) (q : Request) where
  by_kind : every P (operands (request_entry q).call) ≡ cond (eqb q.kind 0) true (P q.x.w0 && (on_package q.kind || P q.y))
  by_kind = every_operand P q.kind q.x q.y

  pub no_operand : q.kind ≡ 0 → true ≡ every P (operands (request_entry q).call)
  no_operand e = sym (by_kind ∙ ap (λ (b : Bool). cond b true (P q.x.w0 && (on_package q.kind || P q.y))) (eq-eqb q.kind 0 e))

  module _ (some : q.kind ≡ 0 → ⊥) where
    by_first : every P (operands (request_entry q).call) ≡ (P q.x.w0 && (on_package q.kind || P q.y))
    by_first = by_kind ∙ ap (λ (b : Bool). cond b true (P q.x.w0 && (on_package q.kind || P q.y))) (ne_eqb q.kind 0 some)

    pub first_fails : P q.x.w0 ≡ false → false ≡ every P (operands (request_entry q).call)
    first_fails f = stop _ f ∙ sym by_first

    first-only : P q.x.w0 ≡ true → on_package q.kind ≡ true → true ≡ every P (operands (request_entry q).call)
    first-only f h = goes _ f (sym (or_left (on_package q.kind) (P q.y) h)) ∙ sym by_first

    pub with_package : P q.x.w0 ≡ true → q.kind ≡ 4 → true ≡ every P (operands (request_entry q).call)
    with_package f h = first-only f (or_left (eqb q.kind 4) (eqb q.kind 5) (eq-eqb q.kind 4 h))

    pub without_package : P q.x.w0 ≡ true → q.kind ≡ 5 → true ≡ every P (operands (request_entry q).call)
    without_package f h = first-only f (or_right (eqb q.kind 4) (eqb q.kind 5) (eq-eqb q.kind 5 h))

    pub then_second : P q.x.w0 ≡ true → (q.kind ≡ 4 → ⊥) → (q.kind ≡ 5 → ⊥) → P q.y ≡ every P (operands (request_entry q).call)
    then_second f h k = goes _ f (or_skip (P q.y) (ap₂ ◌||◌ (ne_eqb q.kind 4 h) (ne_eqb q.kind 5 k))) ∙ sym by_first

-- ---- the test of the next call

-- what a call that may be run has
pub record Runs (script : List ℕ) (places room i : ℕ) (P : ℕ → Bool) : Type 0 where
  pub there : i < length script / 7
  pub placed : i < places
  pub fit : possible room (request_at script i) ≡ true
  pub pass : every P (operands (call_at script i).call) ≡ true

pub may_run : (script : List ℕ) (places room i : ℕ) (P : ℕ → Bool) → runs script places room i P ≡ true → Runs script places room i P
unfolding runs
may_run script places room i P e =
    let e1 = and_right (ltb i (length script / 7)) _ e in
    let e2 = and_right (ltb i places) _ e1 in
    record {
      there = ltb-true i (length script / 7) (and_left (ltb i (length script / 7)) _ e);
      placed = ltb-true i places (and_left (ltb i places) _ e1);
      fit = and_left (possible room (request_at script i)) _ e2;
      pass = and_right (possible room (request_at script i)) _ e2;
    }

pub runs_same : (script : List ℕ) (places room i : ℕ) (P R : ℕ → Bool) → ((x : ℕ) → P x ≡ R x) → runs script places room i P ≡ runs script places room i R
unfolding runs
runs_same script places room i P R h =
    ap (λ (b : Bool). ltb i (length script / 7) && (ltb i places && (possible room (request_at script i) && b)))
    (every-same P R (operands (call_at script i).call) h)
