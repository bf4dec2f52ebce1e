use Rattle.family.specs.Memo.{place_of}
use Rattle.family.proofs.MemoryLaws.{place-word}
use lib.ListN.{length}
use Rattle.std.proofs.Common.{Some}
use mathlib.Core.Path.{refl, sym, ap, ◌∙◌}
use native.Mathlib.Omega.{arith}
use Rattle.family.proofs.CombineLaws.{packed_small, ended_gives, ends_two, recalled_gives, hi-known, hi-none, hi-ready, lo-known, lo_may, lo-none, whole, last_none, last_noted}
use Prim.Native.Nat.{ℕ}
use Rattle.family.proofs.+combine.Goals as goal

pub returns-in-Some-clause-gives : goal.returns-in-Some-clause-gives
returns-in-Some-clause-gives t c = ended_gives c.requires.operable c.requires.f_bound c.requires.combinable c.in-Some.ensures

pub place-at-requires : goal.place-at-requires
place-at-requires t c = (packed_small c.pack-pair.ensures, c.requires.remembered.most)

pub recall-requires : goal.recall-requires
recall-requires t c = place-word (length c.args.memo.now) c.pack-pair.result c.place-at.result c.place-at.ensures (packed_small c.pack-pair.ensures)
    (omega (arith, c.requires.remembered.least))

pub returns-in-Some-recall-clause-gives : goal.returns-in-Some-recall-clause-gives
returns-in-Some-recall-clause-gives t c = recalled_gives c.requires.operable c.requires.f_bound c.requires.remembered c.pack-pair.ensures c.place-at.ensures c.in-Some-recall.ensures

pub cut-c-requires-clause-two : goal.cut-c-requires-clause-two
cut-c-requires-clause-two t c = ends_two c.requires.operable c.requires.f_bound c.requires.combinable c.in_default.ensures

pub combine-requires : goal.combine-requires
combine-requires t c = (
  omega (arith, c.decreases, c.cut-c.ensures.falls1),
  (c.requires.operable, (c.requires.remembered, (hi-known c.requires.operable c.cut-c.ensures, c.cut-c.ensures.hi_combinable))),
)

pub returns-in_err-h-clause-gives : goal.returns-in_err-h-clause-gives
returns-in_err-h-clause-gives t c = rw c.from_residual.ensures (hi-none c.args.op c.requires.operable c.requires.f_bound c.cut-c.ensures c.in_err-h.ensures.gives refl)

pub combine-requires-2 : goal.combine-requires-2
combine-requires-2 t c = let g1 = c.in_ok-h.ensures.gives in (
  omega (arith, c.decreases, c.cut-c.ensures.falls0),
  (
    hi-ready c.args.op c.requires.operable c.requires.f_bound c.cut-c.ensures g1.1,
    (
      c.in_ok-h.ensures.remembered_2,
      (
        lo-known c.args.op c.requires.operable c.requires.f_bound c.cut-c.ensures g1.1 g1.0,
        lo_may c.args.op c.requires.operable c.requires.f_bound c.cut-c.ensures g1.1 g1.0,
      ),
    ),
  ),
)

pub returns-in_err-l-clause-gives : goal.returns-in_err-l-clause-gives
returns-in_err-l-clause-gives t c = let g1 = c.in_ok-h.ensures.gives in
    rw c.from_residual-in_err-l.ensures (lo-none c.args.op c.requires.operable c.requires.f_bound c.cut-c.ensures g1.1 g1.0 c.in_err-l.ensures.gives refl)

pub returns-in_err-r-clause-gives : goal.returns-in_err-r-clause-gives
returns-in_err-r-clause-gives t c = let g1 = c.in_ok-h.ensures.gives in
    let g0 = c.in_ok-l.ensures.gives in
    rw c.from_residual-in_err-r.ensures (last_none c.args.op c.requires.operable c.requires.f_bound c.cut-c.ensures g1.1 g1.0 g0.1 g0.0 _ _ c.in_err-r.ensures)

pub remember-requires : goal.remember-requires
remember-requires t c = omega (
  arith,
  c.memo-1.given,
  c.memo-2-1.given,
  place-word (length c.args.memo.now) c.pack-pair.result c.place-at.result c.place-at.ensures (packed_small c.pack-pair.ensures) (omega (arith, c.requires.remembered.least)),
)

pub returns-clause-gives : goal.returns-clause-gives
returns-clause-gives t c = let g1 = c.in_ok-h.ensures.gives in
    let g0 = c.in_ok-l.ensures.gives in
    whole c.args.op c.requires.operable c.requires.f_bound c.cut-c.ensures g1.1 g1.0 g0.1 g0.0 _ _ (Some c.in_ok-r.r) c.in_ok-r.ensures

pub returns-clause-remembered_2 : goal.returns-clause-remembered_2
returns-clause-remembered_2 t c = let g1 = c.in_ok-h.ensures.gives in
    let g0 = c.in_ok-l.ensures.gives in
    last_noted c.args.op c.requires.operable c.requires.f_bound c.cut-c.ensures g1.1 g1.0 g0.1 g0.0 _ _ c.in_ok-r.ensures c.place-at.result c.pack-pair.ensures
    (c.place-at.ensures ∙ ap (λ (n : ℕ). place_of n c.pack-pair.result) (sym (c.memo-2-1.given ∙ c.memo-1.given)))
    c.in_ok-l.ensures.remembered_2 c.remember.ensures
