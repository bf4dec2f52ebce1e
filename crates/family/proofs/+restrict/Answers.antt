use Rattle.family.proofs.RestrictLaws.{open_of, soon_gives, hi_falls, lo_falls, hi-below, own_gives, own-kept, hi-none, hi-ready, lo-below, lo-none, whole, last_none, last_kept, last_stored}
use Rattle.std.proofs.Common.{Some}
use mathlib.Core.Path.{refl}
use native.Mathlib.Omega.{arith}
use Rattle.family.proofs.+restrict.Goals as goal

pub returns-in-Some-clause-gives : goal.returns-in-Some-clause-gives
returns-in-Some-clause-gives t c = soon_gives _ _ _ _ c.requires.operable c.in-Some.ensures

pub returns-then-label-p-clause-gives : goal.returns-then-label-p-clause-gives
returns-then-label-p-clause-gives t c = own_gives (open_of c.requires.operable c.requires.kept c.requires.f_bound c.in_default.ensures) _ _ _ c.if-label-p.true c.make.ensures

pub returns-then-label-p-clause-kept_2 : goal.returns-then-label-p-clause-kept_2
returns-then-label-p-clause-kept_2 t c = own-kept (open_of c.requires.operable c.requires.kept c.requires.f_bound c.in_default.ensures) _ _ _ c.if-label-p.true c.make.ensures

pub restrict-requires : goal.restrict-requires
restrict-requires t c = let o = open_of c.requires.operable c.requires.kept c.requires.f_bound c.in_default.ensures in
    (omega (arith, c.decreases, hi_falls o), (c.requires.operable, (c.requires.kept, ((hi-below o, c.requires.f_bound.1), c.requires.q_bound))))

pub returns-in_err-h-clause-gives : goal.returns-in_err-h-clause-gives
returns-in_err-h-clause-gives t c =
    rw c.from_residual.ensures (hi-none (open_of c.requires.operable c.requires.kept c.requires.f_bound c.in_default.ensures) c.if-label-p.false c.in_err-h.ensures.gives refl)

pub restrict-requires-2 : goal.restrict-requires-2
restrict-requires-2 t c = let o = open_of c.requires.operable c.requires.kept c.requires.f_bound c.in_default.ensures in
    let g1 = c.in_ok-h.ensures.gives in
    let below = lo-below o c.if-label-p.false g1.1 g1.0 in (
      omega (arith, c.decreases, lo_falls o),
      (hi-ready o c.if-label-p.false g1.1, (c.in_ok-h.ensures.kept_2, ((below, c.requires.f_bound.1), c.requires.q_bound))),
    )

pub returns-in_err-l-clause-gives : goal.returns-in_err-l-clause-gives
returns-in_err-l-clause-gives t c = let g1 = c.in_ok-h.ensures.gives in
    rw c.from_residual-in_err-l.ensures (lo-none (open_of c.requires.operable c.requires.kept c.requires.f_bound c.in_default.ensures) c.if-label-p.false g1.1 g1.0 c.in_err-l.ensures.gives refl)

pub returns-in_err-r-clause-gives : goal.returns-in_err-r-clause-gives
returns-in_err-r-clause-gives t c = let g1 = c.in_ok-h.ensures.gives in
    let g0 = c.in_ok-l.ensures.gives in
    rw c.from_residual-in_err-r.ensures (last_none (open_of c.requires.operable c.requires.kept c.requires.f_bound c.in_default.ensures) c.if-label-p.false g1.1 g1.0 g0.1 g0.0 _ _ c.in_err-r.ensures)

pub returns-then-r-lt65535-clause-gives : goal.returns-then-r-lt65535-clause-gives
returns-then-r-lt65535-clause-gives t c = let g1 = c.in_ok-h.ensures.gives in
    let g0 = c.in_ok-l.ensures.gives in
    whole (open_of c.requires.operable c.requires.kept c.requires.f_bound c.in_default.ensures) c.if-label-p.false g1.1 g1.0 g0.1 g0.0 _ _ (Some c.in_ok-r.r) c.in_ok-r.ensures

pub returns-then-r-lt65535-clause-kept_2 : goal.returns-then-r-lt65535-clause-kept_2
returns-then-r-lt65535-clause-kept_2 t c = let g1 = c.in_ok-h.ensures.gives in
    let g0 = c.in_ok-l.ensures.gives in
    last_stored (open_of c.requires.operable c.requires.kept c.requires.f_bound c.in_default.ensures) c.if-label-p.false g1.1 g1.0 g0.1 g0.0 _ _ c.in_ok-r.ensures c.in_ok-l.ensures.kept_2

pub returns-else-r-lt65535-clause-gives : goal.returns-else-r-lt65535-clause-gives
returns-else-r-lt65535-clause-gives t c = let g1 = c.in_ok-h.ensures.gives in
    let g0 = c.in_ok-l.ensures.gives in
    whole (open_of c.requires.operable c.requires.kept c.requires.f_bound c.in_default.ensures) c.if-label-p.false g1.1 g1.0 g0.1 g0.0 _ _ (Some c.in_ok-r.r) c.in_ok-r.ensures

pub returns-else-r-lt65535-clause-kept_2 : goal.returns-else-r-lt65535-clause-kept_2
returns-else-r-lt65535-clause-kept_2 t c = let g1 = c.in_ok-h.ensures.gives in
    let g0 = c.in_ok-l.ensures.gives in
    last_kept (open_of c.requires.operable c.requires.kept c.requires.f_bound c.in_default.ensures) c.if-label-p.false g1.1 g1.0 g0.1 g0.0 _ _ c.in_ok-r.ensures c.in_ok-l.ensures.kept_2
