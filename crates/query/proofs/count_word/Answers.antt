use Rattle.query.proofs.CountWords.{word_one, read-hi, read-both}
use Rattle.query.proofs.Parts.{parts}
use Rattle.query.specs.Reading.{count_word}
use native.Mathlib.Omega.{arith}
use mathlib.Core.Path.{sym, ap, ◌∙◌}
use Rattle.query.proofs.count_word.Goals as goal

pub returns-then-k-eq1 : goal.returns-then-k-eq1
returns-then-k-eq1 c = sym (ap (count_word c.args.t.now) c.if-k-eq1.true ∙ word_one c.args.t.now)

pub bounds-work-h : goal.bounds-work-h
bounds-work-h c = let P = parts c.requires.readable c.args.k (omega arith) c.requires.k_nonzero.1 in
    omega (arith, c.hi-h.ensures, P.hi-below, c.requires.filled.room)

pub bounds-work-l : goal.bounds-work-l
bounds-work-l c = let P = parts c.requires.readable c.args.k (omega arith) c.requires.k_nonzero.1 in
    omega (arith, c.lo-l.ensures, P.lo-below, c.requires.filled.room)

pub returns-then-l-eq0 : goal.returns-then-l-eq0
returns-then-l-eq0 c = read-hi c.requires.readable c.args.k (omega arith) c.requires.k_nonzero.1 c.args.work.now c.requires.filled
    c.hi-h.result c.lo-l.result c.hi-h.ensures c.lo-l.ensures c.if-l-eq0.true

pub returns : goal.returns
returns c = read-both c.requires.readable c.args.k (omega arith) c.requires.k_nonzero.1 c.args.work.now c.requires.filled
    c.hi-h.result c.lo-l.result c.plus.result c.hi-h.ensures c.lo-l.ensures (omega arith) c.plus.ensures
