use Rattle.query.proofs.CountWords.{word-zero, filled_none, filled_more}
use Rattle.query.specs.Reading.{count_word}
use native.Mathlib.Omega.{arith}
use mathlib.Core.Path.{sym}
use Rattle.query.proofs.counts.Goals as goal

pub loop-k-init : goal.loop-k-init
loop-k-init c = filled_more (count_word c.args.t.now) 0 c.args.work.now 0 (filled_none (count_word c.args.t.now) c.args.work.now) (omega arith) (sym (word-zero c.args.t.now))
