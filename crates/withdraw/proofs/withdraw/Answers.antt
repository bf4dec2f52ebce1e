use Rattle.withdraw.proofs.PassLaws.{fewer, finished}
use Rattle.withdraw.proofs.NameLaws.{struck_start}
use Rattle.table.proofs.RollLaws.{wiped}
use Rattle.zdd.specs.Table.{count}
use Rattle.std.proofs.Common.{rules, ◌+◌, ◌*◌, length}
use native.Mathlib.Omega.{arith}
use Rattle.withdraw.proofs.withdraw.Goals as goal

pub rename-requires-clause-struck : goal.rename-requires-clause-struck
rename-requires-clause-struck c = struck_start c.args.gone.now (length c.args.keys.now) 512 c.requires.keys_len_bound

pub slice_bounds-fill-count : goal.slice_bounds-fill-count
slice_bounds-fill-count c = omega (arith, fewer c.requires.sound c.pass.ensures)

pub slice_bounds-fill-start : goal.slice_bounds-fill-start
slice_bounds-fill-start c = omega (arith, fewer c.requires.sound c.pass.ensures, c.pass.ensures.long, c.requires.sound.room)

pub returns : goal.returns
returns c = λ K' h.
    let few = fewer c.requires.sound c.pass.ensures in
    let start = 3 * count c.pass.new.t + 1 in
    let end = 3 * count c.args.t.now + 1 in
    finished c.requires.sound c.pass.ensures c.mark.ensures c.requires.within_2
    (wiped c.pass.new.t _ start end (omega arith) (omega (arith, c.pass.ensures.long, c.requires.sound.room)) (search rules))
    c.replace.ensures K' h
