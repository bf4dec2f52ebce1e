use Rattle.std.specs.List.{fold}
use Rattle.std.proofs.Common.{rules, ◌≡◌, bit_or}
use Rattle.table.proofs.CheckLaws.{all_zeros}
use Rattle.table.proofs.zeros.Goals as goal

pub returns : goal.returns
returns c = let e : c.fold.result ≡ fold bit_or 0 c.args.words.now = search rules in rw e (all_zeros c.args.words.now)
