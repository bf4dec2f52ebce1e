use Rattle.withdraw.proofs.PassLaws.{Looping}
use Rattle.withdraw.proofs.pass.Given as goal

abbrev pub invariant-loop-i : goal.invariant-loop-i
invariant-loop-i l = Looping l.gone l.keys l.initial.t l.n l.initial.work l.i l.t l.index l.work
