use Rattle.std.proofs.Common.{◌+◌, ◌*◌}
use Rattle.itemset.specs.Words.{value, value_of, sets_of}
use Rattle.exact_cover.specs.Positions.{in_plain_order}
use Rattle.compile.proofs.TurnLaws.{At, Turn}
use Rattle.compile.proofs.+search_trial.Given as goal

abbrev pub decreases-search : goal.decreases-search
decreases-search l = 2 * value l.items + 1

abbrev pub decreases-trial : goal.decreases-trial
decreases-trial l = 2 * value l.items

abbrev pub invariant-trial-loop-p : goal.invariant-trial-loop-p
invariant-trial-loop-p l =
    Turn (in_plain_order (sets_of l.packs) (value_of l.optional)) l.places l.homes l.at (value l.items) l.limit l.initial.t l.initial.memo l.initial.run.steps l.initial.run.full l.t l.index l.memo l.p l.run.answer l.run.steps l.run.full
    × At (in_plain_order (sets_of l.packs) (value_of l.optional)) (value l.items) l.p

abbrev pub decreases-trial-loop-p : goal.decreases-trial-loop-p
decreases-trial-loop-p l = l.p
