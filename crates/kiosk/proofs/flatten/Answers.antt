use mathlib.Core.Path.{◌∙◌, ap}
use mathlib.Core.List.{List}
use Prim.Native.Nat.{ℕ}
use Rattle.kiosk.specs.Flat.{put3, none}
use lib.ListN.{get_or}
use Rattle.kiosk.proofs.Filled.{filled_none, filled_next}
use Rattle.kiosk.proofs.flatten.Goals as goal

pub loop-i-init : goal.loop-i-init
loop-i-init c = filled_none c.args.words.now c.args.nodes.now

pub loop-i-preserved : goal.loop-i-preserved
loop-i-preserved c = c.put.ensures
    ∙ ap (λ (t : List ℕ). put3 t c.loop-i.i (get_or c.args.nodes.now c.loop-i.i none)) c.loop-i.invariant
    ∙ filled_next c.args.words.now c.args.nodes.now c.loop-i.i
