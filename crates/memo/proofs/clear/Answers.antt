use Rattle.memo.proofs.Storing.{cleared_places}
use Rattle.memo.proofs.clear.Goals as goal

pub returns : goal.returns
returns c = cleared_places c.args.places c.args.memo.now _ (c.requires) c.clear.ensures
