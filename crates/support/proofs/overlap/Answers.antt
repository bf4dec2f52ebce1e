use mathlib.Core.Path.{refl, ap, ◌∙◌}
use mathlib.Core.Bool.{not}
use Rattle.exact_cover.specs.Problem.{problem_of}
use Rattle.support.proofs.Marking.{supports_overlap}
use Rattle.support.proofs.overlap.Goals as goal

pub returns : goal.returns
returns c optional order = ap not c.apart.ensures
    ∙ supports_overlap (problem_of c.args.packages.now optional order) c.args.a c.args.b c.requires.labelled refl c.requires.a_bound c.support-x.ensures
    c.support-y.ensures
