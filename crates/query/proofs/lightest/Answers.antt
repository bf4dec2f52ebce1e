use Rattle.query.proofs.WeightWords.{bounded, weight-at}
use native.Mathlib.Omega.{arith}
use mathlib.Core.Path.{◌∙◌}
use Rattle.query.proofs.lightest.Goals as goal

pub overflow_cast-x : goal.overflow_cast-x
overflow_cast-x c = let v = bounded c.requires.weighable (λ p. omega (arith, c.shared_slice_known-1.given p)) c.args.a c.requires.a_nonzero.0 c.requires.a_nonzero.1 in
    omega (arith, c.weigh.ensures.each c.args.a (omega arith), c.requires.weighable.table.sound.few, c.requires.a_nonzero.1)

pub returns : goal.returns
returns c = (
  c.write_lightest-m.ensures.0,
  c.weigh.ensures.each c.args.a (omega arith) ∙ weight-at c.args.weights.now c.args.scale c.args.t.now c.args.a c.requires.a_nonzero.0,
  c.write_lightest-m.ensures.1,
  c.write_lightest-m.ensures.2,
)
