use native.Mathlib.Omega.{arith}
use Rattle.query.proofs.WeightWords.{hi-ready, lo-ready, word_of}
use Rattle.query.proofs.weight_word.Goals as goal

pub weight_hi-x-requires-clause-k_in_bounds : goal.weight_hi-x-requires-clause-k_in_bounds
weight_hi-x-requires-clause-k_in_bounds c = (hi-ready c.requires.weighable c.requires.lt_k c.requires.filled (λ p. omega (arith, c.shared_slice_known-1.given p))).1.0

pub weight_hi-x-requires-clause-k_bound : goal.weight_hi-x-requires-clause-k_bound
weight_hi-x-requires-clause-k_bound c = (hi-ready c.requires.weighable c.requires.lt_k c.requires.filled (λ p. omega (arith, c.shared_slice_known-1.given p))).1.1

pub weight_lo-y-requires-clause-k_in_bounds : goal.weight_lo-y-requires-clause-k_in_bounds
weight_lo-y-requires-clause-k_in_bounds c = (lo-ready c.requires.weighable c.requires.lt_k c.requires.filled (λ p. omega (arith, c.shared_slice_known-1.given p))).1.0

pub weight_lo-y-requires-clause-k_bound : goal.weight_lo-y-requires-clause-k_bound
weight_lo-y-requires-clause-k_bound c = (lo-ready c.requires.weighable c.requires.lt_k c.requires.filled (λ p. omega (arith, c.shared_slice_known-1.given p))).1.1

pub overflow_sub-result : goal.overflow_sub-result
overflow_sub-result c = omega (
  arith,
  word_of c.requires.weighable c.requires.lt_k c.requires.filled (λ p. omega (arith, c.shared_slice_known-1.given p)) c.weight_hi-x.ensures c.weight_lo-y.ensures c.min.ensures,
)

pub returns : goal.returns
returns c = omega (
  arith,
  word_of c.requires.weighable c.requires.lt_k c.requires.filled (λ p. omega (arith, c.shared_slice_known-1.given p)) c.weight_hi-x.ensures c.weight_lo-y.ensures c.min.ensures,
)
