use native.Mathlib.Omega.{arith}
use borrow.Author.Tests.{leb-true, leb-false}
use Rattle.query.proofs.WeightWords.{hi-ready, lo-ready, choose}
use Rattle.query.proofs.takes_hi.Goals as goal

pub weight_hi-requires-clause-k_in_bounds : goal.weight_hi-requires-clause-k_in_bounds
weight_hi-requires-clause-k_in_bounds c = (hi-ready c.requires.weighable c.requires.lt_k c.requires.filled (λ p. omega (arith, c.shared_slice_known-1.given p))).1.0

pub weight_hi-requires-clause-k_bound : goal.weight_hi-requires-clause-k_bound
weight_hi-requires-clause-k_bound c = (hi-ready c.requires.weighable c.requires.lt_k c.requires.filled (λ p. omega (arith, c.shared_slice_known-1.given p))).1.1

pub weight_lo-requires-clause-k_in_bounds : goal.weight_lo-requires-clause-k_in_bounds
weight_lo-requires-clause-k_in_bounds c = (lo-ready c.requires.weighable c.requires.lt_k c.requires.filled (λ p. omega (arith, c.shared_slice_known-1.given p))).1.0

pub weight_lo-requires-clause-k_bound : goal.weight_lo-requires-clause-k_bound
weight_lo-requires-clause-k_bound c = (lo-ready c.requires.weighable c.requires.lt_k c.requires.filled (λ p. omega (arith, c.shared_slice_known-1.given p))).1.1

pub returns : goal.returns
returns c = choose c.requires.weighable c.requires.lt_k c.requires.filled (λ p. omega (arith, c.shared_slice_known-1.given p)) c.weight_hi.ensures c.weight_lo.ensures (λ e. leb-true _ _
    e) (λ e. leb-false _ _ e)
