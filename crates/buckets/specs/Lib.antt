-- What the contracts over a bucket index cite.
pub mod Chain
