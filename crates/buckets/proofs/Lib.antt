-- Laws of the bucket index.
pub mod ChainLaws
