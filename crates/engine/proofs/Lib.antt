-- What the proofs of several calls use.
pub mod Delivery
pub mod Combining
pub mod Covering
pub mod Withdrawing
