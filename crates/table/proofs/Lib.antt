-- What the proofs of several functions use.
pub mod IndexLaws
pub mod Walk
pub mod GrownLaws
pub mod CheckLaws
pub mod UniqueLaws
pub mod RollLaws
pub mod GotLaws
