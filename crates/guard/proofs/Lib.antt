-- Laws of the first refusals, for the public calls.
pub mod GuardLaws
