-- Laws of support.
pub mod Marking
