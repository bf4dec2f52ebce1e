-- Laws of withdrawals, lowest first.
pub mod Steps
pub mod Finish
pub mod NameLaws
pub mod MarkLaws
pub mod PlaceLaws
pub mod PassLaws
