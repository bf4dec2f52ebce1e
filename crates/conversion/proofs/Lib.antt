-- The file of given contents (`Written`, `Restored`), from one layout to another (`Between`), the theorems on the two versions (`Conversions`); what was put into
-- the buffer (`Putting`), and what the converters refuse (`Answers`).
pub mod Written
pub mod Restored
pub mod Between
pub mod Conversions
pub mod Putting
pub mod Answers
pub mod Examples
