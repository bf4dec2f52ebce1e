-- Theorems about the statement alone.
pub mod FirstOf
pub mod Results
pub mod Admission
pub mod TestLaws
pub mod Overlaps
pub mod Kept
pub mod Made
pub mod Joins
pub mod Determined
pub mod Undo
pub mod Measure
pub mod Counts
pub mod Least
pub mod Closest
pub mod HalfWords
pub mod PlainOrder
pub mod NoneOptional
pub mod Withdrawals
pub mod Sayable
pub mod Full
pub mod Kiosk
mod Examples
