pub mod Putting
pub mod Asking
pub mod Sheets
pub mod Room
pub mod Prefix
pub mod Places
pub mod Refusals
