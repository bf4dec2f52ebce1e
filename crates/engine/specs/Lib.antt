-- What the engine's inner functions cite. The public calls cite `statement`.
pub mod Opened
pub mod Reports
pub mod Withdrawing
