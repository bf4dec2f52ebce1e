-- The node table over keys: what a reader must believe is `Table`, `Branches`, `Below`, `Operations` and `Withdrawal`; `ListingOrder` says what the order of a
-- listing is. `Work` is for the crates above.
pub mod Table
pub mod ListingOrder
pub mod Branches
pub mod Below
pub mod Operations
pub mod Withdrawal
pub mod Work
