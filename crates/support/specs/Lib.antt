-- What the contracts of support cite.
pub mod Support
