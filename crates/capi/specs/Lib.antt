-- What the entries of the C interface cite.
pub mod Structs
