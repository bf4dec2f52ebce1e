-- The kiosk's triples as the nodes of a table, and what the functions on words leave.
pub mod Triples
pub mod Flat
