-- What the contracts of guard cite.
pub mod Admitted
