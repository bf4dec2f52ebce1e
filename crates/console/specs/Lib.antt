-- What the program `convert` writes (`Turned`).
pub mod Turned
