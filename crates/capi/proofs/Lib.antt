-- Laws of the border between the engine's answers and the C structs.
pub mod Border
