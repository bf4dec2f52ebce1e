-- The bytes of a file of given contents (`Writing`), and what the converters promise (`Contract`).
pub mod Writing
pub mod Contract
