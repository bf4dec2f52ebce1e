-- What a bids file is (`Bytes`, `Ranges`, `Contents`, `Format`), and what the functions promise (`Contract`).
pub mod Bytes
pub mod Ranges
pub mod Contents
pub mod Format
pub mod Contract
