-- The modules of this crate's proofs.
pub mod Bytes
pub mod Headers
pub mod Parts
pub mod Readings
