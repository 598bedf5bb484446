-- The modules of this crate's proofs.
pub mod Bytes
pub mod Examples
pub mod Keys
