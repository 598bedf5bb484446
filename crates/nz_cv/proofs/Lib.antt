-- The modules of this crate's proofs.
pub mod Collecting
pub mod Examples
pub mod Merging
