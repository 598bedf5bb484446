-- The modules of this crate's proofs.
pub mod Bounds
pub mod Examples
pub mod Order
pub mod Pushing
pub mod Medians
