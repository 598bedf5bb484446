-- The modules of this crate's proofs.
pub mod Inserting
pub mod Keeping
pub mod Releasing
pub mod Removing
