-- The modules of this crate's proofs.
pub mod Growing
pub mod Passing
pub mod Windows
