-- The modules of this crate's proofs.
pub mod Held
pub mod Sizes
pub mod Spelled
pub mod Read
pub mod Streams
