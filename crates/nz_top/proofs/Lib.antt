-- The modules of this crate's proofs.
mod Checks
mod Inputs
mod Excluded
pub mod Playable
pub mod Pace
mod Watches
mod Answering
