-- The modules of this crate's proofs.
pub mod Fouls
mod Passes
mod Effects
mod Executing
mod Holders
pub mod Excluding
pub mod CleanRuns
