-- The modules of this crate's proofs.
pub mod Booleans
pub mod Names
pub mod Keys
pub mod Logs
pub mod Prefixes
pub mod Moments
