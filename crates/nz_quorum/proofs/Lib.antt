-- The modules of this crate's proofs.
mod Support
mod Leads
pub mod Choosing
