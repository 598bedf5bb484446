-- The modules of this crate's proofs.
pub mod Beginnings
pub mod Ordering
pub mod Walk
pub mod CommonPrefixes
pub mod Logs
pub mod Entries
pub mod Merging
pub mod Search
pub mod Loops
pub mod Sets
pub mod Above
pub mod Turns
pub mod Fitting
pub mod Senders
pub mod Bases
pub mod OwnSenders
