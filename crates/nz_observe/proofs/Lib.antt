-- The modules of this crate's proofs.
pub mod Ticks
pub mod Rising
pub mod Places
pub mod Follows
pub mod Printing
pub mod Observes
