-- The modules of this crate's proofs.
pub mod Deliveries
pub mod Lanes
pub mod Turns
