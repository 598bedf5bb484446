-- The modules of this crate's proofs.
pub mod Coming
pub mod Following
pub mod Passing
pub mod Sending
