-- The modules of this crate's definitions.
pub mod Buffers
pub mod Keeping
pub mod Offers
pub mod Places
