-- The modules of this crate's proofs.
pub mod Codecs
pub mod Fields
pub mod Messages
pub mod Envelopes
pub mod Follows
pub mod RisingIds
pub mod Loops
pub mod Writes
pub mod Valid
