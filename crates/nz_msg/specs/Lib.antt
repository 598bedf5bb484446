-- The modules of this crate's definitions.
pub mod Codec
pub mod Fields
pub mod Messages
pub mod Envelope
pub mod Reading
pub mod RisingIds
pub mod Rest
pub mod Writing
