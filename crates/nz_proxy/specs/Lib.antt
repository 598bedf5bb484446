-- The modules of this crate's definitions.
pub mod Standings
pub mod Models
pub mod Sending
