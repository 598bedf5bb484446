-- The modules of this crate's definitions.
pub mod Tallies
pub mod Choices
pub mod Support
