-- The modules of this crate's definitions.
pub mod Notions
pub mod Ground
pub mod Views
pub mod Tests
pub mod Example
pub mod Members
