-- The modules of this crate's definitions.
pub mod Faults
pub mod Memory
pub mod Exposed
