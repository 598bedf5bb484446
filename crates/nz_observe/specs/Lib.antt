-- The modules of this crate's definitions.
pub mod Ticks
pub mod Observed
pub mod Following
pub mod Observing
