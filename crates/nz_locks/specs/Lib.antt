-- The modules of this crate's definitions.
pub mod Uses
pub mod Tenures
pub mod Holdings
pub mod Clean
pub mod Exclusive
