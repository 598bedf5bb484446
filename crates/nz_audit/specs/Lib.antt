-- The modules of this crate's definitions.
pub mod Sources
pub mod Noting
pub mod Memories
pub mod Cores
pub mod Leading
pub mod Prefixes
pub mod Readings
