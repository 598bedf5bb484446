-- The modules of this crate's definitions.
pub mod schedule
pub mod alone
pub mod threads
