-- The modules of this crate's definitions.
pub mod Calls
pub mod Keeping
pub mod Paging
pub mod Places
pub mod Synced
