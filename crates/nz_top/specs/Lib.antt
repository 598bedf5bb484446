-- The modules of this crate's definitions.
pub mod Bytes
pub mod Help
pub mod Words
pub mod Reports
pub mod Calls
pub mod Checking
pub mod Called
pub mod Watching
