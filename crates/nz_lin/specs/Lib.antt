-- The modules of this crate's definitions.
pub mod Laws
pub mod Snapshots
pub mod Replied
