-- The modules of this crate's definitions.
pub mod Count
pub mod Quorum
