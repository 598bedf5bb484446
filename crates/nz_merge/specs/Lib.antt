-- The modules of this crate's definitions.
pub mod Merged
pub mod Sender
pub mod Fit
