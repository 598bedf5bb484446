-- The modules of this crate's definitions.
pub mod Text
pub mod Trace
pub mod Reading
pub mod Fit
