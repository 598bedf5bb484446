-- The modules of this crate's definitions.
pub mod Layout
pub mod Vectors
