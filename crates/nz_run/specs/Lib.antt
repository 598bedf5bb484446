-- The modules of this crate's definitions.
pub mod Casts
pub mod Playing
pub mod Stages
