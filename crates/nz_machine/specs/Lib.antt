-- The modules of this crate's definitions.
pub mod rules
pub mod runs
pub mod journals
