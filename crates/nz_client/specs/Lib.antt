-- The modules of this crate's definitions.
pub mod Growing
pub mod Models
