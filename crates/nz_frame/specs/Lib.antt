-- The modules of this crate's definitions.
pub mod Address
pub mod Grammar
pub mod Parts
pub mod Refusal
