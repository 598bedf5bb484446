-- The modules of this crate's definitions.
pub mod Grammar
pub mod Reading
pub mod Entries
pub mod Sequence
pub mod Table
