-- The modules of this crate's definitions.
pub mod Bytes
pub mod Shapes
pub mod Messages
pub mod Forms
pub mod Lines
pub mod Drafts
pub mod Reading
pub mod Texts
pub mod Valid
pub mod Draws
pub mod Sizes
pub mod Commands
