-- The modules of this crate's definitions.
pub mod Courses
pub mod Fields
pub mod Fates
pub mod Known
pub mod Passes
pub mod States
pub mod Story
