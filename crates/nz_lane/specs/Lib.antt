-- The modules of this crate's definitions.
pub mod Items
pub mod Reading
pub mod Stops
pub mod Streams
