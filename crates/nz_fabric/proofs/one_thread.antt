-- The network of a run on one thread.
pub mod Held
pub mod Remembering
