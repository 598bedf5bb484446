-- The network of a run on one thread.
pub mod States
