-- The network of a run on several threads.
pub mod Prefixes
pub mod Adding
pub mod Counting
pub mod Sharing
pub mod Taking
pub mod Batching
pub mod Pushing
