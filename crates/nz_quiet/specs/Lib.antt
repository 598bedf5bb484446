-- The modules of this crate's definitions.
pub mod Quiet
pub mod Folds
pub mod Requests
pub mod Replicas
pub mod Replies
pub mod Invariant
pub mod Words
pub mod ProxyTicks
pub mod ClientTicks
pub mod Pace
