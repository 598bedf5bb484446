-- The modules of this crate's proofs.
pub mod Decoded
pub mod Histories
pub mod OneHistory
pub mod Snapshots
pub mod Replied
pub mod Determined
mod PutAndGet
