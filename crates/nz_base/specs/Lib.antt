-- The modules of this crate's definitions.
pub mod Actor
pub mod Blob
pub mod Cluster
pub mod Key
pub mod Log
pub mod Prefixes
pub mod Moments
