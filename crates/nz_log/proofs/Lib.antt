-- The modules of this crate's proofs.
pub mod Calling
pub mod Digests
pub mod Indexing
pub mod Keeping
pub mod Lists
pub mod Modifying
pub mod Next
pub mod Moving
pub mod Paging
pub mod Placing
pub mod Putting
pub mod Replacing
pub mod LedKeys
pub mod Summing
