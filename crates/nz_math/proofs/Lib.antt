-- The modules of this crate's proofs.
pub mod Counting
pub mod Marks
pub mod Sharing
pub mod Upto
pub mod Twos
