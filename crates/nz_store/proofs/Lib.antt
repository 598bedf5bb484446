-- The modules of this crate's proofs.
pub mod Texts
pub mod Fields
pub mod Spellings
pub mod Tables
pub mod Maps
pub mod Turns
pub mod ValidAnswers
pub mod Session
