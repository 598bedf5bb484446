-- The modules of this crate's proofs.
pub mod Crossing
pub mod CoreSteps
pub mod NextItem
pub mod AllCores
pub mod DealtShares
pub mod FirstCores
pub mod LastCores
mod Settling
mod TickByTick
