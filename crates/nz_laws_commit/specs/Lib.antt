-- The modules of this crate's definitions.
pub mod States
pub mod Supports
pub mod Premises
pub mod Machines
pub mod Does
pub mod Instance
pub mod Once
pub mod Example
pub mod Present
pub mod Stable
pub mod Starts
