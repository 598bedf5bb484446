-- The modules of this crate's proofs.
mod Tables
mod Sends
mod Fitting
mod Noting
mod Passing
