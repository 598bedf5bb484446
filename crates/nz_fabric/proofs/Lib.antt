-- The modules of this crate's proofs.
pub mod calendars
pub mod one_thread
pub mod several_threads
