-- A run on several threads: its records, its batches, and its chronicles.
pub mod Records
pub mod Chronicles
pub mod Shared
pub mod Steps
pub mod Takes
