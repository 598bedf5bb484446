-- Journals: the records of a run, and what they say of clients and links.
pub mod Records
pub mod Journals
pub mod ClientProgress
pub mod EventNotes
pub mod Links
pub mod LinksFall
