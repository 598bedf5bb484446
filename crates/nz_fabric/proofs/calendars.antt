-- What is due in each tick.
pub mod Numbering
pub mod Striking
pub mod Marking
pub mod Dating
pub mod Sending
pub mod Calling
pub mod Agendas
