-- Runs of the world: its steps, what happens in them, and what is known of them.
pub mod World
pub mod Steps
pub mod Deployments
pub mod Events
pub mod History
pub mod OneHistory
pub mod Leading
pub mod Incarnations
pub mod Begun
pub mod Knowledge
pub mod Committed
pub mod Schedule
pub mod Hearing
pub mod Shows
