-- The moves that each rule of a replica is made of.
pub mod Moves
pub mod MoveRules
pub mod MoveRuns
pub mod MoveFacts
