-- Runs worked by computation.
pub mod Play
pub mod WorkedRuns
pub mod WorkedSteps
pub mod ViewChangeRun
pub mod RejoinRun
