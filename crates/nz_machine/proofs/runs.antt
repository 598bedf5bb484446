-- Laws of whole runs, and runs in order.
pub mod Due
pub mod Runs
pub mod Moments
pub mod Sources
pub mod FitRuns
pub mod ParcelMembers
pub mod Scheduling
pub mod DueMayHappen
pub mod FreshNonces
pub mod MayTurn
pub mod Replaying
pub mod OwnStates
pub mod Deploying
