-- Laws of journals.
pub mod InTurn
pub mod Accepting
pub mod Rows
pub mod EventsAreRead
pub mod NotedEvents
pub mod NewRequests
pub mod JournalPrefixes
