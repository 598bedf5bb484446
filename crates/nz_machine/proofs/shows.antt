-- What a step shows: the messages that it sends, and what they say of the state.
pub mod Shows
pub mod ViewsShow
pub mod RejoinsShow
pub mod Replies
pub mod Following
pub mod OthersShow
pub mod Snapshots
pub mod SentMessages
pub mod ReadShows
