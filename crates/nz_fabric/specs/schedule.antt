-- What of a scenario is due in each tick.
pub mod Calendars
pub mod Posting
pub mod Dues
pub mod Numbered
pub mod Agendas
