pub mod Calendars
pub mod Sharing
