mod Entries
mod Parted
pub mod Rows
pub mod Telling
mod Unread
