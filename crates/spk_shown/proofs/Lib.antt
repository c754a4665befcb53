pub mod Events
pub mod Alive
pub mod Calls
pub mod Consumed
pub mod Marked
pub mod Session
