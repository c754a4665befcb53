pub mod Clock
pub mod Noting
pub mod Pings
