pub mod Grows
pub mod Held
pub mod Rows
pub mod Runs
pub mod Steps
