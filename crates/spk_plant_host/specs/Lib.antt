pub mod Calls
pub mod Told
pub mod Ends
pub mod Fault
pub mod Steps
