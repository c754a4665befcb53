pub mod Fault
pub mod Logs
pub mod Noted
