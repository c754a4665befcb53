pub mod Covers
pub mod Fault
pub mod Text
