pub mod Fault
pub mod Ring
