pub mod Fault
pub mod Past
pub mod Step
pub mod Text
