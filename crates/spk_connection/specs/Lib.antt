pub mod Data
pub mod Fault
pub mod Step
pub mod Run
