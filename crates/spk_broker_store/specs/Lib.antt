pub mod Data
pub mod Fault
pub mod Kept
pub mod Step
