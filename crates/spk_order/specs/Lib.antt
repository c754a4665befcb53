pub mod Ordered
pub mod Step
