pub mod Data
pub mod Step
pub mod Room
pub mod Inputs
pub mod Plain
pub mod Soon
