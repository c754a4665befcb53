pub mod Data
pub mod Past
pub mod Step
