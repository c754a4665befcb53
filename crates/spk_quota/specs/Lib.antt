pub mod Data
pub mod Figures
pub mod Held
pub mod Step
pub mod View
pub mod Calls
pub mod Names
