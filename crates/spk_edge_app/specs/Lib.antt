pub mod Calls
pub mod Data
pub mod Fault
pub mod Lists
pub mod Run
pub mod Step
pub mod View
