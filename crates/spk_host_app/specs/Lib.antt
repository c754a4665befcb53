pub mod Calls
pub mod Data
pub mod Fault
pub mod Log
pub mod Meant
pub mod Past
pub mod Step
pub mod View
