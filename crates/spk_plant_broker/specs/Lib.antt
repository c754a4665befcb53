pub mod Bells
pub mod Calls
pub mod Data
pub mod Done
pub mod Fault
pub mod Holding
pub mod Log
pub mod Step
