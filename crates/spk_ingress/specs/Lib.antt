pub mod Fault
pub mod Frame
pub mod Lanes
pub mod Passes
