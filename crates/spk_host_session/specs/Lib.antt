pub mod Fault
pub mod Data
pub mod Packets
pub mod Step
pub mod View
pub mod Answer
