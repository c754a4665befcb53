pub mod Calls
pub mod Data
pub mod Fault
pub mod PacketIds
pub mod Parts
pub mod Past
pub mod Step
