pub mod Connections
pub mod Lists
pub mod Nodes
pub mod Queues
pub mod Records
pub mod Runs
pub mod Severals
