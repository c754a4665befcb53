pub mod Broker
pub mod Data
pub mod Rules
pub mod View
