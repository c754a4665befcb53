pub mod Data
pub mod Fault
pub mod History
pub mod Keeping
pub mod Part
pub mod Row
pub mod View
