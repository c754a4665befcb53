pub mod Fault
pub mod Data
pub mod Meaning
pub mod Answer
pub mod View
