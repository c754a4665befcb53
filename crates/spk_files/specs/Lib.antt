pub mod Fault
pub mod Begun
pub mod Plan
pub mod Users
