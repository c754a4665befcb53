pub mod Apart
pub mod Limits
