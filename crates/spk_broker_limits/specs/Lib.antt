pub mod Giving
pub mod Identifiers
pub mod Limits
pub mod Wills
