pub mod Flags
pub mod Places
