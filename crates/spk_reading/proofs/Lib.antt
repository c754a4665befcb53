pub mod Sessions
pub mod Wholes
pub mod Told
pub mod Payloads
