pub mod History
pub mod Lists
pub mod Places
pub mod Taking
pub mod Worked
