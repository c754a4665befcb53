pub mod Ends
pub mod Fits
pub mod Records
pub mod Replaying
pub mod Restart
